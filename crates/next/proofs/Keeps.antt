-- What the bursts at a round's end leave of the turn and of the round's list. Assumes nothing.
use Rattle.std.proofs.Common.{◌≡◌, ℕ, Bool, true, false, cond, eqb, List, [], refl}
use lib.Ieee.{Float}
use Rattle.bits.specs.Mask.{has_bit}
use Rattle.bits.proofs.Loops.{fold_keeps}
use Rattle.level.specs.declared.Level.{Level}
use Rattle.level.specs.declared.Level.TheVariants.{Unheard, Decibels}
use Rattle.roster.specs.declared.Member.{Member}
use Rattle.roster.specs.Relays.{promotable_at}
use Rattle.net.specs.declared.Station.{Station}
use Rattle.net.specs.declared.Wait.{Wait}
use Rattle.net.specs.State.{with_round, with_rxdirty, also_news, one_list}
use Rattle.net.specs.Net.{Said, said, is_idle}
use Rattle.bursts.specs.Rows.{member_in}
use Rattle.bursts.specs.Bursts.{sends, acks_burst, list_sent, tell_at, tell_all, list_told, list_words, rx_list_burst}
use Rattle.bursts.specs.Reroute.{with_member_in, floor_of, promote_with, promote_at, promote_all, leaves_of, new_relay, must_move, move_at, move_all, reroute_of}

-- after a burst its end is waited for
pub acks_busy : (s : Station) → is_idle (acks_burst s).station.wait.turn ≡ false
unfolding acks_burst
acks_busy s = refl

-- ### Rerouting changes members and news

module _ (w : Wait) where
  abbrev Waits : Said → Type 0
  Waits x = x.station.wait ≡ w

  promote_with_lem : (l : Level) (i : ℕ) (x : Said) → Waits x → Waits (promote_with l i x)
  promote_with_lem Unheard i x h = h
  promote_with_lem (Decibels snr) i x h = h

  promote_step : (floor : Float) (i : ℕ) (x : Said) → Waits x → Waits (promote_at floor i x)
  unfolding promote_at
  promote_step floor i x h =
      promote_with_lem (promotable_at (has_bit x.station.used i) (member_in x.station i) floor) i x h

  move_by : (a b : Bool) (c : ℕ) (x : Said) (k : Member) (ws : List ℕ) → Waits x
      → Waits (cond a (cond b x (said (also_news (with_member_in x.station c k) c) ws)) x)
  move_by true true c x k ws h = h
  move_by true false c x k ws h = h
  move_by false b c x k ws h = h

  move_step : (leaves c : ℕ) (x : Said) → Waits x → Waits (move_at leaves c x)
  unfolding move_at
  move_step leaves c x h = move_by (must_move leaves x.station c) (eqb (new_relay x.station c) 63) c x _ _ h

pub reroute_wait : (s : Station) → (reroute_of s).station.wait ≡ s.wait
unfolding reroute_of move_all promote_all
reroute_wait s =
    fold_keeps (Waits s.wait) (move_at (leaves_of (promote_all s).station)) (move_step s.wait (leaves_of (promote_all s).station)) 62 0 (promote_all s)
    (fold_keeps (Waits s.wait) (promote_at (floor_of s)) (promote_step s.wait (floor_of s)) 62 0 (said s []) refl)

-- ### A received list is sent, or what it would tell is only noted

list_by : (b : Bool) (t : Station) (ws : List ℕ) → b ≡ true → is_idle (cond b (said (one_list (sends t)) ws) (said t [])).station.wait.turn ≡ false
list_by true t ws e = refl
list_by false t ws e = cc

pub list_busy : (s : Station) → list_sent s ≡ true → is_idle (rx_list_burst s).station.wait.turn ≡ false
unfolding rx_list_burst
list_busy s e = list_by (list_sent s) (list_told s) (list_words s) e

pub record Unsent (s : Station) (x : Said) : Type 0 where
  pub wait : x.station.wait ≡ s.wait
  pub list : x.station.round.list ≡ s.round.list
  pub words : x.words ≡ []

told_wait : (s : Station) → (tell_all s).wait ≡ s.wait
unfolding tell_all
told_wait s = fold_keeps (λ t. t.wait ≡ s.wait) tell_at (λ i t h. h) 62 0 s refl

told_list : (s : Station) → (tell_all s).round.list ≡ s.round.list
unfolding tell_all
told_list s = fold_keeps (λ t. t.round.list ≡ s.round.list) tell_at (λ i t h. h) 62 0 s refl

unsent_by : (s : Station) (b : Bool) (t : Station) (ws : List ℕ) → b ≡ false → t.wait ≡ s.wait → t.round.list ≡ s.round.list → Unsent s (cond b (said (one_list (sends t)) ws) (said t []))
unsent_by s true t ws e f g = record { wait = cc; list = cc; words = cc }
unsent_by s false t ws e f g = record { wait = f; list = g; words = refl }

pub unsent : (s : Station) → list_sent s ≡ false → Unsent s (rx_list_burst s)
unfolding rx_list_burst
unsent s e =
    let u = with_round s (with_rxdirty s.round false) in
    unsent_by s (list_sent s) (list_told s) (list_words s) e (told_wait u) (told_list u)
