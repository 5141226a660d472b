-- One turn of promotion and one of moving a leaf, as the loops do them: the member, the mask of news and the word are chosen one by one.
-- And who could relay, after a leaf has moved. Assumes nothing.
use mathlib.Core.Path.{◌≡◌, refl, sym, ap, ◌∙◌}
use mathlib.Core.Bool.{Bool, true, false, not, cond, ◌&&◌, and-false}
use mathlib.Core.List.{List, [], ◌∷◌, ◌++◌, append_assoc, append-nil}
use mathlib.Core.Logic.{⊎_elim}
use Prim.Native.Nat.{ℕ}
use lib.Dec.{eqb}
use lib.Ieee.{Float}
use lib.ListN.{length, get_or, set, get_or-eq_default}
use lib.Seq.{set-get_or, set_out, get_or-set_same, get_or-set_other}
use Rattle.bits.specs.Mask.{has_bit, with_bit, without_bit}
use Rattle.bits.proofs.Lists.{lt_or_le}
use Rattle.bits.proofs.Laws.{has_none}
use Rattle.bits.proofs.Loops.{fold_keeps}
use Rattle.level.specs.declared.Level.{Level}
use Rattle.level.specs.declared.Level.TheVariants.{Unheard, Decibels}
use Rattle.level.specs.Levels.{is_heard}
use Rattle.out.specs.Encode.{event_word}
use Rattle.recent.specs.Readings.{no_recent}
use Rattle.roster.specs.declared.Member.{Member}
use Rattle.roster.specs.Members.{no_member, rerouted_to}
use Rattle.roster.specs.Relays.{could_relay, promotable_at}
use Rattle.roster.proofs.Silent.{tally_same}
use Rattle.net.specs.declared.Station.{Station}
use Rattle.net.specs.State.{with_round, with_treenews, with_recent, recent_at}
use Rattle.net.specs.Net.{Said, said}
use Rattle.bursts.specs.Rows.{member_in, mask_where}
use Rattle.bursts.specs.Reroute.{with_member_in, able_of, promoted_by, recent_by, promote_with, promote_at, new_relay, move_to, must_move, move_at, move_all, leaves_of}
use Rattle.bursts.proofs.Masks.{mask_without}
use Rattle.bursts.proofs.Saying.{ahead, fold_ahead}

-- the station with another member in slot i, the total of silent boats with it, and other news
abbrev pub changed : Station → ℕ → Member → ℕ → Station
changed s i m news = with_round (with_member_in s i m) (with_treenews s.round news)

-- where nothing changes
changed_none : (s : Station) (i : ℕ) (ws : List ℕ) → said s ws ≡ said (changed s i (member_in s i) s.round.treenews) (ws ++ [])
changed_none s i ws = rw (tally_same, set-get_or, append-nil)

-- a leaf that was heard directly at x leaves its relay; Unheard: it stays
abbrev pub promoted_in : Level → ℕ → Station → Station
promoted_in x i s =
    with_recent (changed s i (promoted_by x (member_in s i)) (cond (is_heard x) (with_bit s.round.treenews i) s.round.treenews))
    (set s.recent i (recent_by x (recent_at s i)))

promote_by_lem : (x : Level) (i : ℕ) (s : Station) (ws : List ℕ)
    → promote_with x i (said s ws) ≡ said (promoted_in x i s) (ws ++ cond (is_heard x) (event_word 5 i 63 ∷ []) [])
promote_by_lem Unheard i s ws = changed_none s i ws ∙ rw (set-get_or s.recent i no_recent)
promote_by_lem (Decibels snr) i s ws = refl

-- x: the level at which the boat in slot i was heard directly, where it is to leave its relay
pub promote_turn : (floor : Float) (i : ℕ) (s : Station) (x : Level) → x ≡ promotable_at (has_bit s.used i) (member_in s i) floor → (ws : List ℕ)
    → promote_at floor i (said s ws) ≡ said (promoted_in x i s) (ws ++ cond (is_heard x) (event_word 5 i 63 ∷ []) [])
unfolding promote_at
promote_turn floor i s x e ws = ap (λ (y : Level). promote_with y i (said s ws)) (sym e) ∙ promote_by_lem x i s ws

-- a leaf goes to slot r; 63: it stays
abbrev pub moved_to : ℕ → ℕ → Station → Station
moved_to r c s =
    changed s c (cond (eqb r 63) (member_in s c) (rerouted_to (member_in s c) r)) (cond (not (eqb r 63)) (with_bit s.round.treenews c) s.round.treenews)

move_by : (t : Bool) (r c : ℕ) (s : Station) (ws : List ℕ)
    → cond t (said s ws) (said (changed s c (rerouted_to (member_in s c) r) (with_bit s.round.treenews c)) (ws ++ (event_word 5 c r ∷ []))) ≡ said (changed s c (cond t (member_in s c) (rerouted_to (member_in s c) r)) (cond (not t) (with_bit s.round.treenews c) s.round.treenews)) (ws ++ cond (not t) (event_word 5 c r ∷ []) [])
move_by true r c s ws = changed_none s c ws
move_by false r c s ws = refl

moves : (down : Bool) (r c : ℕ) (s : Station) (ws : List ℕ)
    → cond down (move_to r c (said s ws)) (said s ws) ≡ said (moved_to (cond down r 63) c s) (ws ++ cond (not (eqb (cond down r 63) 63)) (event_word 5 c (cond down r 63) ∷ []) [])
moves true r c s ws = move_by (eqb r 63) r c s ws
moves false r c s ws = changed_none s c ws

pub move_turn : (leaves c : ℕ) (s : Station) (r : ℕ) → r ≡ cond (must_move leaves s c) (new_relay s c) 63 → (ws : List ℕ)
    → move_at leaves c (said s ws) ≡ said (moved_to r c s) (ws ++ cond (not (eqb r 63)) (event_word 5 c r ∷ []) [])
unfolding move_at
move_turn leaves c s r e ws = rw e (moves (must_move leaves s c) (new_relay s c) c s ws)

-- ### Who could relay

abbrev able_by : ℕ → List Member → ℕ → Bool
able_by used ms i = has_bit used i && could_relay (get_or ms i no_member)

via_set : (ms : List Member) (c r : ℕ) → eqb r 63 ≡ false → could_relay (get_or (set ms c (rerouted_to (get_or ms c no_member) r)) c no_member) ≡ false
via_set ms c r e =
    ⊎_elim
    (λ h. rw (get_or-set_same ms c (rerouted_to (get_or ms c no_member) r) no_member h, e))
    (λ h. rw (set_out ms c (rerouted_to (get_or ms c no_member) r) h, get_or-eq_default ms no_member h))
    (lt_or_le c (length ms))

able_by_lem : (used : ℕ) (ms : List Member) (c r : ℕ) (t : Bool) → eqb r 63 ≡ t
    → cond (not t) (without_bit (mask_where (able_by used ms)) c) (mask_where (able_by used ms)) ≡ mask_where (able_by used (set ms c (cond t (get_or ms c no_member) (rerouted_to (get_or ms c no_member) r))))
able_by_lem used ms c r true e = ap (λ (l : List Member). mask_where (able_by used l)) (sym (set-get_or ms c no_member))
able_by_lem used ms c r false e =
    sym
    (mask_without
    (able_by used (set ms c (rerouted_to (get_or ms c no_member) r)))
    (able_by used ms)
    c
    (rw (via_set ms c r e) (and-false (has_bit used c)))
    (λ i n. rw (get_or-set_other ms c i (rerouted_to (get_or ms c no_member) r) no_member n)))

-- a boat that moved has a relay, and can relay no more
pub able_moved : (r c : ℕ) (s : Station) → cond (not (eqb r 63)) (without_bit (able_of s) c) (able_of s) ≡ able_of (moved_to r c s)
able_moved r c s = able_by_lem s.used s.members c r (eqb r 63) refl

-- ### The whole pass

ahead_by : (b t : Bool) (s : Station) (x : Said) (ws e : List ℕ)
    → cond b (cond t (ahead ws x) (said s ((ws ++ x.words) ++ e))) (ahead ws x) ≡ ahead ws (cond b (cond t x (said s (x.words ++ e))) x)
ahead_by true true s x ws e = refl
ahead_by true false s x ws e = ap (said s) (append_assoc ws x.words e)
ahead_by false t s x ws e = refl

ahead_at : (leaves : ℕ) (ws : List ℕ) (c : ℕ) (x : Said) → move_at leaves c (ahead ws x) ≡ ahead ws (move_at leaves c x)
unfolding move_at
ahead_at leaves ws c x =
    let s = x.station in
    let r = new_relay s c in
    ahead_by (must_move leaves s c) (eqb r 63) (changed s c (rerouted_to (member_in s c) r) (with_bit s.round.treenews c)) x ws (event_word 5 c r ∷ [])

-- words said before it stand before what it says
pub move_ahead : (ws : List ℕ) (x : Said) → move_all (ahead ws x) ≡ ahead ws (move_all x)
unfolding move_all
move_ahead ws x = fold_ahead (move_at (leaves_of x.station)) ws (ahead_at (leaves_of x.station) ws) 62 0 x

-- after what d did
pub move_after : (d : Said) (t : Station) → t ≡ d.station → ahead d.words (move_all (said t [])) ≡ move_all d
move_after d t e =
    sym (move_ahead d.words (said t [])) ∙ ap move_all (rw (e, append-nil))

-- no leaf, no move
pub move_none : (x : Said) → leaves_of x.station ≡ 0 → move_all x ≡ x
unfolding move_all move_at
move_none x e =
    rw e (fold_keeps (λ (y : Said). y ≡ x) (move_at 0) (λ i y h. rw (has_none i) h) 62 0 x refl)
