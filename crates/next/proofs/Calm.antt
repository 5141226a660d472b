-- The end of a round at which nothing is said and nobody is moved: what the code then leaves in place is what `round_then` gives. Assumes nothing.
use Rattle.std.proofs.Common.{◌≡◌, ℕ, zero, suc, ◌+◌, ◌%◌, ◌^◌, ◌<◌, ◌≤◌, Bool, true, false, cond, not, ◌&&◌, ◌||◌, eqb, List, [], length, get_or, set, sym, refl, ap, ◌∙◌, ⊎_elim, arith, get_or-set_other, get_or-set_same, eq-eqb}
use lib.Ieee.{Float}
use lib.Seq.{set-get_or, set_out}
use Rattle.bits.specs.Loop.{fold, any}
use Rattle.bits.specs.Mask.{has_bit}
use Rattle.bits.specs.Stop.{stop}
use Rattle.bits.proofs.Lists.{cond_true, cond_false, or_false, eq_or_not, lt_or_le}
use Rattle.bits.proofs.Loops.{fold_keeps, fold_keeps_below, any_none}
use Rattle.level.specs.declared.Level.{Level}
use Rattle.level.specs.declared.Level.TheVariants.{Unheard, Decibels}
use Rattle.level.specs.Levels.{is_heard}
use Rattle.out.specs.declared.Output.{Output}
use Rattle.out.proofs.Laws.{writes_none}
use Rattle.stream.specs.Window.{holes_of}
use Rattle.roster.specs.declared.Member.{Member}
use Rattle.roster.specs.Members.{no_member, is_news, told_now}
use Rattle.roster.specs.Relays.{promotable_at, is_leaf}
use Rattle.net.specs.declared.Station.{Station}
use Rattle.net.specs.declared.Round.{Round}
use Rattle.net.specs.State.{member_at, with_members, with_round, with_totals, with_list, with_rxsent, with_rxdirty, with_number, with_rounds}
use Rattle.net.specs.Net.{plus, is_idle, Said, said, Does}
use Rattle.bursts.specs.Rows.{member_in, any_holes}
use Rattle.bursts.specs.Bursts.{acks_burst, rx_list_burst, tell_of, tell_at, tell_all, list_sent, list_told}
use Rattle.bursts.specs.Reroute.{floor_of, promote_with, promote_at, promote_all, leaf_at, leaves_of, is_down, must_move, move_at, move_all, reroute_of}
use Rattle.bursts.proofs.Masks.{mask_where_lem}
use Rattle.bursts.proofs.Saying.{does_as}
use Rattle.next.specs.Next.{list_for, drawn}
use Rattle.next.specs.Code.Decision.{rerouted_then, rerouting_of, list_then, round_then, list_in, list_due, tell_in, told_in, list_round, eventful_in, no_list_yet}

-- ### What the list would tell

none_told : (used : ℕ) (ms : List Member) → told_in false used ms ≡ ms
unfolding told_in
none_told used ms = fold_keeps (λ (ks : List Member). ks ≡ ms) (tell_in false used) (λ i ks e. set-get_or ks i no_member ∙ e) 62 0 ms refl

tell_parts : (s : Station) (n i : ℕ) (ms : List Member) → fold tell_at n i (with_members s ms) ≡ with_members s (fold (tell_in true s.used) n i ms)
unfolding fold
tell_parts s zero i ms = refl
tell_parts s (suc n) i ms = tell_parts s n (suc i) (tell_in true s.used i ms)

all_told : (s : Station) → tell_all s ≡ with_members s (told_in true s.used s.members)
unfolding tell_all told_in
all_told s = tell_parts s 62 0 s.members

tell_up : (t : Bool) (m : Member) → (cond t (told_now m) m).up ≡ m.up
tell_up true m = refl
tell_up false m = refl

up_set : (ks : List Member) (i k : ℕ) (b : Bool) → (get_or (set ks i (tell_of b (get_or ks i no_member))) k no_member).up ≡ (get_or ks k no_member).up
up_set ks i k b =
    let m = get_or ks i no_member in
    ⊎_elim
    (λ e. rw (← e)
    (⊎_elim
    (λ h. ap (λ (x : Member). x.up) (get_or-set_same ks i (tell_of b m) no_member h) ∙ tell_up (b && is_news m) m)
    (λ h. ap (λ (l : List Member). (get_or l i no_member).up) (set_out ks i (tell_of b m) h))
    (lt_or_le i (length ks))))
    (λ n. ap (λ (x : Member). x.up) (get_or-set_other ks i k (tell_of b m) no_member (λ q. n (sym q))))
    (eq_or_not i k)

-- messages stay as they are
up_kept : (due : Bool) (used : ℕ) (ms : List Member) (k : ℕ) → (get_or (told_in due used ms) k no_member).up ≡ (get_or ms k no_member).up
unfolding told_in
up_kept due used ms k =
    fold_keeps (λ (ks : List Member). (get_or ks k no_member).up ≡ (get_or ms k no_member).up) (tell_in due used) (λ i ks e. up_set ks i k (due && has_bit used i) ∙ e) 62 0 ms refl

-- ### Nobody is moved

unheard : (x : Level) → is_heard x ≡ false → x ≡ Unheard
unheard Unheard e = refl
unheard (Decibels snr) e = cc

no_move : (here holes leaf down : Bool) → here && (holes || (leaf && down)) ≡ false → (here && leaf) && down ≡ false
no_move false holes leaf down e = refl
no_move true false leaf down e = e
no_move true true leaf down e = cc

no_hole : (here holes move : Bool) → here && (holes || move) ≡ false → here && holes ≡ false
no_hole false holes move e = refl
no_hole true false move e = refl
no_hole true true move e = e

module _ (u : Station) (h : (i : ℕ) → i < 62 → eventful_in u.members u.used u.settings i ≡ false) where
  promote_one : (i : ℕ) → i < 62 → promote_at (floor_of u) i (said u []) ≡ said u []
  unfolding promote_at
  promote_one i l =
      ap (λ (x : Level). promote_with x i (said u [])) (unheard (promotable_at (has_bit u.used i) (member_in u i) (floor_of u)) (or_false _ _ (h i l)).0)

  promote_none : promote_all u ≡ said u []
  unfolding promote_all
  promote_none =
      fold_keeps_below (λ (x : Said). x ≡ said u []) (promote_at (floor_of u)) 62 0
      (λ i x l q e. ap (promote_at (floor_of u) i) e ∙ promote_one i (omega arith)) (said u []) refl

  must_not : (c : ℕ) → c < 62 → must_move (leaves_of u) u c ≡ false
  must_not c l =
      rw (mask_where_lem (leaf_at u) c l)
      (no_move (has_bit u.used c) (holes_of (member_in u c).up) (is_leaf (member_in u c) u.settings.misslimit) (is_down u.used (member_in u c) (member_at u (member_in u c).via) u.settings.misslimit)
      (or_false (is_heard (promotable_at (has_bit u.used c) (member_in u c) (floor_of u))) _ (h c l)).1)

  move_one : (c : ℕ) → c < 62 → move_at (leaves_of u) c (said u []) ≡ said u []
  unfolding move_at
  move_one c l = cond_false (must_move (leaves_of u) u c) _ _ (must_not c l)

  pub none_moved : reroute_of u ≡ said u []
  unfolding reroute_of move_all
  none_moved =
      ap move_all promote_none
      ∙ fold_keeps_below (λ (x : Said). x ≡ said u []) (move_at (leaves_of u)) 62 0
      (λ c x l q e. ap (move_at (leaves_of u) c) e ∙ move_one c (omega arith)) (said u []) refl

-- ### Nothing is said

any_false : (p : ℕ → Bool) (n i : ℕ) → ((j : ℕ) → i ≤ j → j < i + n → p j ≡ false) → any p n i ≡ false
unfolding any
any_false p zero i h = refl
any_false p (suc n) i h = rw (h i (omega arith) (omega arith)) (any_false p n (suc i) (λ j l q. h j (omega arith) (omega arith)))

-- the station behind a received list that is not sent
abbrev pub calmed : Station → Station
calmed s = with_members (with_round s (list_round s.round)) (told_in (list_due s.round) s.used s.members)

abbrev looked : Station → Station
looked s = with_round s (with_rxsent s.round s.round.number)

not_due : (a b : Bool) → not a && not b ≡ false → a || b ≡ true
not_due true b e = refl
not_due false true e = refl
not_due false false e = sym e

is_due_lem : (a b : Bool) → not a && not b ≡ true → a || b ≡ false
is_due_lem true b e = sym e
is_due_lem false true e = sym e
is_due_lem false false e = refl

module _ (s : Station) (now : Float) (idle : is_idle s.wait.turn ≡ true) (clean : s.round.rxdirty ≡ false) (news : s.round.treenews ≡ 0)
    (none : any (eventful_in (told_in (list_due s.round) s.used s.members) s.used s.settings) 62 0 ≡ false) where
  still : (i : ℕ) → i < 62 → eventful_in (calmed s).members s.used s.settings i ≡ false
  still i l = any_none _ 62 0 none i (omega arith) (omega arith)

  hole_none : (i : ℕ) → i < 62 → has_bit s.used i && holes_of (member_in s i).up ≡ false
  hole_none i l =
      rw (← up_kept (list_due s.round) s.used s.members i)
      (no_hole (has_bit s.used i) (holes_of (member_in (calmed s) i).up) _ (or_false (is_heard (promotable_at (has_bit s.used i) (member_in (calmed s) i) (floor_of s))) _ (still i l)).1)

  holes_none : any_holes s ≡ false
  holes_none = any_false _ 62 0 (λ j l q. hole_none j (omega arith))

  not_sent : list_sent (looked s) ≡ false
  unfolding list_sent
  not_sent = rw (clean, holes_none)

  list_told_lem : list_due s.round ≡ true → list_told (looked s) ≡ calmed s
  list_told_lem e =
      all_told (with_round (looked s) (with_rxdirty (looked s).round false))
      ∙ sym (ap (λ (b : Bool). with_members (with_round s (cond b (with_rxdirty (with_rxsent s.round s.round.number) false) s.round)) (told_in b s.used s.members)) e)

  list_said : list_due s.round ≡ true → rx_list_burst (looked s) ≡ said (calmed s) []
  unfolding rx_list_burst
  list_said e = cond_false (list_sent (looked s)) _ (said (list_told (looked s)) []) not_sent ∙ ap (λ (t : Station). said t []) (list_told_lem e)

  calm_same : list_due s.round ≡ false → calmed s ≡ s
  calm_same e =
      ap (λ (b : Bool). with_members (with_round s (cond b (with_rxdirty (with_rxsent s.round s.round.number) false) s.round)) (told_in b s.used s.members)) e
      ∙ ap (with_members s) (none_told s.used s.members)

  round_by : (b : Bool) → list_due s.round ≡ b → round_then s now ≡ rerouting_of (calmed s) now
  unfolding round_then
  round_by false e =
      cond_true _ (rerouting_of s now) _ (not_due (eqb s.round.number 0) (eqb s.round.rxsent s.round.number) e)
      ∙ ap (λ (t : Station). rerouting_of t now) (sym (calm_same e))
  round_by true e =
      cond_false _ (rerouting_of s now) _ (is_due_lem (eqb s.round.number 0) (eqb s.round.rxsent s.round.number) e)
      ∙ ap (λ (x : Said). list_then x now) (list_said e)
      ∙ cond_true (is_idle s.wait.turn) (rerouting_of (calmed s) now) (said (calmed s) []) idle

  news_kept : (b : Bool) → (cond b (with_rxdirty (with_rxsent s.round s.round.number) false) s.round).treenews ≡ s.round.treenews
  news_kept true = refl
  news_kept false = refl

  -- no new list yet
  pub round_no_list_yet : no_list_yet (list_round s.round) now ≡ true → round_then s now ≡ said (calmed s) []
  unfolding rerouting_of
  round_no_list_yet e = round_by (list_due s.round) refl ∙ cond_true (no_list_yet (list_round s.round) now) (said (calmed s) []) (rerouted_then (reroute_of (calmed s)) now) e

  pub round_drawn : no_list_yet (list_round s.round) now ≡ false → round_then s now ≡ said (drawn (calmed s) now) []
  unfolding rerouting_of
  round_drawn e =
      round_by (list_due s.round) refl
      ∙ cond_false (no_list_yet (list_round s.round) now) (said (calmed s) []) (rerouted_then (reroute_of (calmed s)) now) e
      ∙ ap (λ (x : Said). rerouted_then x now) (none_moved (calmed s) still)
      ∙ cond_true (eqb (calmed s).round.treenews 0) (said (drawn (calmed s) now) []) (acks_burst (calmed s)) (eq-eqb _ 0 (news_kept (list_due s.round) ∙ news))

  -- as the calls of the code give it
  pub no_list_yet_did : {ks : List Member} {k : Round} {o : Output}
      → ks ≡ told_in (list_due s.round) s.used s.members → k ≡ list_round s.round → no_list_yet k now ≡ true
      → Does (round_then s now) (with_round (with_members s ks) k) o o
  no_list_yet_did {ks} {k} {o} a b e =
      does_as (record { station = rw (a, b); wrote = writes_none o }) (sym (round_no_list_yet (rw b at e)))

  pub drawn_did : {ks : List Member} {k q : Round} {list rounds : ℕ} {o : Output}
      → ks ≡ told_in (list_due s.round) s.used s.members → k ≡ list_round s.round → no_list_yet k now ≡ false
      → q ≡ with_number k ((k.number + 1) % 2 ^ 32) (plus now s.settings.idleroundgap) false
      → list ≡ list_in ks s.used s.settings.misslimit q.number → rounds ≡ stop (s.totals.rounds + 1)
      → Does (round_then s now) (with_totals (with_round (with_members s ks) (with_list q list)) (with_rounds s.totals rounds)) o o
  unfolding list_for
  drawn_did {ks} {k} {q} {list} {rounds} {o} a b e c d f =
      does_as (record { station = rw (f, d, c, b, a); wrote = writes_none o }) (sym (round_drawn (rw b at e)))
