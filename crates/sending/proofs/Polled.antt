-- The slot whose reply is waited for has a member, and so has each slot of the round's list: an instance of the walk. Assumes nothing.
use mathlib.Core.Path.{◌≡◌, refl, sym, ◌∙◌, subst}
use mathlib.Core.Logic.{⊎_elim}
use Prim.Native.Nat.{ℕ, ◌%◌, ◌/◌}
use mathlib.Core.Bool.{true, false, ◌&&◌, ◌||◌}
use mathlib.Core.List.{List}
use lib.Dec.{eqb, ltb}
use lib.ListN.{length}
use borrow.Author.Tests.{eqb-false}
use Rattle.bits.specs.Mask.{has_bit, with_bit, without_bit}
use Rattle.bits.proofs.Laws.{has_none, without_same, without_other}
use Rattle.bits.proofs.Lists.{cond_keeps, and_true, lt_or_le, eq_or_not, never_both}
use Rattle.bits.proofs.Loops.{fold_keeps}
use Rattle.net.specs.declared.Station.{Station}
use Rattle.net.specs.declared.Settings.{Settings}
use Rattle.net.specs.declared.Turn.{Turn}
use Rattle.net.specs.declared.Turn.TheVariants.{Idle, Sending, Waiting}
use Rattle.net.specs.declared.Wait.{Wait}
use Rattle.net.specs.declared.Round.{Round}
use Rattle.net.specs.Net.{is_member, new_station}
use Rattle.net.proofs.Laws.{member_lt, member_has, member_is}
use Rattle.bursts.specs.Rows.{member_in}
use Rattle.bursts.proofs.Masks.{mask_where_lem, mask_past}
use Rattle.next.specs.Next.{list_for}
use Rattle.config.specs.declared.Given.{Given}
use Rattle.config.specs.Checks.{settings_of}
use Rattle.stream.specs.Table.{cell_count}
use Rattle.station.specs.Entries.{start_refusal}
use Rattle.signoff.specs.SignOff.{strike_by, sign_off, bereave_at, bereave_all, leave, struck_off}
use Rattle.promise.specs.Promise.{Call, Net, step, started}
use Rattle.promise.proofs.Walk.{lowest_in, Turned, still, ends, sends, polls, goes, draws, Change, others, turned, over, hears, written, counted, promoted, moved, entered, queued, posted, piece, landed, freed, barred, readings, signs_off, chain_keeps}
use Rattle.promise.proofs.WalkCalls.{all, step_walk}
use Rattle.promise.proofs.WalkRx.{member_with}
use Rattle.promise.proofs.Signs.{sign_beside}
use Rattle.promise.proofs.Turns.{start_is}

abbrev pub TurnIn : ℕ → Turn → Type 0
TurnIn used Idle = Unit {0}
TurnIn used Sending = Unit {0}
TurnIn used (Waiting r) = is_member used r.slot ≡ true

abbrev pub ListIn : ℕ → ℕ → Type 0
ListIn used list = (i : ℕ) → has_bit list i ≡ true → is_member used i ≡ true

pub record Polled (s : Station) : Type 0 where
  pub turn : TurnIn s.used s.wait.turn
  pub list : ListIn s.used s.round.list

-- ---- the list and the turn

list_without : (used list slot : ℕ) → ListIn used list → ListIn used (without_bit list slot)
list_without used list slot h i t =
    ⊎_elim (λ e. absurd (never_both (has_bit (without_bit list slot) i) t (subst (λ (k : ℕ). has_bit (without_bit list k) i ≡ false) (sym e) (without_same list i))))
    (λ n. h i (sym (without_other list slot i n) ∙ t)) (eq_or_not slot i)

drawn_in : (s : Station) (n : ℕ) → ListIn s.used (list_for s n)
unfolding list_for
drawn_in s n i t =
    ⊎_elim (λ l.
    let q = sym (mask_where_lem (λ j. has_bit s.used j && eqb (member_in s j).via 63 && (eqb (n % 4) 0 || ltb (member_in s j).missed s.settings.misslimit)) i l) ∙ t in
    member_is s.used i l ∙ (and_true (has_bit s.used i) (eqb (member_in s i).via 63) (and_true (has_bit s.used i && eqb (member_in s i).via 63) _ q).0).0)
    (λ l. absurd (never_both _ t (mask_past (λ j. has_bit s.used j && eqb (member_in s j).via 63 && (eqb (n % 4) 0 || ltb (member_in s j).missed s.settings.misslimit)) i l)))
    (lt_or_le i 62)

turned_list : {s : Station} {y : Turn} {m : ℕ} → Turned s y m → ListIn s.used s.round.list → ListIn s.used m
turned_list still h = h
turned_list ends h = h
turned_list sends h = h
turned_list {s} (polls slot e) h = list_without s.used s.round.list slot h
turned_list (goes r a b e) h = h
turned_list {s} (draws number) h = drawn_in s number

turned_turn : {s : Station} {y : Turn} {m : ℕ} → Turned s y m → Polled s → TurnIn s.used y
turned_turn still p = p.turn
turned_turn ends p = tt
turned_turn sends p = tt
turned_turn {s} (polls slot e) p = p.list slot (lowest_in s.round.list slot e)
turned_turn {s} (goes r a b e) p = subst (TurnIn s.used) e p.turn
turned_turn (draws number) p = p.turn

-- ---- a newcomer, and a sign-off

turn_with : (used c : ℕ) (y : Turn) → TurnIn used y → TurnIn (with_bit used c) y
turn_with used c Idle h = tt
turn_with used c Sending h = tt
turn_with used c (Waiting r) h = member_with used c r.slot h

member_without : (used c i : ℕ) → (i ≡ c → ⊥) → is_member used i ≡ true → is_member (without_bit used c) i ≡ true
member_without used c i n h =
    member_is (without_bit used c) i (member_lt used i h) ∙ without_other used c i (λ e. n (sym e)) ∙ member_has used i h

turn_without : (used c : ℕ) (y : Turn) (w : Wait) → w.turn ≡ y → TurnIn used y → TurnIn (without_bit used c) (strike_by y c w).turn
turn_without used c Idle w e h = subst (TurnIn (without_bit used c)) (sym e) tt
turn_without used c Sending w e h = subst (TurnIn (without_bit used c)) (sym e) tt
turn_without used c (Waiting r) w e h =
    cond_keeps (λ (v : Wait). TurnIn (without_bit used c) v.turn) (eqb r.slot c) _ _ (λ _. tt)
    (λ q.
    let k = member_without used c r.slot (eqb-false r.slot c q) h in
    cond_keeps (λ (v : Wait). TurnIn (without_bit used c) v.turn) (eqb r.relayfor c) _ w (λ _. k) (λ _. subst (TurnIn (without_bit used c)) (sym e) k))

signed_used : (s : Station) (slot : ℕ) → (sign_off s slot).used ≡ without_bit s.used slot
unfolding sign_off bereave_all
signed_used s slot = fold_keeps (λ (r : Station). r.used ≡ without_bit s.used slot) (bereave_at slot) one 62 0 (leave slot (struck_off slot s)) refl
  where
    one : (i : ℕ) (r : Station) → r.used ≡ without_bit s.used slot → (bereave_at slot i r).used ≡ without_bit s.used slot
    one i r h = unfold bereave_at in cond_keeps (λ (x : Station). x.used ≡ without_bit s.used slot) (has_bit r.used i) _ r (λ _. h) (λ _. h)

list_struck : (used list slot : ℕ) → ListIn used list → ListIn (without_bit used slot) (without_bit list slot)
list_struck used list slot h i t =
    ⊎_elim (λ e. absurd (never_both (has_bit (without_bit list slot) i) t (subst (λ (k : ℕ). has_bit (without_bit list k) i ≡ false) (sym e) (without_same list i))))
    (λ n. member_without used slot i (λ e. n (sym e)) (h i (sym (without_other list slot i n) ∙ t))) (eq_or_not slot i)

sign_polled : (s : Station) (slot : ℕ) → Polled s → Polled (sign_off s slot)
sign_polled s slot p =
    let b = sign_beside s slot in
    let u = signed_used s slot in
    record {
      turn =
          subst (λ (k : ℕ). TurnIn k (sign_off s slot).wait.turn) (sym u)
          (subst (λ (w : Wait). TurnIn (without_bit s.used slot) w.turn) (sym b.wait) (turn_without s.used slot s.wait.turn s.wait refl p.turn));
      list =
          subst (λ (k : ℕ). ListIn k (sign_off s slot).round.list) (sym u)
          (subst (λ (r : Round). ListIn (without_bit s.used slot) r.list) (sym b.round) (list_struck s.used s.round.list slot p.list));
    }

-- ---- each change

change_polled : (s t : Station) → Change all s t → Polled s → Polled t
change_polled s t (others r n e m q) p = record { turn = p.turn; list = subst (ListIn s.used) (sym e) p.list }
change_polled s t (turned a w r n y m q) p = record { turn = turned_turn y p; list = turned_list y p.list }
change_polled s t (over a r e here) p = record { turn = p.turn; list = p.list }
change_polled s t (hears r c q l h) p = record { turn = p.turn; list = p.list }
change_polled s t (written j m l here f) p = record { turn = p.turn; list = p.list }
change_polled s t (counted j m n l here f) p = record { turn = p.turn; list = p.list }
change_polled s t (promoted j snr l here d) p = record { turn = p.turn; list = p.list }
change_polled s t (moved c r l here there able n) p = record { turn = p.turn; list = p.list }
change_polled s t (entered c call v now l free r) p =
    record { turn = turn_with s.used c s.wait.turn p.turn; list = λ i h. member_with s.used c i (p.list i h) }
change_polled s t (queued i q l here f) p = record { turn = p.turn; list = p.list }
change_polled s t (posted a i n l here e) p = record { turn = p.turn; list = p.list }
change_polled s t (piece a store slot field b m here f l d) p = record { turn = p.turn; list = p.list }
change_polled s t (landed a store slot field b m here f l d) p = record { turn = p.turn; list = p.list }
change_polled s t (freed a cell) p = record { turn = p.turn; list = p.list }
change_polled s t (barred a store slot field b here z) p = record { turn = p.turn; list = p.list }
change_polled s t (readings i r l here) p = record { turn = p.turn; list = p.list }
change_polled s t (signs_off a b c slot here) p = sign_polled s slot p

pub step_polled : (c : Call) (n : Net) → Polled n.station → Polled (step c n).station
step_polled c n p = chain_keeps Polled change_polled (step_walk all tt tt tt c n (λ words snr now lent room numbers e. tt)) p

new_polled : (g : Settings) (count : ℕ) → Polled (new_station g count)
unfolding new_station
new_polled g count = record { turn = tt; list = λ i h. absurd (never_both (has_bit 0 i) h (has_none i)) }

pub start_polled : (s : Station) (g : Given) (store : List ℕ) → start_refusal g (length store) ≡ 0 → Polled (started s g store).station
start_polled s g store e = subst Polled (sym (start_is s g store e)) (new_polled (settings_of g) (cell_count (length store / 6400)))
