-- A sign-off beside the book: what the book holds for the slot is empty, and so is the station's part of it. Assumes nothing.
use Rattle.std.specs.Prelude.{Option, Some, None}
use mathlib.Core.Path.{◌≡◌, refl, sym, ap, ◌∙◌, subst}
use mathlib.Core.Logic.{⊎_elim}
use mathlib.Core.Bool.{Bool, true, false, cond, ◌&&◌}
use mathlib.Core.List.{List}
use Prim.Native.Nat.{ℕ, suc, ◌+◌, ◌/◌, ◌%◌, ◌<◌}
use native.Mathlib.Omega.{arith}
use lib.ListN.{length, get_or}
use lib.Dec.{eqb, ltb}
use borrow.Author.Tests.{eq-eqb, ne_eqb, lt-ltb}
use Rattle.bits.specs.Mask.{has_bit}
use Rattle.bits.proofs.Laws.{without_same, without_other}
use Rattle.bits.proofs.Lists.{cond_keeps, eq_or_not, never_both}
use Rattle.inbox.specs.Cells.{Held, held}
use Rattle.inbox.specs.Stores.{cell_of}
use Rattle.inbox.proofs.Joined.{Inv}
use Rattle.stream.specs.declared.window.Window.{Window}
use Rattle.stream.specs.Window.{handed_of, fresh_of, barred_of}
use Rattle.stream.specs.Table.{Table, no_cell}
use Rattle.stream.proofs.Tables.{Tidy}
use Rattle.stream.proofs.Windows.{Sound, sound_fresh, fresh_none}
use Rattle.inbox.specs.declared.cell.Cell.{Cell}
use Rattle.roster.specs.declared.Member.{Member}
use Rattle.roster.specs.Members.{no_member}
use Rattle.net.specs.declared.Station.{Station}
use Rattle.net.specs.State.{index_of, table_of}
use Rattle.net.specs.Net.{is_member}
use Rattle.net.proofs.Laws.{index_is, member_lt, member_is}
use Rattle.signoff.specs.SignOff.{bereft, is_cell_of, clear_all, sign_off}
use Rattle.promise.specs.Promise.{Sent, Message, Ledger, Book, strike_entry, book_ends, all_below}
use Rattle.promise.proofs.Ledgers.{Cov, part_of, none_below}
use Rattle.promise.proofs.Modest.{fresh_free}
use Rattle.promise.proofs.Ties.{Use, Vacant, Comes, Whole, use_of, use_at, held_at, FineAt, entry_of, Tie, not_whole, comes_is}
use Rattle.promise.proofs.Quiet.{window_at, view_of}
use Rattle.promise.proofs.Signs.{Signed, signed, cleared, cleared_tidy}

-- ---- what a cell is for

-- the slot's cells are vacant, and any other is as it was
use_cleared : (slot : ℕ) (t : Table) (c : ℕ) → (has_bit t.busy c ≡ true → c < 64)
    → use_at (clear_all slot t) c ≡ cond (is_cell_of t slot c) Vacant (use_at t c)
use_cleared slot t c low =
    let k = cleared slot t in
    ap (λ (b : Bool). use_of b (has_bit (clear_all slot t).landed c) (get_or (clear_all slot t).owners c 0)) (k.busy c)
    ∙ ap (λ (b : Bool). use_of (cond (ltb c 64 && is_cell_of t slot c) false (has_bit t.busy c)) b (get_or (clear_all slot t).owners c 0)) (k.landed c)
    ∙ ap (λ (l : List ℕ). use_of (cond (ltb c 64 && is_cell_of t slot c) false (has_bit t.busy c)) (cond (ltb c 64 && is_cell_of t slot c) false (has_bit t.landed c)) (get_or l c 0)) k.owners
    ∙ at (ltb c 64) (has_bit t.busy c) (eqb (get_or t.owners c 0 / 4294967296) slot) refl refl
  where
    at : (l b o : Bool) → ltb c 64 ≡ l → has_bit t.busy c ≡ b
        → use_of (cond (l && (b && o)) false b) (cond (l && (b && o)) false (has_bit t.landed c)) (get_or t.owners c 0) ≡ cond (b && o) Vacant (use_of b (has_bit t.landed c) (get_or t.owners c 0))
    at true true true p q = refl
    at true true false p q = refl
    at true false o p q = refl
    at false true o p q = absurd (never_both (ltb c 64) (lt-ltb c 64 (low q)) p)
    at false false o p q = refl

-- of another slot's message, so no cell of the slot's
not_its : (slot : ℕ) (t : Table) (c s k : ℕ) → use_at t c ≡ Comes s k → (s ≡ slot → ⊥) → is_cell_of t slot c ≡ false
not_its slot t c s k q z = at (has_bit t.busy c) (has_bit t.landed c) q
  where
    at : (b l : Bool) → use_of b l (get_or t.owners c 0) ≡ Comes s k → b && eqb (get_or t.owners c 0 / 4294967296) slot ≡ false
    at false l e = refl
    at true true e = not_whole _ _ s k e
    at true false e = ne_eqb (get_or t.owners c 0 / 4294967296) slot (λ w. z (sym (comes_is _ _ s k e).0 ∙ w))

-- ---- the book without the slot

module _ (slot : ℕ) (b : Book) where
  pub ends_here : (k : ℕ) → (book_ends slot b).ledger.handed slot k ≡ false
  unfolding book_ends
  ends_here k = rw (eq-eqb slot slot refl)

  pub ends_there : (s k : ℕ) → (s ≡ slot → ⊥) → (book_ends slot b).ledger.handed s k ≡ b.ledger.handed s k
  unfolding book_ends
  ends_there s k z = rw (ne_eqb slot s (λ e. z (sym e)))

  covered_here : (k : ℕ) → (book_ends slot b).ledger.covered slot k ≡ (λ (i : ℕ). false)
  unfolding book_ends
  covered_here k = ap {B = ℕ → Bool} (λ (t : Bool) (i : ℕ). cond t false (b.ledger.covered slot k i)) (eq-eqb slot slot refl)

  covered_there : (s k : ℕ) → (s ≡ slot → ⊥) → (book_ends slot b).ledger.covered s k ≡ b.ledger.covered s k
  unfolding book_ends
  covered_there s k z = ap {B = ℕ → Bool} (λ (t : Bool) (i : ℕ). cond t false (b.ledger.covered s k i)) (ne_eqb slot s (λ e. z (sym e)))

  pub stay_here : (book_ends slot b).stay slot ≡ suc (b.stay slot)
  unfolding book_ends
  stay_here = rw (eq-eqb slot slot refl)

  pub stay_there : (s : ℕ) → (s ≡ slot → ⊥) → (book_ends slot b).stay s ≡ b.stay s
  unfolding book_ends
  stay_there s z = rw (ne_eqb slot s (λ e. z (sym e)))

  entry_is : (c : ℕ) → (book_ends slot b).entry c ≡ strike_entry slot (b.entry c)
  unfolding book_ends
  entry_is c = refl

-- ---- windows: the slot's is fresh, and any other is as it was

module _ (slot : ℕ) (st : Station) (low : slot < 62) (long : length st.members ≡ 62) where
  abbrev q : Station
  q = sign_off st slot

  signs₀ : Signed slot st q
  signs₀ = signed slot st low long

  pub window_gone : window_at q slot ≡ fresh_of
  window_gone = ap (λ (u : Bool). cond u (get_or q.members (index_of slot) no_member).up fresh_of) (member_is q.used slot low ∙ ap (λ (u : ℕ). has_bit u slot) signs₀.used ∙ without_same st.used slot)

  up_same : (m : Member) → (bereft slot st.settings.misslimit m).up ≡ m.up
  up_same m = cond_keeps (λ (x : Member). x.up ≡ m.up) (eqb m.via slot) _ _ (λ _. refl) (λ _. refl)

  pub window_still : (s : ℕ) → (s ≡ slot → ⊥) → window_at q s ≡ window_at st s
  window_still s z =
      ap (λ (u : Bool). cond u (get_or q.members (index_of s) no_member).up fresh_of) still ∙ at (is_member st.used s) refl
    where
      still : is_member q.used s ≡ is_member st.used s
      still = unfold is_member in rw (signs₀.used, without_other st.used slot s (λ e. z (sym e)))

      at : (u : Bool) → is_member st.used s ≡ u → cond u (get_or q.members (index_of s) no_member).up fresh_of ≡ cond u (get_or st.members (index_of s) no_member).up fresh_of
      at false e = refl
      at true e =
          let i = index_is s (member_lt st.used s e) in
          ap (λ (y : ℕ). (get_or q.members y no_member).up) i
          ∙ ap (λ (m : Member). m.up) (signs₀.boat s e z)
          ∙ up_same (get_or st.members s no_member)
          ∙ ap (λ (y : ℕ). (get_or st.members y no_member).up) (sym i)

-- ---- the tie

module _ (N N' : Sent) (slot : ℕ) (watch : (s : ℕ) → (s ≡ slot → ⊥) → N'.watched s ≡ N.watched s)
    (others : (s k : ℕ) → (s ≡ slot → ⊥) → N'.text s k ≡ N.text s k) (st : Station) (store : List ℕ) (b : Book)
    (tie : Tie N (view_of st store) b.ledger b.entry) (low : slot < 62) (long : length st.members ≡ 62) where
  abbrev r : Station
  r = sign_off st slot

  abbrev t₀ : Table
  t₀ = table_of st

  abbrev t₁ : Table
  t₁ = clear_all slot (table_of st)

  abbrev l₁ : Ledger
  l₁ = (book_ends slot b).ledger

  signs : Signed slot st r
  signs = signed slot st low long

  here_fresh : window_at r slot ≡ fresh_of
  here_fresh = window_gone slot st low long

  there_same : (s : ℕ) → (s ≡ slot → ⊥) → window_at r s ≡ window_at st s
  there_same s z = window_still slot st low long s z

  -- cells
  in_table : (c : ℕ) → has_bit t₀.busy c ≡ true → c < 64
  in_table c q = let n = tie.tidy.within c q in let m = tie.tidy.most in omega arith

  use_is : (c : ℕ) → use_at (table_of r) c ≡ cond (is_cell_of t₀ slot c) Vacant (use_at t₀ c)
  use_is c = ap (λ (t : Table). use_at t c) signs.table ∙ use_cleared slot t₀ c (in_table c)

  held_is : (c : ℕ) → held_at (view_of r store) c ≡ held_at (view_of st store) c
  held_is c = ap (λ (t : Table). held (get_or t.cells c no_cell) (cell_of store c)) signs.table ∙ ap (λ (l : List Cell). held (get_or l c no_cell) (cell_of store c)) (cleared slot t₀).cells

  count_is : (table_of r).count ≡ t₀.count
  count_is = ap (λ (t : Table). t.count) signs.table ∙ (cleared slot t₀).count

  fine_is : (h : Held) (x y : Bool) (o : ℕ) → FineAt N b.ledger (use_of x y o) h → FineAt N' l₁ (cond (x && eqb (o / 4294967296) slot) Vacant (use_of x y o)) h
  fine_is h false y o f = tt
  fine_is h true y o f = at (eqb (o / 4294967296) slot) refl y f
    where
      at : (e : Bool) → eqb (o / 4294967296) slot ≡ e → (y : Bool) → FineAt N b.ledger (use_of true y o) h → FineAt N' l₁ (cond e Vacant (use_of true y o)) h
      at true q y f = tt
      at false q true f =
          let z : o / 4294967296 ≡ slot → ⊥ = λ w. never_both (eqb (o / 4294967296) slot) (eq-eqb (o / 4294967296) slot w) q in
          λ on. f (sym (watch (o / 4294967296) z) ∙ on) ∙ sym (others (o / 4294967296) (o % 4294967296) z)
      at false q false f =
          let z : o / 4294967296 ≡ slot → ⊥ = λ w. never_both (eqb (o / 4294967296) slot) (eq-eqb (o / 4294967296) slot w) q in
          λ on. record {
            not_yet = ends_there slot b (o / 4294967296) (o % 4294967296) z ∙ (f (sym (watch (o / 4294967296) z) ∙ on)).not_yet;
            inv = subst (λ (body : List ℕ). Inv (part_of body) (Cov (l₁.covered (o / 4294967296) (o % 4294967296))) h) (sym (others (o / 4294967296) (o % 4294967296) z))
                (subst (λ (g : ℕ → Bool). Inv (part_of (N.text (o / 4294967296) (o % 4294967296))) (Cov g) h) (sym (covered_there slot b (o / 4294967296) (o % 4294967296) z)) (f (sym (watch (o / 4294967296) z) ∙ on)).inv);
          }

  entry_by : (x y : Bool) (o : ℕ) → strike_entry slot (entry_of N (use_of x y o)) ≡ entry_of N' (cond (x && eqb (o / 4294967296) slot) Vacant (use_of x y o))
  entry_by false y o = refl
  entry_by true false o = at (eqb (o / 4294967296) slot)
    where
      at : (e : Bool) → None ≡ entry_of N' (cond e Vacant (Comes (o / 4294967296) (o % 4294967296)))
      at true = refl
      at false = refl
  entry_by true true o = ap (λ (e : Bool). cond e None (landed_in (N.watched (o / 4294967296)))) turned ∙ at (eqb (o / 4294967296) slot) refl
    where
      turned : eqb slot (o / 4294967296) ≡ eqb (o / 4294967296) slot
      turned = ⊎_elim (λ e. eq-eqb slot (o / 4294967296) e ∙ sym (eq-eqb (o / 4294967296) slot (sym e))) (λ z. ne_eqb slot (o / 4294967296) z ∙ sym (ne_eqb (o / 4294967296) slot (λ e. z (sym e)))) (eq_or_not slot (o / 4294967296))

      landed_in : Bool → Option Message
      landed_in t = Some (record { slot = o / 4294967296; number = cond t (o % 4294967296) (o % 4294967296 % 256) })

      at : (e : Bool) → eqb (o / 4294967296) slot ≡ e
          → cond e None (landed_in (N.watched (o / 4294967296))) ≡ entry_of N' (cond e Vacant (Whole (o / 4294967296) (o % 4294967296)))
      at true q = refl
      at false q = ap landed_in (sym (watch (o / 4294967296) (λ w. never_both (eqb (o / 4294967296) slot) (eq-eqb (o / 4294967296) slot w) q)))

  abbrev busy_at : ℕ → Bool
  busy_at c = has_bit t₀.busy c

  abbrev landed_at : ℕ → Bool
  landed_at c = has_bit t₀.landed c

  abbrev owner_at_lem : ℕ → ℕ
  owner_at_lem c = get_or t₀.owners c 0

  -- by slots
  sound_is : (s : ℕ) → Sound (window_at r s)
  sound_is s =
      ⊎_elim (λ e. subst (λ (y : ℕ). Sound (window_at r y)) (sym e) (subst Sound (sym here_fresh) sound_fresh))
      (λ z. subst Sound (sym (there_same s z)) (tie.sound s)) (eq_or_not s slot)

  numbers_is : (s k : ℕ) → N'.watched s ≡ true → l₁.handed s k ≡ handed_of (window_at r s) k
  numbers_is s k on =
      ⊎_elim (λ e. subst (λ (y : ℕ). l₁.handed y k ≡ handed_of (window_at r y) k) (sym e) (ends_here slot b k ∙ sym (fresh_none k) ∙ ap (λ (w : Window). handed_of w k) (sym here_fresh)))
      (λ z. ends_there slot b s k z ∙ tie.numbers s k (sym (watch s z) ∙ on) ∙ ap (λ (w : Window). handed_of w k) (sym (there_same s z))) (eq_or_not s slot)

  says_is : (s k : ℕ) → l₁.handed s k ≡ all_below (2 + length (N'.text s k)) (l₁.covered s k)
  says_is s k =
      ⊎_elim (λ e. subst (λ (y : ℕ). l₁.handed y k ≡ all_below (2 + length (N'.text y k)) (l₁.covered y k)) (sym e)
      (ends_here slot b k ∙ none_below (length (N'.text slot k)) ∙ ap (all_below (2 + length (N'.text slot k))) (sym (covered_here slot b k))))
      (λ z. ends_there slot b s k z ∙ tie.says s k ∙ ap (λ (body : List ℕ). all_below (2 + length body) (b.ledger.covered s k)) (sym (others s k z)) ∙ ap (all_below (2 + length (N'.text s k))) (sym (covered_there slot b s k z)))
      (eq_or_not s slot)

  bare_is : (s k : ℕ) → N'.watched s ≡ true → l₁.handed s k ≡ false → barred_of (window_at r s) k ≡ false → ((c : ℕ) → use_at (table_of r) c ≡ Comes s k → ⊥) → (i : ℕ) → l₁.covered s k i ≡ false
  bare_is s k on h free nowhere i =
      ⊎_elim (λ e. subst (λ (y : ℕ). l₁.covered y k i ≡ false) (sym e) (ap (λ (g : ℕ → Bool). g i) (covered_here slot b k)))
      (λ z. ap (λ (g : ℕ → Bool). g i) (covered_there slot b s k z)
      ∙ tie.bare s k (sym (watch s z) ∙ on) (sym (ends_there slot b s k z) ∙ h) (sym (ap (λ (w : Window). barred_of w k) (there_same s z)) ∙ free) (λ c q. nowhere c (use_is c ∙ ap (λ (e : Bool). cond e Vacant (use_at t₀ c)) (not_its slot t₀ c s k q z) ∙ q)) i)
      (eq_or_not s slot)

  claimed_is : (s k : ℕ) → N'.watched s ≡ true → barred_of (window_at r s) k ≡ true → 2046 < length (N'.text s k)
  claimed_is s k on q =
      ⊎_elim (λ e. absurd (never_both (barred_of (window_at r s) k) q (ap (λ (y : ℕ). barred_of (window_at r y) k) e ∙ ap (λ (w : Window). barred_of w k) here_fresh ∙ fresh_free k)))
      (λ z.
      subst (λ (body : List ℕ). 2046 < length body) (sym (others s k z))
      (tie.claimed s k (sym (watch s z) ∙ on) (sym (ap (λ (w : Window). barred_of w k) (there_same s z)) ∙ q)))
      (eq_or_not s slot)

  pub sign_tie : Tie N' (view_of r store) l₁ (book_ends slot b).entry
  sign_tie =
      record {
        tidy = subst (λ (t : Table). Tidy t store) (sym signs.table) (cleared_tidy slot t₀ store tie.tidy);
        sound = sound_is;
        claimed = claimed_is;
        numbers = numbers_is;
        says = says_is;
        cells = λ c a.
            subst (λ (u : Use). FineAt N' l₁ u (held_at (view_of r store) c)) (sym (use_is c))
            (subst (FineAt N' l₁ (cond (is_cell_of t₀ slot c) Vacant (use_at t₀ c))) (sym (held_is c))
            (fine_is (held_at (view_of st store) c) (busy_at c) (landed_at c) (owner_at_lem c) (tie.cells c (let n = count_is in omega arith))));
        bare = bare_is;
        entries = λ c. entry_is slot b c ∙ ap (strike_entry slot) (tie.entries c) ∙ entry_by (busy_at c) (landed_at c) (owner_at_lem c) ∙ sym (ap (entry_of N') (use_is c));
      }
