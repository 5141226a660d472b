-- A sign-off (U3 of document 02), part by part: what the loops of `sign_off` leave. Assumes nothing.
use mathlib.Core.Path.{◌≡◌, refl, sym, ap, ◌∙◌, subst}
use mathlib.Core.Logic.{⊎_elim}
use Prim.Native.Nat.{ℕ, zero, suc, ◌+◌, ◌/◌, ◌≤◌, ◌<◌}
use native.Mathlib.Omega.{arith}
use mathlib.Core.Bool.{Bool, true, false, cond, ◌&&◌}
use mathlib.Core.List.{List}
use lib.ListN.{length, get_or, set, length-set}
use lib.Seq.{get_or-set_same, get_or-set_other}
use lib.Dec.{eqb, ltb}
use borrow.Author.Tests.{lt-ltb, le-ltb}
use Rattle.bits.specs.Loop.{fold}
use Rattle.bits.specs.Mask.{has_bit, without_bit}
use Rattle.bits.proofs.Loops.{fold_keeps}
use Rattle.bits.proofs.Lists.{eq_or_not, lt_or_le, cond_keeps}
use Rattle.bits.proofs.Laws.{without_same, without_other}
use Rattle.stream.specs.Table.{Table, freed_table}
use Rattle.stream.proofs.Tables.{Tidy, freed_tidy}
use Rattle.roster.specs.declared.Member.{Member}
use Rattle.roster.specs.Members.{no_member}
use Rattle.net.specs.declared.Station.{Station}
use Rattle.net.specs.declared.Settings.{Settings}
use Rattle.net.specs.State.{table_of, with_recent, recent_at}
use Rattle.net.specs.Net.{is_member}
use Rattle.bursts.specs.Rows.{member_in}
use Rattle.bursts.specs.Reroute.{with_member_in}
use Rattle.signoff.specs.SignOff.{vacant, leave, bereft, bereft_of, bereave_at, bereave_all, struck_off, strike_round, strike_wait, is_cell_of, clear_at, clear_all, unhear_all, sign_off}
use Rattle.station.specs.SignOff.{sign_off_refusal}

-- ---- the other boats

-- all but the boats themselves
abbrev Others : Station → Station → Type 0
Others s r = (r.settings ≡ s.settings) × (r.wait ≡ s.wait) × (r.round ≡ s.round) × (table_of r ≡ table_of s) × (r.used ≡ s.used) × (r.hears ≡ s.hears)

-- as the boats below k have been looked at, r is s with these changed
pub record Bereaved (slot k : ℕ) (s r : Station) : Type 0 where
  pub others : Others s r
  pub long : length r.members ≡ 62
  pub member : (j : ℕ) → get_or r.members j no_member
      ≡ cond (ltb j k && has_bit s.used j) (bereft slot s.settings.misslimit (get_or s.members j no_member)) (get_or s.members j no_member)

module _ (slot : ℕ) (s : Station) where
  abbrev after : Bool → Member → Member
  after b m = cond b (bereft slot s.settings.misslimit m) m

  test_step : (j i : ℕ) → (j ≡ i → ⊥) → ltb j (i + 1) ≡ ltb j i
  test_step j i z =
      ⊎_elim (λ a. lt-ltb j (i + 1) (omega arith) ∙ sym (lt-ltb j i a)) (λ a. le-ltb j (i + 1) (omega arith) ∙ sym (le-ltb j i a)) (lt_or_le j i)

  bereave_one : (i : ℕ) (r : Station) → i < 62 → Bereaved slot i s r → Bereaved slot (i + 1) s (bereave_at slot i r)
  unfolding bereave_at
  bereave_one i r l b = go (has_bit r.used i) refl
    where
      old : get_or r.members i no_member ≡ get_or s.members i no_member
      old = b.member i ∙ ap (λ (t : Bool). after (t && has_bit s.used i) (get_or s.members i no_member)) (le-ltb i i (omega arith))

      other : (j : ℕ) → (j ≡ i → ⊥) → get_or r.members j no_member ≡ after (ltb j (i + 1) && has_bit s.used j) (get_or s.members j no_member)
      other j z = b.member j ∙ ap (λ (t : Bool). after (t && has_bit s.used j) (get_or s.members j no_member)) (sym (test_step j i z))

      here : (t : Bool) → has_bit s.used i ≡ t → after (ltb i (i + 1) && has_bit s.used i) (get_or s.members i no_member) ≡ after t (get_or s.members i no_member)
      here t e = ap (λ (u : Bool). after (u && has_bit s.used i) (get_or s.members i no_member)) (lt-ltb i (i + 1) (omega arith)) ∙ ap (λ (u : Bool). after u (get_or s.members i no_member)) e

      bit : (t : Bool) → has_bit r.used i ≡ t → has_bit s.used i ≡ t
      bit t e = ap (λ (u : ℕ). has_bit u i) (sym b.others.4) ∙ e

      go : (t : Bool) → has_bit r.used i ≡ t → Bereaved slot (i + 1) s (cond t (with_recent (with_member_in r i (bereft slot r.settings.misslimit (member_in r i))) (set r.recent i (bereft_of slot (member_in r i) (recent_at r i)))) r)
      go false e =
          record {
            others = b.others;
            long = b.long;
            member = λ j. ⊎_elim (λ q. subst (λ (y : ℕ). get_or r.members y no_member ≡ after (ltb y (i + 1) && has_bit s.used y) (get_or s.members y no_member)) (sym q) (old ∙ sym (here false (bit false e)))) (other j) (eq_or_not j i);
          }
      go true e =
          let n = b.long in
          let m = bereft slot r.settings.misslimit (member_in r i) in
          let same : m ≡ bereft slot s.settings.misslimit (get_or s.members i no_member) =
          ap (λ (g : Settings). bereft slot g.misslimit (member_in r i)) b.others.0 ∙ ap (bereft slot s.settings.misslimit) old in
          record {
            others = b.others;
            long = length-set r.members i m ∙ b.long;
            member = λ j. ⊎_elim (λ q. subst (λ (y : ℕ). get_or (set r.members i m) y no_member ≡ after (ltb y (i + 1) && has_bit s.used y) (get_or s.members y no_member)) (sym q)
                (get_or-set_same r.members i m no_member (omega arith) ∙ same ∙ sym (here true (bit true e))))
                (λ z. get_or-set_other r.members i j m no_member z ∙ other j z) (eq_or_not j i);
          }

  bereave_go : (n i : ℕ) (r : Station) → i + n ≤ 62 → Bereaved slot i s r → Bereaved slot (i + n) s (fold (bereave_at slot) n i r)
  unfolding fold
  bereave_go zero i r l b = subst (λ (k : ℕ). Bereaved slot k s r) (let z : i ≡ i + 0 = omega arith in z) b
  bereave_go (suc n) i r l b =
      subst (λ (k : ℕ). Bereaved slot k s (fold (bereave_at slot) n (suc i) (bereave_at slot i r))) (let z : suc i + n ≡ i + suc n = omega arith in z)
      (bereave_go n (suc i) (bereave_at slot i r) (omega arith) (subst (λ (k : ℕ). Bereaved slot k s (bereave_at slot i r)) (let z : i + 1 ≡ suc i = omega arith in z) (bereave_one i r (omega arith) b)))

  pub bereaved : length s.members ≡ 62 → Bereaved slot 62 s (bereave_all slot s)
  unfolding bereave_all
  bereaved long =
      bereave_go 62 0 s (omega arith)
      (record {
        others = (refl, refl, refl, refl, refl, refl);
        long = long;
        member = λ j. ap
            (λ (t : Bool). after (t && has_bit s.used j) (get_or s.members j no_member)) (sym (le-ltb j 0 (omega arith)));
      })

-- ---- the whole

pub record Signed (slot : ℕ) (s r : Station) : Type 0 where
  pub settings : r.settings ≡ s.settings
  pub wait : r.wait ≡ strike_wait slot s.wait
  pub round : r.round ≡ strike_round slot s.round
  pub table : table_of r ≡ clear_all slot (table_of s)
  pub used : r.used ≡ without_bit s.used slot
  pub hears : r.hears ≡ unhear_all slot s.hears
  pub long : length r.members ≡ 62
  -- another boat goes on without it
  pub boat : (i : ℕ) → is_member s.used i ≡ true → (i ≡ slot → ⊥) → get_or r.members i no_member ≡ bereft slot s.settings.misslimit (get_or s.members i no_member)
  -- an empty slot stays as it was
  pub empty : (i : ℕ) → is_member s.used i ≡ false → (i ≡ slot → ⊥) → get_or r.members i no_member ≡ get_or s.members i no_member
  pub here : get_or r.members slot no_member ≡ vacant

module _ (slot : ℕ) (s : Station) (low : slot < 62) (long : length s.members ≡ 62) where
  abbrev gone : Station
  gone = leave slot (struck_off slot s)

  unchanged : (i : ℕ) → (i ≡ slot → ⊥) → get_or gone.members i no_member ≡ get_or s.members i no_member
  unchanged i z = get_or-set_other s.members slot i vacant no_member z

  left_out : (i : ℕ) → (i ≡ slot → ⊥) → has_bit (without_bit s.used slot) i ≡ has_bit s.used i
  left_out i z = without_other s.used slot i (λ e. z (sym e))

  signed_by : (b : Bereaved slot 62 gone (sign_off s slot)) → Signed slot s (sign_off s slot)
  unfolding is_member
  signed_by b =
      record {
        settings = b.others.0;
        wait = b.others.1;
        round = b.others.2;
        table = b.others.3;
        used = b.others.4;
        hears = b.others.5;
        long = b.long;
        boat = λ i h z. b.member i
            ∙ ap (λ (t : Bool). after slot gone t (get_or gone.members i no_member)) (ap (λ (t : Bool). ltb i 62 && t) (left_out i z) ∙ h)
            ∙ ap (bereft slot s.settings.misslimit) (unchanged i z);
        empty = λ i h z. b.member i
            ∙ ap (λ (t : Bool). after slot gone t (get_or gone.members i no_member)) (ap (λ (t : Bool). ltb i 62 && t) (left_out i z) ∙ h)
            ∙ unchanged i z;
        here = b.member slot
            ∙ ap (λ (t : Bool). after slot gone (ltb slot 62 && t) (get_or gone.members slot no_member)) (without_same s.used slot)
            ∙ nothing (ltb slot 62)
            ∙ get_or-set_same s.members slot vacant no_member (omega arith);
      }
    where
      nothing : (t : Bool) → after slot gone (t && false) (get_or gone.members slot no_member) ≡ get_or gone.members slot no_member
      nothing true = refl
      nothing false = refl

  pub signed : Signed slot s (sign_off s slot)
  unfolding sign_off
  signed = signed_by (bereaved slot gone (length-set s.members slot vacant ∙ long))

-- what needs no length
pub record Beside (slot : ℕ) (s r : Station) : Type 0 where
  pub settings : r.settings ≡ s.settings
  pub wait : r.wait ≡ strike_wait slot s.wait
  pub round : r.round ≡ strike_round slot s.round
  pub table : table_of r ≡ clear_all slot (table_of s)

pub sign_beside : (s : Station) (slot : ℕ) → Beside slot s (sign_off s slot)
unfolding sign_off bereave_all
sign_beside s slot =
    fold_keeps (Beside slot s) (bereave_at slot) one 62 0 (leave slot (struck_off slot s)) (record { settings = refl; wait = refl; round = refl; table = refl })
  where
    one : (i : ℕ) (r : Station) → Beside slot s r → Beside slot s (bereave_at slot i r)
    one i r h =
        unfold bereave_at in
        cond_keeps (Beside slot s) (has_bit r.used i) _ r (λ _. record { settings = h.settings; wait = h.wait; round = h.round; table = h.table })
        (λ _. h)

-- ---- its cells

-- as the cells below k have been looked at
pub record Cleared (slot k : ℕ) (t r : Table) : Type 0 where
  pub count : r.count ≡ t.count
  pub owners : r.owners ≡ t.owners
  pub cells : r.cells ≡ t.cells
  pub busy : (j : ℕ) → has_bit r.busy j ≡ cond (ltb j k && is_cell_of t slot j) false (has_bit t.busy j)
  pub landed : (j : ℕ) → has_bit r.landed j ≡ cond (ltb j k && is_cell_of t slot j) false (has_bit t.landed j)

module _ (slot : ℕ) (t : Table) where
  -- a mask with cell i taken out where it is the slot's
  clear_bit : (m r : ℕ) (i : ℕ) (b : Bool) → is_cell_of t slot i ≡ b → ((j : ℕ) → has_bit r j ≡ cond (ltb j i && is_cell_of t slot j) false (has_bit m j))
      → (j : ℕ) → has_bit (cond b (without_bit r i) r) j ≡ cond (ltb j (i + 1) && is_cell_of t slot j) false (has_bit m j)
  clear_bit m r i b e h j =
      ⊎_elim (λ q. subst (λ (y : ℕ). has_bit (cond b (without_bit r i) r) y ≡ cond (ltb y (i + 1) && is_cell_of t slot y) false (has_bit m y)) (sym q) (at b e))
      (λ z. other b z ∙ h j ∙ ap (λ (u : Bool). cond (u && is_cell_of t slot j) false (has_bit m j)) (sym (step j i z))) (eq_or_not j i)
    where
      step : (j i : ℕ) → (j ≡ i → ⊥) → ltb j (i + 1) ≡ ltb j i
      step j i z =
          ⊎_elim (λ a. lt-ltb j (i + 1) (omega arith) ∙ sym (lt-ltb j i a)) (λ a. le-ltb j (i + 1) (omega arith) ∙ sym (le-ltb j i a)) (lt_or_le j i)

      other : (b : Bool) → (j ≡ i → ⊥) → has_bit (cond b (without_bit r i) r) j ≡ has_bit r j
      other true z = without_other r i j (λ q. z (sym q))
      other false z = refl

      at : (b : Bool) → is_cell_of t slot i ≡ b → has_bit (cond b (without_bit r i) r) i ≡ cond (ltb i (i + 1) && is_cell_of t slot i) false (has_bit m i)
      at true e = without_same r i ∙ sym (rw (lt-ltb i (i + 1) (omega arith), e))
      at false e = h i ∙ ap (λ (u : Bool). cond (u && is_cell_of t slot i) false (has_bit m i)) (le-ltb i i (omega arith)) ∙ sym (rw (lt-ltb i (i + 1) (omega arith), e))

  clear_one : (i : ℕ) (r : Table) → Cleared slot i t r → Cleared slot (i + 1) t (clear_at slot i r)
  unfolding clear_at
  clear_one i r h = go (is_cell_of r slot i) refl
    where
      same : is_cell_of r slot i ≡ is_cell_of t slot i
      same =
          ap (λ (u : Bool). u && eqb (get_or r.owners i 0 / 4294967296) slot) (h.busy i ∙ ap (λ (u : Bool). cond (u && is_cell_of t slot i) false (has_bit t.busy i)) (le-ltb i i (omega arith)))
          ∙ ap (λ (l : List ℕ). has_bit t.busy i && eqb (get_or l i 0 / 4294967296) slot) h.owners

      go : (b : Bool) → is_cell_of r slot i ≡ b → Cleared slot (i + 1) t (cond b (freed_table r i) r)
      go true e =
          record {
            count = h.count;
            owners = h.owners;
            cells = h.cells;
            busy = clear_bit t.busy r.busy i true (sym same ∙ e) h.busy;
            landed = clear_bit t.landed r.landed i true (sym same ∙ e) h.landed;
          }
      go false e =
          record {
            count = h.count;
            owners = h.owners;
            cells = h.cells;
            busy = clear_bit t.busy r.busy i false (sym same ∙ e) h.busy;
            landed = clear_bit t.landed r.landed i false (sym same ∙ e) h.landed;
          }

  clear_go : (n i : ℕ) (r : Table) → Cleared slot i t r → Cleared slot (i + n) t (fold (clear_at slot) n i r)
  unfolding fold
  clear_go zero i r b = subst (λ (k : ℕ). Cleared slot k t r) (let z : i ≡ i + 0 = omega arith in z) b
  clear_go (suc n) i r b =
      subst (λ (k : ℕ). Cleared slot k t (fold (clear_at slot) n (suc i) (clear_at slot i r))) (let z : suc i + n ≡ i + suc n = omega arith in z)
      (clear_go n (suc i) (clear_at slot i r) (subst (λ (k : ℕ). Cleared slot k t (clear_at slot i r)) (let z : i + 1 ≡ suc i = omega arith in z) (clear_one i r b)))

  pub cleared : Cleared slot 64 t (clear_all slot t)
  unfolding clear_all
  cleared =
      clear_go 64 0 t
      (record {
        count = refl;
        owners = refl;
        cells = refl;
        busy = λ j. ap (λ (u : Bool). cond (u && is_cell_of t slot j) false (has_bit t.busy j)) (sym (le-ltb j 0 (omega arith)));
        landed = λ j. ap (λ (u : Bool). cond (u && is_cell_of t slot j) false (has_bit t.landed j)) (sym (le-ltb j 0 (omega arith)));
      })

  pub cleared_tidy : (store : List ℕ) → Tidy t store → Tidy (clear_all slot t) store
  unfolding clear_all
  cleared_tidy store h =
      fold_keeps (λ (r : Table). Tidy r store) (clear_at slot)
      (λ i r k. unfold clear_at in cond_keeps (λ (q : Table). Tidy q store) (is_cell_of r slot i) (freed_table r i) r (λ _. freed_tidy r store k i) (λ _. k)) 64 0 t h

-- a sign-off that is not refused is of a member
pub sign_member : (used slot : ℕ) → sign_off_refusal used slot ≡ 0 → is_member used slot ≡ true
unfolding sign_off_refusal
sign_member used slot = go (ltb 61 slot) (is_member used slot) refl
  where
    go : (a b : Bool) → is_member used slot ≡ b → ◌≡◌ {A = ℕ} (cond a 8 (cond b 0 21)) 0 → is_member used slot ≡ true
    go true b q e = absurd (omega arith)
    go false true q e = q
    go false false q e = absurd (omega arith)
