-- A sign-off leaves its slot as at a start, and any other slot without a boat as it was. Assumes nothing.
use mathlib.Core.Path.{◌≡◌, refl, sym, ap, ◌∙◌, subst}
use mathlib.Core.Logic.{⊎_elim}
use mathlib.Core.Bool.{Bool, true, false, cond, ◌&&◌}
use mathlib.Core.List.{List, [], ◌∷◌}
use Prim.Native.Nat.{ℕ, zero, suc, ◌+◌, ◌*◌, ◌/◌, ◌≤◌, ◌<◌}
use native.Mathlib.Omega.{arith}
use lib.ListN.{length, get_or, set, length-set}
use lib.Seq.{get_or-set_same}
use lib.Dec.{eqb, ltb}
use borrow.Author.Tests.{eq-eqb, lt-ltb}
use Rattle.bits.specs.Loop.{fold}
use Rattle.bits.specs.Mask.{has_bit, without_bit}
use Rattle.bits.proofs.Laws.{has_none, without_same, without_other}
use Rattle.bits.proofs.Lists.{cond_keeps, eq_or_not, lt_or_le, never_both}
use Rattle.bits.proofs.Loops.{fold_keeps}
use Rattle.stream.specs.Table.{Table}
use Rattle.roster.specs.declared.Member.{Member}
use Rattle.roster.specs.Members.{no_member}
use Rattle.net.specs.declared.Station.{Station}
use Rattle.net.specs.declared.Round.{Round}
use Rattle.net.specs.declared.Turn.{Turn}
use Rattle.net.specs.declared.Turn.TheVariants.{Idle, Sending, Waiting}
use Rattle.net.specs.declared.Wait.{Wait}
use Rattle.net.specs.State.{table_of}
use Rattle.net.specs.Net.{is_member, idle_wait, wait_of}
use Rattle.net.proofs.Laws.{member_lt, member_is}
use Rattle.signoff.specs.SignOff.{bereft, is_cell_of, unhear_at, unhear_all, no_source, strike_by, sign_off}
use Rattle.promise.proofs.Signs.{Signed, signed, cleared}
use Rattle.promise.proofs.Walk.{without_false}
use Rattle.laws.specs.FreeSlots.{Apart, BlankIn}
use Rattle.laws.proofs.Vacant.{Keeps}

-- ---- `hears`

set_63 : (h : List ℕ) (a k : ℕ) → get_or h k 0 ≡ 63 → get_or (set h a 63) k 0 ≡ 63
set_63 [] a k e = e
set_63 (x ∷ h) zero zero e = refl
set_63 (x ∷ h) zero (suc k) e = e
set_63 (x ∷ h) (suc a) zero e = e
set_63 (x ∷ h) (suc a) (suc k) e = set_63 h a k e

-- an entry that is struck stays struck
pub unhear_stays : (slot k : ℕ) (h : List ℕ) → get_or h k 0 ≡ 63 → get_or (unhear_all slot h) k 0 ≡ 63
unfolding unhear_all
unhear_stays slot k h e =
    fold_keeps (λ (g : List ℕ). get_or g k 0 ≡ 63) (unhear_at slot) (λ i g q. unfold unhear_at in set_63 (set g (slot * 62 + i) 63) (i * 62 + slot) k (set_63 g (slot * 62 + i) k q)) 62 0 h e

pub unhear_long : (slot : ℕ) (h : List ℕ) → length (unhear_all slot h) ≡ length h
unfolding unhear_all
unhear_long slot h =
    fold_keeps (λ (g : List ℕ). length g ≡ length h) (unhear_at slot) (λ i g q. unfold unhear_at in length-set (set g (slot * 62 + i) 63) (i * 62 + slot) 63 ∙ length-set g (slot * 62 + i) 63 ∙ q) 62 0 h refl

-- the slot's own row is struck, and its entry in every row
module _ (slot : ℕ) (low : slot < 62) where
  record Struck (k : ℕ) (g : List ℕ) : Type 0 where
    pub wide : length g ≡ 3844
    pub row : (j : ℕ) → j < k → get_or g (slot * 62 + j) 0 ≡ 63
    pub column : (j : ℕ) → j < k → get_or g (j * 62 + slot) 0 ≡ 63

  row_one : (i : ℕ) (g : List ℕ) → i < 62 → Struck i g → Struck (i + 1) (unhear_at slot i g)
  unfolding unhear_at
  row_one i g l q =
      let n = q.wide in
      record {
        wide = length-set (set g (slot * 62 + i) 63) (i * 62 + slot) 63 ∙ length-set g (slot * 62 + i) 63 ∙ q.wide;
        row = λ j a.
            set_63 (set g (slot * 62 + i) 63) (i * 62 + slot) (slot * 62 + j)
            (⊎_elim (λ e. subst (λ (y : ℕ). get_or (set g (slot * 62 + i) 63) (slot * 62 + y) 0 ≡ 63) (sym e) (get_or-set_same g (slot * 62 + i) 63 0 (omega arith)))
            (λ z. set_63 g (slot * 62 + i) (slot * 62 + j) (q.row j (let y : j < i + 1 = a in less j i y z))) (eq_or_not j i));
        column = λ j a.
            let m = length-set g (slot * 62 + i) 63 in
            ⊎_elim (λ e. subst (λ (y : ℕ). get_or (set (set g (slot * 62 + i) 63) (i * 62 + slot) 63) (y * 62 + slot) 0 ≡ 63) (sym e) (get_or-set_same (set g (slot * 62 + i) 63) (i * 62 + slot) 63 0 (omega arith)))
            (λ z. set_63 (set g (slot * 62 + i) 63) (i * 62 + slot) (j * 62 + slot) (set_63 g (slot * 62 + i) (j * 62 + slot) (q.column j (let y : j < i + 1 = a in less j i y z)))) (eq_or_not j i);
      }
    where
      less : (j i : ℕ) → j < i + 1 → (j ≡ i → ⊥) → j < i
      less j i a z = ⊎_elim (λ l. l) (λ l. absurd (z (omega arith))) (lt_or_le j i)

  row_go : (n i : ℕ) (g : List ℕ) → i + n ≤ 62 → Struck i g → Struck (i + n) (fold (unhear_at slot) n i g)
  unfolding fold
  row_go zero i g l q = subst (λ (k : ℕ). Struck k g) (let z : i ≡ i + 0 = omega arith in z) q
  row_go (suc n) i g l q =
      subst (λ (k : ℕ). Struck k (fold (unhear_at slot) n (suc i) (unhear_at slot i g))) (let z : suc i + n ≡ i + suc n = omega arith in z)
      (row_go n (suc i) (unhear_at slot i g) (omega arith) (subst (λ (k : ℕ). Struck k (unhear_at slot i g)) (let z : i + 1 ≡ suc i = omega arith in z) (row_one i g (omega arith) q)))

  all_struck : (h : List ℕ) → length h ≡ 3844 → Struck 62 (unhear_all slot h)
  unfolding unhear_all
  all_struck h n = row_go 62 0 h (omega arith) (record { wide = n; row = λ j a. absurd (omega arith); column = λ j a. absurd (omega arith) })

  pub row_struck : (h : List ℕ) → length h ≡ 3844 → (j : ℕ) → j < 62 → get_or (unhear_all slot h) (slot * 62 + j) 0 ≡ 63
  row_struck h n = (all_struck h n).row

  pub column_struck : (h : List ℕ) → length h ≡ 3844 → (j : ℕ) → j < 62 → get_or (unhear_all slot h) (j * 62 + slot) 0 ≡ 63
  column_struck h n = (all_struck h n).column

-- ---- the waiting

apart_here : (slot : ℕ) → slot < 62 → (y : Turn) (w : Wait) → w.turn ≡ y → Apart slot (strike_by y slot w).turn
apart_here slot low Idle w e = subst (Apart slot) (sym e) tt
apart_here slot low Sending w e = subst (Apart slot) (sym e) tt
apart_here slot low (Waiting r) w e = go (eqb r.slot slot) refl (eqb r.relayfor slot) refl
  where
    go : (b : Bool) → eqb r.slot slot ≡ b → (c : Bool) → eqb r.relayfor slot ≡ c
        → Apart slot (cond b idle_wait (cond c (wait_of (Waiting (no_source r)) w.deadline) w)).turn
    go true p c q = tt
    go false p true q = (λ z. never_both (eqb r.slot slot) (eq-eqb r.slot slot z) p, λ z. omega arith)
    go false p false q = subst (Apart slot) (sym e) (λ z. never_both (eqb r.slot slot) (eq-eqb r.slot slot z) p, λ z. never_both (eqb r.relayfor slot) (eq-eqb r.relayfor slot z) q)

apart_there : (i slot : ℕ) → i < 62 → (y : Turn) (w : Wait) → w.turn ≡ y → Apart i y → Apart i (strike_by y slot w).turn
apart_there i slot low Idle w e a = subst (Apart i) (sym e) a
apart_there i slot low Sending w e a = subst (Apart i) (sym e) a
apart_there i slot low (Waiting r) w e a =
    cond_keeps (λ (v : Wait). Apart i v.turn) (eqb r.slot slot) _ _ (λ _. tt)
    (λ _. cond_keeps (λ (v : Wait). Apart i v.turn) (eqb r.relayfor slot) (wait_of (Waiting (no_source r)) w.deadline) w (λ _. (a.0, λ z. omega arith)) (λ _. subst (Apart i) (sym e) a))

-- ---- the whole

-- every slot
abbrev pub AllKeep : Station → Type 0
AllKeep s = (i : ℕ) → i < 62 → Keeps i s

bereft_tried : (slot limit : ℕ) (m : Member) → (bereft slot limit m).tried ≡ without_bit m.tried slot
bereft_tried slot limit m = cond_keeps (λ (x : Member). x.tried ≡ without_bit m.tried slot) (eqb m.via slot) _ _ (λ _. refl) (λ _. refl)

past_end : (l : List Member) (j : ℕ) → length l ≤ j → get_or l j no_member ≡ no_member
past_end [] j h = refl
past_end (x ∷ l) zero h = absurd (omega arith)
past_end (x ∷ l) (suc j) h = past_end l j (omega arith)

module _ (s : Station) (slot : ℕ) (here : is_member s.used slot ≡ true) (k : AllKeep s) where
  low : slot < 62
  low = member_lt s.used slot here

  abbrev r : Station
  r = sign_off s slot

  d : Signed slot s r
  d = signed slot s low (k slot low).long

  abbrev list₀ : ℕ
  list₀ = s.round.list

  owners_same : r.owners ≡ s.owners
  owners_same = ap (λ (t : Table). t.owners) d.table ∙ (cleared slot (table_of s)).owners

  busy_is : (c : ℕ) → has_bit r.busy c ≡ cond (ltb c 64 && is_cell_of (table_of s) slot c) false (has_bit s.busy c)
  busy_is c = ap (λ (t : Table). has_bit t.busy c) d.table ∙ (cleared slot (table_of s)).busy c

  -- a cell that is still taken was taken, and is no cell of the slot's
  still_busy : (c : ℕ) → has_bit r.busy c ≡ true → (has_bit s.busy c ≡ true) × (get_or s.owners c 0 / 4294967296 ≡ slot → ⊥)
  still_busy c h = go (has_bit s.busy c) refl (eqb (get_or s.owners c 0 / 4294967296) slot) refl (sym (busy_is c) ∙ h)
    where
      go : (b : Bool) → has_bit s.busy c ≡ b → (o : Bool) → eqb (get_or s.owners c 0 / 4294967296) slot ≡ o → cond (ltb c 64 && (b && o)) false b ≡ true
          → (has_bit s.busy c ≡ true) × (get_or s.owners c 0 / 4294967296 ≡ slot → ⊥)
      go false p o q e = absurd (never_both false (of (ltb c 64 && false) e) refl)
        where
          of : (x : Bool) → cond x false false ≡ true → false ≡ true
          of true e = e
          of false e = e
      go true p true q e = absurd (never_both true refl (sym (rw (lt-ltb c 64 ((k slot low).held c p)) at e)))
      go true p false q e = (p, λ z. never_both (eqb (get_or s.owners c 0 / 4294967296) slot) (eq-eqb (get_or s.owners c 0 / 4294967296) slot z) q)

  -- tried lists: of a slot i that was in none but where it is struck
  tried_is : (i : ℕ) → ((j : ℕ) → is_member s.used j ≡ true → has_bit (without_bit (get_or s.members j no_member).tried slot) i ≡ false)
      → (j : ℕ) → has_bit (get_or r.members j no_member).tried i ≡ false
  tried_is i h j =
      ⊎_elim (λ e. ap (λ (m : Member). has_bit m.tried i) (ap (λ (y : ℕ). get_or r.members y no_member) e ∙ d.here) ∙ has_none i)
      (λ z. go z (is_member s.used j) refl) (eq_or_not j slot)
    where
      go : (j ≡ slot → ⊥) → (b : Bool) → is_member s.used j ≡ b → has_bit (get_or r.members j no_member).tried i ≡ false
      go z true e = ap (λ (m : Member). has_bit m.tried i) (d.boat j e z) ∙ ap (λ (t : ℕ). has_bit t i) (bereft_tried slot s.settings.misslimit (get_or s.members j no_member)) ∙ h j e
      go z false e =
          ap (λ (m : Member). has_bit m.tried i) (d.empty j e z)
          ∙ ⊎_elim (λ l. ap (λ (m : Member). has_bit m.tried i) ((k j l).blank (sym (member_is s.used j l) ∙ e)).member ∙ has_none i)
          (λ l. ap (λ (m : Member). has_bit m.tried i) (past_end s.members j (let n = (k slot low).long in omega arith)) ∙ has_none i) (lt_or_le j 62)

  blank_here : BlankIn slot r
  blank_here =
      record {
        member = d.here;
        row = λ j l. ap (λ (h : List ℕ). get_or h (slot * 62 + j) 0) d.hears ∙ row_struck slot low s.hears (k slot low).wide j l;
        toack = ap (λ (x : Round). has_bit x.toack slot) d.round ∙ without_same s.round.toack slot;
        treenews = ap (λ (x : Round). has_bit x.treenews slot) d.round ∙ without_same s.round.treenews slot;
        list = ap (λ (x : Round). has_bit x.list slot) d.round ∙ without_same s.round.list slot;
        tried = tried_is slot (λ j e. without_same (get_or s.members j no_member).tried slot);
        turn = subst (λ (w : Wait). Apart slot w.turn) (sym d.wait) (apart_here slot low s.wait.turn s.wait refl);
        cells = λ c h e. (still_busy c h).1 (ap (λ (l : List ℕ). get_or l c 0 / 4294967296) (sym owners_same) ∙ e);
      }

  blank_there : (i : ℕ) → i < 62 → (i ≡ slot → ⊥) → has_bit s.used i ≡ false → BlankIn i r
  blank_there i l z f =
      let b = (k i l).blank f in
      record {
        member = d.empty i (member_is s.used i l ∙ f) z ∙ b.member;
        row = λ j a. ap (λ (h : List ℕ). get_or h (i * 62 + j) 0) d.hears ∙ unhear_stays slot (i * 62 + j) s.hears (b.row j a);
        toack = ap (λ (x : Round). has_bit x.toack i) d.round ∙ without_false s.round.toack i slot b.toack;
        treenews = ap (λ (x : Round). has_bit x.treenews i) d.round ∙ without_false s.round.treenews i slot b.treenews;
        list = ap (λ (x : Round). has_bit x.list i) d.round ∙ without_false s.round.list i slot b.list;
        tried = tried_is i (λ j e. without_false (get_or s.members j no_member).tried i slot (b.tried j));
        turn = subst (λ (w : Wait). Apart i w.turn) (sym d.wait) (apart_there i slot l s.wait.turn s.wait refl b.turn);
        cells = λ c h e. b.cells c (still_busy c h).0 (ap (λ (y : List ℕ). get_or y c 0 / 4294967296) (sym owners_same) ∙ e);
      }

  pub sign_keeps : AllKeep r
  sign_keeps i l =
      record {
        long = d.long;
        wide = ap length d.hears ∙ unhear_long slot s.hears ∙ (k slot low).wide;
        many = ap length owners_same ∙ (k slot low).many;
        held = λ c h. (k slot low).held c (still_busy c h).0;
        blank = λ f.
            ⊎_elim (λ e. subst (λ (y : ℕ). BlankIn y r) (sym e) blank_here)
            (λ z. blank_there i l z (sym (without_other s.used slot i (λ e. z (sym e))) ∙ ap (λ (u : ℕ). has_bit u i) (sym d.used) ∙ f)) (eq_or_not i slot);
      }
