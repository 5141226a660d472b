-- The lines of the slots as a loop fills them in, boat by boat, and the most that they come to. Assumes nothing.
use mathlib.Core.Path.{◌≡◌, refl, sym, ap, ◌∙◌}
use mathlib.Core.Bool.{Bool, true, false, cond, ◌&&◌}
use mathlib.Core.List.{List, [], ◌∷◌}
use mathlib.Core.Logic.{⊎_elim}
use Prim.Native.Nat.{ℕ, zero, suc, ◌+◌, ◌-◌, ◌*◌, ◌/◌, ◌≤◌, ◌<◌}
use native.Mathlib.Omega.{arith}
use Rattle.std.specs.Prelude.{Ok}
use Rattle.std.specs.List.{list_all}
use lib.Dec.{eqb, leb}
use lib.ListN.{length, get_or, set, replicate, length-set, get_or-replicate}
use lib.Seq.{get_or-set_same, get_or-set_other}
use borrow.Author.Tests.{eq-eqb, ne_eqb, eqb-true, leb-true}
use Rattle.bits.specs.Loop.{every}
use Rattle.bits.proofs.Loops.{every_all}
use Rattle.bits.proofs.Lists.{eq_or_not, lt_or_le, below, and_true}
use Rattle.roster.specs.Members.{no_member}
use Rattle.net.specs.declared.Station.{Station}
use Rattle.net.specs.State.{index_of}
use Rattle.net.specs.Net.{is_member}
use Rattle.net.proofs.Laws.{index_lt, index_is, member_none}
use Rattle.dues.specs.Dues.{slots_from, per_slot, total, charge_at, relay_of, credit_from, credit_of, tenth_to, taking_by, taking_of, takings_of, figures_ok, bill_of, dues_of}
use Rattle.dues.proofs.Cents.{slot_most}
use Rattle.dues.proofs.Sums.{slots_are, sum_turn, sum_end, sum_most}

-- ---- the figures

-- a test of each of n places, counted from the next place on
every_next : (p q : ℕ → Bool) (n i : ℕ) → ((j : ℕ) → p (suc j) ≡ q j) → every p n (suc i) ≡ every q n i
unfolding every
every_next p q zero i e = refl
every_next p q (suc n) i e = rw (e i, every_next p q n (suc i) e)

-- of each place is of each figure
pub every_one : (p : ℕ → Bool) (l : List ℕ) → every (λ i. p (get_or l i 0)) (length l) 0 ≡ list_all p l
unfolding every
every_one p [] = refl
every_one p (x ∷ l) = ap (λ (b : Bool). p x && b) (every_next _ (λ i. p (get_or l i 0)) (length l) 0 (λ j. refl) ∙ every_one p l)

-- ---- one credit

none_if : (b : Bool) → ◌≡◌ {A = ℕ} (cond b 0 0) 0
none_if true = refl
none_if false = refl

both_if : (b : Bool) (x y : ℕ) → cond b (x + y) 0 ≡ cond b x 0 + cond b y 0
both_if true x y = refl
both_if false x y = refl

-- a credit to the relay, seen from slot r: to it where it is the relay, and nothing else
to_relay : (used relay x r : ℕ) → r ≡ index_of relay → r < 62 → cond (is_member used relay) x 0 ≡ cond (is_member used r) (cond (eqb relay r) x 0) 0
to_relay used relay x r e h =
    ⊎_elim
    (λ l.
    let k : r ≡ relay = e ∙ index_is relay l in
    rw (k, eq-eqb relay relay refl))
    (λ l. rw (member_none used relay l, ne_eqb relay r (λ z. omega arith), none_if (is_member used r)))
    (lt_or_le relay 62)

to_others : (used relay x r : ℕ) → (r ≡ index_of relay → ⊥) → r < 62 → cond (is_member used r) (cond (eqb relay r) x 0) 0 ≡ 0
to_others used relay x r n h =
    rw (ne_eqb relay r (λ e. n (sym e ∙ sym (index_is relay (omega arith)))), none_if (is_member used r))

credit_turn : (used relay x : ℕ) (l : List ℕ) → length l ≡ 62 → (r : ℕ) → r < 62
    → get_or (set l (index_of relay) (get_or l (index_of relay) 0 + cond (is_member used relay) x 0)) r 0
    ≡ get_or l r 0 + cond (is_member used r) (cond (eqb relay r) x 0) 0
credit_turn used relay x l e r h =
    ⊎_elim
    (λ k.
    ap (λ (j : ℕ). get_or (set l (index_of relay) (get_or l (index_of relay) 0 + cond (is_member used relay) x 0)) j 0) k
    ∙ get_or-set_same l (index_of relay) _ 0 (omega (arith, index_lt relay))
    ∙ ap (λ (j : ℕ). get_or l j 0 + cond (is_member used relay) x 0) (sym k)
    ∙ ap (λ (y : ℕ). get_or l r 0 + y) (to_relay used relay x r k h))
    (λ n. get_or-set_other l (index_of relay) r _ 0 n ∙ omega (arith, to_others used relay x r n h))
    (eq_or_not r (index_of relay))

-- ---- the loop

-- after the slots below i: their charges stand there, and credits and takings lack only what the other slots bring
pub record Reckoned (s : Station) (figures charges credits : List ℕ) (takings i : ℕ) : Type 0 where
  pub slots : length charges ≡ 62
  pub lines : length credits ≡ 62
  pub charged : (j : ℕ) → j < i → get_or charges j 0 ≡ charge_at s figures j
  pub credited : (r : ℕ) → r < 62
      → get_or credits r 0 + cond (is_member s.used r) (total (slots_from (credit_from s figures r) (62 - i) i)) 0 ≡ credit_of s figures r
  pub taken : takings + total (slots_from (taking_of s figures) (62 - i) i) ≡ takings_of s figures

pub reckoned_start : (s : Station) (figures : List ℕ) → Reckoned s figures (replicate 62 0) (replicate 62 0) 0 0
unfolding credit_of takings_of
reckoned_start s figures =
    record {
      slots = refl;
      lines = refl;
      charged = λ j h. absurd (omega arith);
      credited = λ r h. rw (get_or-replicate {A = ℕ} 62 r 0 0 h) (omega arith);
      taken = omega arith;
    }

-- a relay's line is one of the 62
pub line_lt : (s : Station) (i v : ℕ) → v ≡ index_of (get_or s.members i no_member).via → v < 62
line_lt s i v e = rw e (index_lt (get_or s.members i no_member).via)

relay_at : (s : Station) (i : ℕ) → i < 62 → (get_or s.members i no_member).via ≡ relay_of s i
relay_at s i h = ap (λ (k : ℕ). (get_or s.members k no_member).via) (sym (index_is i h))

module _ (s : Station) (figures charges credits : List ℕ) (takings i : ℕ) (h : i < 62) (g : Reckoned s figures charges credits takings i) where
  turn : Reckoned s figures (set charges i (charge_at s figures i))
      (set credits (index_of (relay_of s i)) (get_or credits (index_of (relay_of s i)) 0 + tenth_to s.used (relay_of s i) (charge_at s figures i)))
      (takings + taking_of s figures i) (i + 1)
  turn =
      record {
        slots = length-set charges i _ ∙ g.slots;
        lines = length-set credits _ _ ∙ g.lines;
        charged = λ j q. ⊎_elim
            (λ e. ap (λ (k : ℕ). get_or (set charges i (charge_at s figures i)) k 0) e ∙ get_or-set_same charges i _ 0 (omega (arith, g.slots)) ∙ ap (charge_at s figures) (sym e))
            (λ n. get_or-set_other charges i j _ 0 n ∙ g.charged j (below j i q n))
            (eq_or_not j i);
        credited = λ r q.
            let a = credit_turn s.used (relay_of s i) (charge_at s figures i / 10) credits g.lines r q in
            let b = both_if (is_member s.used r) (credit_from s figures r i) (total (slots_from (credit_from s figures r) (62 - (i + 1)) (i + 1))) in
            let e = rw (sum_turn (credit_from s figures r) 62 i h) at (g.credited r q) in
            omega arith;
        taken = let e = rw (sum_turn (taking_of s figures) 62 i h) at g.taken in omega arith;
      }

  -- the same of what the code has found: the charge c, the line v of the relay, its tenth t and the taking w
  module _ (c v t w : ℕ) (ce : c ≡ charge_at s figures i) (ve : v ≡ index_of (get_or s.members i no_member).via)
      (te : t ≡ tenth_to s.used (get_or s.members i no_member).via c) (we : w ≡ taking_by (get_or s.members i no_member).via c) where
    pub reckoned_turn : Reckoned s figures (set charges i c) (set credits v (get_or credits v 0 + t)) (takings + w) (i + 1)
    reckoned_turn = rw (we, te, ve, ce, relay_at s i h) turn

    -- a credit is below its line's, and so are the takings
    pub credit_below : get_or credits v 0 + t ≤ credit_of s figures v
    credit_below =
        let k = line_lt s i v ve in
        let e = reckoned_turn.credited v k in
        let q = get_or-set_same credits v (get_or credits v 0 + t) 0 (omega (arith, g.lines)) in
        omega arith

    pub taking_below : takings + w ≤ takings_of s figures
    taking_below = let e = reckoned_turn.taken in omega arith

pub reckoned_end : (s : Station) (figures charges credits : List ℕ) (takings i : ℕ) → 62 ≤ i → figures_ok figures ≡ true
    → Reckoned s figures charges credits takings i
    → Ok (record { charges = charges; credits = credits; takings = takings }) ≡ dues_of s figures
unfolding dues_of bill_of
reckoned_end s figures charges credits takings i h ok g =
    let a = slots_are (charge_at s figures) charges g.slots (λ j q. g.charged j (omega arith)) in
    let b = slots_are (credit_of s figures) credits g.lines (λ r q. last r (g.credited r q)) in
    let e = sum_end (taking_of s figures) 62 i h in
    let w : takings ≡ takings_of s figures = omega (arith, g.taken) in
    rw (ok, a, b, w)
  where
    last : (r : ℕ) → get_or credits r 0 + cond (is_member s.used r) (total (slots_from (credit_from s figures r) (62 - i) i)) 0 ≡ credit_of s figures r
        → get_or credits r 0 ≡ credit_of s figures r
    last r e =
        let z = rw (sum_end (credit_from s figures r) 62 i h, none_if (is_member s.used r)) at e in
        omega arith

-- ---- the most that the lines come to, for figures that are not refused

module _ (figures : List ℕ) (ok : figures_ok figures ≡ true) where
  pub figures_many : length figures ≡ 62
  unfolding figures_ok
  figures_many = eqb-true (length figures) 62 (and_true _ _ ok).0

  pub figure_most : (j : ℕ) → j < 62 → get_or figures j 0 ≤ 1000000000
  unfolding figures_ok
  figure_most j h =
      let each : ℕ → Bool = λ i. leb (get_or figures i 0) 1000000000 in
      leb-true (get_or figures j 0) 1000000000 (every_all each 62 0 (and_true (eqb (length figures) 62) (every each 62 0) ok).1 j (omega arith) (omega arith))

  module _ (s : Station) where
    charge_at_most : (j : ℕ) → j < 62 → charge_at s figures j ≤ 78125820
    charge_at_most j h = slot_most s.used j (get_or figures j 0) (figure_most j h)

    pub credit_most : (r : ℕ) → credit_of s figures r ≤ 484380084
    unfolding credit_of
    credit_most r = go (is_member s.used r)
      where
        from : (j : ℕ) (b : Bool) → j < 62 → cond b (charge_at s figures j / 10) 0 ≤ 7812582
        from j true h = let a = charge_at_most j h in omega arith
        from j false h = omega arith

        go : (b : Bool) → cond b (total (per_slot (credit_from s figures r))) 0 ≤ 484380084
        go true = let a = sum_most (credit_from s figures r) 7812582 62 0 (λ j l h. from j (eqb (relay_of s j) r) (omega arith)) in omega arith
        go false = omega arith

    pub takings_most : takings_of s figures ≤ 4843800840
    unfolding takings_of
    takings_most =
        let a = sum_most (taking_of s figures) 78125820 62 0 (λ j l h. of j (eqb (relay_of s j) 63) (omega arith)) in omega arith
      where
        of : (j : ℕ) (b : Bool) → j < 62 → cond b (charge_at s figures j) ((9 * charge_at s figures j + 9) / 10) ≤ 78125820
        of j true h = charge_at_most j h
        of j false h = let a = charge_at_most j h in omega arith
