-- The total of silent boats through each change that the station makes to its roster: a member changed but for its missed count, one that is tallied, and a
-- newcomer. Assumes nothing.
use mathlib.Core.Path.{◌≡◌, refl, sym, ap, ap₂, ◌∙◌, subst}
use mathlib.Core.Logic.{⊎_elim}
use Prim.Native.Nat.{ℕ, zero, suc, ◌+◌, ◌<◌, ◌≤◌}
use native.Mathlib.Omega.{arith}
use mathlib.Core.Bool.{Bool, true, false, cond, ◌&&◌, and-false}
use mathlib.Core.List.{List}
use lib.ListN.{length, get_or, set, replicate, length-replicate, length-set}
use lib.Seq.{get_or-set_same, get_or-set_other}
use lib.Dec.{leb}
use borrow.Author.Tests.{lt-leb}
use Rattle.bits.specs.Mask.{has_bit, with_bit, without_bit}
use Rattle.bits.proofs.Laws.{without_other}
use Rattle.bits.proofs.Lists.{eq_or_not}
use Rattle.bits.proofs.Stops.{stop_is}
use Rattle.roster.specs.declared.Member.{Member}
use Rattle.roster.specs.Members.{no_member, silent_at, tally}
use Rattle.roster.proofs.Silent.{tally_same, tally_less, tally_more}
use Rattle.net.specs.declared.Station.{Station}
use Rattle.net.specs.State.{index_of}
use Rattle.net.specs.Net.{is_member}
use Rattle.net.proofs.Laws.{index_is, member_is}
use Rattle.laws.specs.Silent.{count_below, silent_count}
use Rattle.promise.proofs.Rosters.{change, no_member_lem, member_other}

-- ---- counting

-- what a slot adds
abbrev share : Bool → ℕ
share b = cond b 1 0

share_le : (b : Bool) → share b ≤ 1
share_le true = omega arith
share_le false = omega arith

count_le : (p : ℕ → Bool) (n : ℕ) → count_below p n ≤ n
unfolding count_below
count_le p zero = omega arith
count_le p (suc n) = omega (arith, count_le p n, share_le (p n))

-- tests that agree below n
count_same : (p q : ℕ → Bool) (n : ℕ) → ((i : ℕ) → i < n → p i ≡ q i) → count_below p n ≡ count_below q n
unfolding count_below
count_same p q zero f = refl
count_same p q (suc n) f = ap₂ ◌+◌ (count_same p q n (λ i h. f i (omega arith))) (ap share (f n (omega arith)))

-- tests that agree but at slot c: the count less the one share and plus the other
count_one : (p q : ℕ → Bool) (c n : ℕ) → c < n → ((i : ℕ) → i < n → (i ≡ c → ⊥) → p i ≡ q i) → count_below q n + share (p c) ≡ count_below p n + share (q c)
unfolding count_below
count_one p q c zero h f = absurd (omega arith)
count_one p q c (suc n) h f =
    ⊎_elim
    (λ e.
    omega (
      arith,
      count_same p q n (λ i l. f i (omega arith) (λ d. omega arith)),
      ap (λ (x : ℕ). share (p x)) e,
      ap (λ (x : ℕ). share (q x)) e,
    ))
    (λ d. omega (arith, count_one p q c n (omega (arith, d)) (λ i l. f i (omega arith)), ap share (f n (omega arith) d)))
    (eq_or_not n c)

count_none : (p : ℕ → Bool) (n : ℕ) → ((i : ℕ) → p i ≡ false) → count_below p n ≡ 0
unfolding count_below
count_none p zero f = refl
count_none p (suc n) f = ap₂ ◌+◌ (count_none p n f) (ap share (f n))

-- a total below 63 follows the count
tally_is : (n m : ℕ) (before after : Bool) → m + share before ≡ n + share after → n ≤ 62 → tally n before after ≡ m
tally_is n m true true e l = tally_same n true ∙ omega arith
tally_is n m true false e l = tally_less n ∙ omega arith
tally_is n m false true e l = tally_more n ∙ stop_is (n + 1) (omega arith) ∙ omega arith
tally_is n m false false e l = tally_same n false ∙ omega arith

-- ---- the invariant

abbrev silent_in : ℕ → ℕ → List Member → ℕ → Bool
silent_in limit used ms i = is_member used i && silent_at limit (get_or ms (index_of i) no_member)

-- the total is the count, nobody is silent with no missed poll, and there are 62 slots
pub record Kept (n limit used : ℕ) (ms : List Member) : Type 0 where
  pub counted : n ≡ count_below (silent_in limit used ms) 62
  pub least : 1 ≤ limit
  pub size : length ms ≡ 62

abbrev pub Keeps : Station → Type 0
Keeps s = Kept s.totals.silent s.settings.misslimit s.used s.members

pub kept_counts : (s : Station) → Keeps s → s.totals.silent ≡ silent_count s
kept_counts s k = k.counted

set_size : (ms : List Member) (i : ℕ) (m : Member) → length ms ≡ 62 → length (set ms i m) ≡ 62
set_size ms i m e = length-set ms i m ∙ e

pub kept_none : (limit : ℕ) (m : Member) → 1 ≤ limit → Kept 0 limit 0 (replicate 62 m)
kept_none limit m h =
    record {
      counted = sym (count_none (silent_in limit 0 (replicate 62 m)) 62 (λ i. ap (λ (b : Bool). b && silent_at limit (get_or (replicate 62 m) (index_of i) no_member)) (no_member_lem i)));
      least = h;
      size = length-replicate {A = Member} 62 m;
    }

-- a change that leaves the missed count as it is
pub kept_same : (n limit used : ℕ) (ms : List Member) (i : ℕ) (m : Member) → m.missed ≡ (get_or ms i no_member).missed → Kept n limit used ms
    → Kept n limit used (set ms i m)
kept_same n limit used ms i m e k =
    record {
      counted =
          k.counted
          ∙ count_same (silent_in limit used ms) (silent_in limit used (set ms i m)) 62
          (λ j l.
          ap (λ (x : ℕ). is_member used j && leb limit x)
          (sym (change (λ a b. a.missed ≡ b.missed) (λ a. refl) m ms i (index_of j) e)));
      least = k.least;
      size = set_size ms i m k.size;
    }

-- the member at index i becomes m, and the total goes with it
pub kept_tally : (n limit used : ℕ) (ms : List Member) (i : ℕ) (m : Member) → i < 62 → is_member used i ≡ true → Kept n limit used ms
    → Kept (tally n (silent_at limit (get_or ms i no_member)) (silent_at limit m)) limit used (set ms i m)
kept_tally n limit used ms i m h here k =
    record {
      counted = tally_is n (count_below q 62) _ _ (rw (← old, ← new) (count_one p q i 62 h other ∙ ap (λ (x : ℕ). x + share (q i)) (sym k.counted))) (omega (arith, k.counted, count_le p 62));
      least = k.least;
      size = set_size ms i m k.size;
    }
  where
    p : ℕ → Bool
    p = silent_in limit used ms

    q : ℕ → Bool
    q = silent_in limit used (set ms i m)

    old : p i ≡ silent_at limit (get_or ms i no_member)
    old = ap₂ (λ (b : Bool) (j : ℕ). b && silent_at limit (get_or ms j no_member)) here (index_is i h)

    new : q i ≡ silent_at limit m
    new =
        let z : length ms ≡ 62 = k.size in
        ap₂ (λ (b : Bool) (j : ℕ). b && silent_at limit (get_or (set ms i m) j no_member)) here (index_is i h)
        ∙ ap (silent_at limit) (get_or-set_same ms i m no_member (omega arith))

    other : (j : ℕ) → j < 62 → (j ≡ i → ⊥) → p j ≡ q j
    other j l d =
        ap (λ (x : Member). is_member used j && silent_at limit x)
        (sym (get_or-set_other ms i (index_of j) m no_member (λ e. d (sym (index_is j l) ∙ e))))

-- a newcomer at a free slot has missed no poll
pub kept_new : (n limit used : ℕ) (ms : List Member) (c : ℕ) (m : Member) → c < 62 → has_bit used c ≡ false → m.missed ≡ 0 → Kept n limit used ms
    → Kept n limit (with_bit used c) (set ms c m)
kept_new n limit used ms c m h free none k =
    record {
      counted = k.counted ∙ count_same p q 62 (λ j l. ⊎_elim (λ e. subst (λ (x : ℕ). p x ≡ q x) (sym e) (old ∙ sym new)) (other j l) (eq_or_not j c));
      least = k.least;
      size = set_size ms c m k.size;
    }
  where
    p : ℕ → Bool
    p = silent_in limit used ms

    q : ℕ → Bool
    q = silent_in limit (with_bit used c) (set ms c m)

    old : p c ≡ false
    old = ap (λ (b : Bool). b && silent_at limit (get_or ms (index_of c) no_member)) (member_is used c h ∙ free)

    new : q c ≡ false
    new =
        let z : length ms ≡ 62 = k.size in
        let o : 1 ≤ limit = k.least in
        ap (λ (j : ℕ). is_member (with_bit used c) c && silent_at limit (get_or (set ms c m) j no_member)) (index_is c h)
        ∙ ap (λ (x : Member). is_member (with_bit used c) c && silent_at limit x) (get_or-set_same ms c m no_member (omega arith))
        ∙ ap (λ (x : ℕ). is_member (with_bit used c) c && leb limit x) none
        ∙ ap (λ (b : Bool). is_member (with_bit used c) c && b) (lt-leb limit 0 (omega arith))
        ∙ and-false (is_member (with_bit used c) c)

    other : (j : ℕ) → j < 62 → (j ≡ c → ⊥) → p j ≡ q j
    other j l d =
        ap₂ (λ (b : Bool) (x : Member). b && silent_at limit x)
        (sym (member_other used c j d))
        (sym (get_or-set_other ms c (index_of j) m no_member (λ e. d (sym (index_is j l) ∙ e))))

-- a boat that has missed no poll goes
pub kept_drop : (n limit used : ℕ) (ms : List Member) (c : ℕ) → c < 62 → (get_or ms c no_member).missed ≡ 0 → Kept n limit used ms → Kept n limit (without_bit used c) ms
kept_drop n limit used ms c h none k =
    record {
      counted = k.counted ∙ count_same p q 62 (λ j l. ⊎_elim (λ e. subst (λ (x : ℕ). p x ≡ q x) (sym e) (quiet used ∙ sym (quiet (without_bit used c)))) (other j l) (eq_or_not j c));
      least = k.least;
      size = k.size;
    }
  where
    p : ℕ → Bool
    p = silent_in limit used ms

    q : ℕ → Bool
    q = silent_in limit (without_bit used c) ms

    quiet : (u : ℕ) → silent_in limit u ms c ≡ false
    quiet u =
        let o : 1 ≤ limit = k.least in
        ap (λ (j : ℕ). is_member u c && silent_at limit (get_or ms j no_member)) (index_is c h)
        ∙ ap (λ (x : ℕ). is_member u c && leb limit x) none
        ∙ ap (λ (b : Bool). is_member u c && b) (lt-leb limit 0 (omega arith))
        ∙ and-false (is_member u c)

    other : (j : ℕ) → j < 62 → (j ≡ c → ⊥) → p j ≡ q j
    other j l d =
        ap (λ (b : Bool). b && silent_at limit (get_or ms (index_of j) no_member))
        (member_is used j l ∙ sym (without_other used c j (λ e. d (sym e))) ∙ sym (member_is (without_bit used c) j l))
