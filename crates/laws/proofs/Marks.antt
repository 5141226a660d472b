-- The marks kept of a boat are those rebuilt from its whole window, from all that landed, and from the book. Assumes nothing.
use mathlib.Core.Path.{◌≡◌, refl, sym, ap, ap₂, ◌∙◌, subst}
use mathlib.Core.Bool.{Bool, true, false, cond, ◌&&◌, ◌||◌, or-false}
use mathlib.Core.List.{List, [], ◌∷◌}
use mathlib.Core.Logic.{⊎_elim}
use Prim.Native.Nat.{ℕ, zero, suc, ◌+◌, ◌^◌, ◌≤◌, ◌<◌}
use native.Mathlib.Omega.{arith}
use lib.ListN.{length}
use lib.Dec.{ltb, eqb}
use borrow.Author.Tests.{le-leb, lt-leb, lt-ltb, le-ltb, eq-eqb, ne_eqb}
use Rattle.bits.specs.Loop.{fold}
use Rattle.bits.specs.Mask.{has_bit}
use Rattle.bits.proofs.Bits.{bit, add_same, add_other, add_fits}
use Rattle.bits.proofs.Laws.{has_none, has_past, has_bit_lem, true_has, has_either, either_fits, has_false, mask_ext}
use Rattle.bits.proofs.Loops.{fold_keeps_below}
use Rattle.bits.proofs.Lists.{cond_true, le_or_lt, eq_or_not}
use Rattle.stream.specs.declared.window.Window.{Window}
use Rattle.stream.specs.Window.{fresh_of, handed_of, bitmap_of}
use Rattle.stream.proofs.Windows.{handed_low, next_not_handed, bitmap_at}
use Rattle.net.specs.declared.Station.{Station}
use Rattle.net.specs.State.{member_at}
use Rattle.net.specs.Net.{is_member}
use Rattle.promise.specs.Promise.{Net, Call, step, after, started, Stays, sent_now, Book, empty_book, book_call, inside, CallsOk}
use Rattle.laws.specs.Marks.{also_marked, rebuilt, Follows, MarksHold, in_window, landed_in, book_after, MarksFollow}
use Rattle.promise.proofs.Ledgers.{inside_of}
use Rattle.promise.proofs.Quiet.{window_at}
use Rattle.promise.proofs.Messages.{Tied, started_tied, call_good}
use Rattle.laws.proofs.Landings.{calls_told}

-- ---- what is rebuilt has bit d, below 8, where next + 1 + d is handed over

no_digit : (i : ℕ) → bit 0 i ≡ 0
no_digit i = has_false 0 i (has_none i)

from_none : (i : ℕ) → 2 ^ i ≡ 0 + 2 ^ i
from_none i = omega arith

power_has : (i j : ℕ) → has_bit (2 ^ i) j ≡ eqb i j
power_has i j =
    ap (λ (x : ℕ). has_bit x j) (from_none i)
    ∙ ⊎_elim
    (λ e. ap (has_bit (0 + 2 ^ i)) (sym e) ∙ true_has (0 + 2 ^ i) i (add_same 0 i (no_digit i)) ∙ sym (eq-eqb i j e))
    (λ e. has_bit_lem (0 + 2 ^ i) 0 j j (add_other 0 i j (no_digit i) e) ∙ has_none j ∙ sym (ne_eqb i j e))
    (eq_or_not i j)

one_has : (t : Bool) (i j : ℕ) → has_bit (cond t (2 ^ i) 0) j ≡ t && eqb i j
one_has true i j = power_has i j
one_has false i j = has_none j

one_fits : (t : Bool) (i : ℕ) → i < 64 → cond t (2 ^ i) 0 < 2 ^ 64
one_fits true i a = subst (λ (x : ℕ). x < 2 ^ 64) (sym (from_none i)) (add_fits 64 0 i (omega arith) a (no_digit i))
one_fits false i a = omega arith

past_inside : (i n j : ℕ) → i + n ≤ j → inside i n j ≡ false
past_inside i n j a = ap₂ ◌&&◌ (le-leb i j (omega arith)) (le-ltb j (i + n) a)

none_inside : (i j : ℕ) → inside i 0 j ≡ false
none_inside i j =
    ⊎_elim (λ a. past_inside i 0 j (omega arith)) (λ a. ap (λ (t : Bool). t && ltb j (i + 0)) (lt-leb i j a)) (le_or_lt i j)

first_inside : (n i : ℕ) → (inside i (suc n) i ≡ true) × (inside (suc i) n i ≡ false)
first_inside n i = (
  ap (λ (t : Bool). t && ltb i (i + suc n)) (le-leb i i (omega arith)) ∙ lt-ltb i (i + suc n) (omega arith),
  ap (λ (t : Bool). t && ltb i (suc i + n)) (lt-leb (suc i) i (omega arith)),
)

later_inside : (n i j : ℕ) → (i ≡ j → ⊥) → inside (suc i) n j ≡ inside i (suc n) j
later_inside n i j z =
    ap₂ ◌&&◌ (⊎_elim (λ a. le-leb (suc i) j a ∙ sym (le-leb i j (omega arith))) (λ a. lt-leb (suc i) j a ∙ sym (lt-leb i j (⊎_elim (λ b. absurd (z (omega arith))) (λ b. b) (le_or_lt i j)))) (le_or_lt (suc i) j))
    (let e : suc i + n ≡ i + suc n = omega arith in ap (ltb j) e)

module _ (has : ℕ → Bool) (next : ℕ) where
  abbrev test : ℕ → Bool
  test d = has (next + 1 + d)

  step_has : (i a j : ℕ) → has_bit (also_marked has next i a) j ≡ has_bit a j || (test i && eqb i j)
  step_has i a j = has_either a (cond (test i) (2 ^ i) 0) j ∙ ap (λ (t : Bool). has_bit a j || t) (one_has (test i) i j)

  fold_has : (n i a j : ℕ) → has_bit (fold (also_marked has next) n i a) j ≡ has_bit a j || (inside i n j && test j)
  unfolding fold
  fold_has zero i a j = sym (ap (λ (t : Bool). has_bit a j || (t && test j)) (none_inside i j) ∙ or-false (has_bit a j))
  fold_has (suc n) i a j =
      fold_has n (suc i) (also_marked has next i a) j
      ∙ ap (λ (t : Bool). t || (inside (suc i) n j && test j)) (step_has i a j)
      ∙ ⊎_elim here there (eq_or_not i j)
    where
      at_first : (x t : Bool) → (x || (t && true)) || false ≡ x || t
      at_first true t = refl
      at_first false true = refl
      at_first false false = refl

      at_later : (x t y : Bool) → (x || (t && false)) || y ≡ x || y
      at_later true t y = refl
      at_later false true y = refl
      at_later false false y = refl

      here : i ≡ j → (has_bit a j || (test i && eqb i j)) || (inside (suc i) n j && test j) ≡ has_bit a j || (inside i (suc n) j && test j)
      here e =
          subst (λ (j : ℕ). (has_bit a j || (test i && eqb i j)) || (inside (suc i) n j && test j) ≡ has_bit a j || (inside i (suc n) j && test j)) e
          (rw (eq-eqb i i refl, (first_inside n i).0, (first_inside n i).1) (at_first (has_bit a i) (test i)))

      there : (i ≡ j → ⊥) → (has_bit a j || (test i && eqb i j)) || (inside (suc i) n j && test j) ≡ has_bit a j || (inside i (suc n) j && test j)
      there z = rw (ne_eqb i j z, later_inside n i j z) (at_later (has_bit a j) (test i) (inside i (suc n) j && test j))

  pub rebuilt_has : (d : ℕ) → has_bit (rebuilt has next) d ≡ inside 0 8 d && test d
  unfolding rebuilt
  rebuilt_has d = fold_has 8 0 0 d ∙ ap (λ (t : Bool). t || (inside 0 8 d && test d)) (has_none d)

  rebuilt_fits : rebuilt has next < 2 ^ 64
  unfolding rebuilt
  rebuilt_fits =
      fold_keeps_below (λ (a : ℕ). a < 2 ^ 64) (also_marked has next) 8 0
      (λ i a l h f. either_fits a (cond (test i) (2 ^ i) 0) f (one_fits (test i) i (omega arith))) 0 (omega arith)

-- ---- a boat's window

pub marks_window : (w : Window) → bitmap_of w ≡ rebuilt (handed_of w) w.next
marks_window w = mask_ext (bitmap_of w) (rebuilt (handed_of w) w.next) (omega arith) (rebuilt_fits (handed_of w) w.next) (λ d h. ⊎_elim (past d) (low d) (le_or_lt 8 d))
  where
    low : (d : ℕ) → d < 8 → has_bit (bitmap_of w) d ≡ has_bit (rebuilt (handed_of w) w.next) d
    low d a =
        bitmap_at w d a
        ∙ sym (rebuilt_has (handed_of w) w.next d ∙ ap (λ (t : Bool). t && handed_of w (w.next + 1 + d)) (inside_of 0 8 d (omega arith) (omega arith)))

    past : (d : ℕ) → 8 ≤ d → has_bit (bitmap_of w) d ≡ has_bit (rebuilt (handed_of w) w.next) d
    past d a =
        has_past 8 (bitmap_of w) d (omega arith) a
        ∙ sym (rebuilt_has (handed_of w) w.next d ∙ ap (λ (t : Bool). t && handed_of w (w.next + 1 + d)) (past_inside 0 8 d a))

-- a test that says of every number what the window says
follows : (has : ℕ → Bool) (w : Window) → ((k : ℕ) → has k ≡ handed_of w k) → Follows has w
follows has w says =
    record {
      missing = says w.next ∙ next_not_handed w;
      below = λ j a. says j ∙ handed_low w j a;
      marks = marks_window w ∙ ap (λ (f : ℕ → Bool). rebuilt f w.next) (λ j k. sym (says k) j);
    }

-- the window of a slot
window_holds : (f : ℕ → ℕ → Bool) (s : Station) (i : ℕ) → ((k : ℕ) → f i k ≡ handed_of (window_at s i) k) → is_member s.used i ≡ true → Follows (f i) (member_at s i).up
window_holds f s i says here =
    follows (f i) (member_at s i).up
    (λ k. says k ∙ ap (λ (w : Window). handed_of w k) (cond_true (is_member s.used i) (member_at s i).up fresh_of here))

-- of all slots, those without a member too
windows_hold : (f : ℕ → ℕ → Bool) (s : Station) → ((i k : ℕ) → f i k ≡ handed_of (window_at s i) k) → MarksHold f s
windows_hold f s says i here = window_holds f s i (says i) here

-- ---- the book after the calls

module _ (M : Stays) (small : (s t k : ℕ) → M.watched s t ≡ true → length (M.text s t k) ≤ 65535) where
  pub calls_tied : (cs : List Call) (n : Net) (b : Book) → Tied (sent_now M b) n b → CallsOk M cs n b → Tied (sent_now M (book_after M cs n b)) (after cs n) (book_after M cs n b)
  unfolding CallsOk after book_after
  calls_tied [] n b t ok = t
  calls_tied (c ∷ cs) n b t ok =
      calls_tied cs (step c n) (book_call (sent_now M b) c n b).left (call_good M small c n b t ok.0).tied ok.1

-- ---- the theorem

pub marks_follow : MarksFollow
marks_follow s g store e cs =
    let n = started s g store in
    let t = started_tied (record { watched = λ x. true; text = λ x k. [] }) s g store e in
    record {
      window = λ i here. follows (in_window (after cs n).station i) (member_at (after cs n).station i).up (λ k. refl);
      landed = windows_hold (landed_in cs n (λ x k. false)) (after cs n).station
          (calls_told cs n (λ x k. false) (record { view = record { tidy = t.tie.tidy; sound = t.tie.sound }; long = t.long }) (λ x k. t.tie.numbers x k refl));
      book = λ M small ok i on here.
          window_holds (book_after M cs n empty_book).ledger.handed (after cs n).station i
          (λ k. (calls_tied M (λ s t k on. omega (arith, small s t k on)) cs n empty_book (started_tied (sent_now M empty_book) s g store e) ok).tie.numbers i k on) here;
    }
