-- The sheet of short calls: how many there are, that they rise, that none is missing or doubled and nothing else is there, and that each packs and reads
-- back to itself. Assumes nothing.
use mathlib.Core.Path.{◌≡◌, sym, ap, ◌∙◌, subst}
use mathlib.Core.List.{List, [], ◌∷◌, ◌++◌}
use mathlib.Core.Logic.{⊎_elim}
use Prim.Native.Nat.{ℕ, zero, suc, ◌+◌, ◌*◌, ◌/◌, ◌%◌, ◌≤◌, ◌<◌}
use native.Mathlib.Omega.{arith}
use lib.ListN.{length, get_or, take, drop, length-drop}
use lib.Seq.{take_at, take-append-le, drop-append-le}
use borrow.Author.Tests.{le-ltb}
use Rattle.bits.proofs.Lists.{le_or_lt}
use Rattle.wire.specs.Call.{char, packed, pack_call, pad, unpacked, unpack_call, IsCall}
use Rattle.wire.proofs.Trip.{round_trip, call_back}
use Rattle.sheet.specs.Sheet.{short_calls, sheet, written, Short, empty, one, two}
use Rattle.sheet.proofs.Rows.{length_flat, drop_flat}
use Rattle.sheet.proofs.Places.{pair_one, length_short, first_place, place, place_of, number_first, number_of}
use Rattle.sheet.proofs.Members.{value_of, short_pair, short_call, call_short}

-- ---- none is missing, and nothing else is there

pub none_missing : {l : List ℕ} → Short l → (k : ℕ) × (k < 1407) × (get_or short_calls k [] ≡ l)
none_missing empty = (0, omega arith, first_place)
none_missing (one {a = a} p) =
    let v = value_of p in (
      suc (38 * v.0 + 0),
      omega (arith, v.1),
      place v.0 0 v.1 (omega arith) ∙ ap (λ (c : ℕ). pad 7 (c ∷ char 0 ∷ [])) v.2 ∙ pair_one a,
    )
none_missing (two {a = a} {b = b} p q) =
    let v = value_of p in
    let w = value_of q in (
      suc (38 * v.0 + suc w.0),
      omega (arith, v.1, w.1),
      place v.0 (suc w.0) v.1 (omega (arith, w.1)) ∙ ap (λ (c : ℕ). pad 7 (c ∷ char (suc w.0) ∷ [])) v.2 ∙ ap (λ (c : ℕ). pad 7 (a ∷ c ∷ [])) w.2,
    )

-- the same, over the calls that the station holds: two characters and then spaces
pub no_call_missing : (a b : ℕ) → IsCall (a ∷ b ∷ pad 5 []) → (k : ℕ) × (k < 1407) × (get_or short_calls k [] ≡ a ∷ b ∷ pad 5 [])
no_call_missing a b c = none_missing (call_short a b c)

pub nothing_else : (k : ℕ) → k < 1407 → Short (get_or short_calls k [])
nothing_else zero h = subst Short (sym first_place) empty
nothing_else (suc k) h = subst Short (sym (place_of k h)) (short_pair (k / 38) (k % 38) (omega arith) (omega arith))

-- ---- they rise, so none is doubled

pub rising : (i j : ℕ) → i < j → j < 1407 → packed (get_or short_calls i []) < packed (get_or short_calls j [])
rising i zero h k = absurd (omega arith)
rising zero (suc j) h k = omega (arith, number_first, number_of j k)
rising (suc i) (suc j) h k = omega (arith, number_of i (omega arith), number_of j k)

pub none_doubled : (i j : ℕ) → i < 1407 → j < 1407 → get_or short_calls i [] ≡ get_or short_calls j [] → i ≡ j
none_doubled i j h k e =
    let p = ap packed e in
    ⊎_elim (λ q. ⊎_elim (λ r. omega arith) (λ r. absurd (omega (arith, rising i j r k))) (le_or_lt j i)) (λ q. absurd (omega (arith, rising j i q h)))
    (le_or_lt i j)

-- ---- each packs and reads back to itself, as five bytes and as a number

pub reads_back : (k : ℕ) → k < 1407 → unpack_call (pack_call (get_or short_calls k [])) ≡ get_or short_calls k []
reads_back k h = call_back (get_or short_calls k []) (short_call (nothing_else k h))

pub number_back : (k : ℕ) → k < 1407 → unpacked (packed (get_or short_calls k [])) ≡ get_or short_calls k []
number_back k h = round_trip (get_or short_calls k []) (short_call (nothing_else k h))

-- ---- how many there are, and where each stands

pub seven : (k : ℕ) → k < 1407 → length (get_or short_calls k []) ≡ 7
seven k h = (short_call (nothing_else k h)).seven

pub count : length short_calls ≡ 1407
count = length_short

pub bytes : length sheet ≡ 9849
unfolding sheet
bytes = length_flat 7 short_calls (λ k h. seven k (omega (arith, length_short))) ∙ omega (arith, length_short)

-- from the place of call k on
pub rest_of : (k : ℕ) → k < 1407 → drop (7 * k) sheet ≡ get_or short_calls k [] ++ drop (7 * suc k) sheet
unfolding sheet
rest_of k h = drop_flat 7 short_calls k (λ i p. seven i (omega (arith, length_short))) (omega (arith, length_short))

pub on_sheet : (k : ℕ) → k < 1407 → take 7 (drop (7 * k) sheet) ≡ get_or short_calls k []
on_sheet k h = ap (take 7) (rest_of k h) ∙ take_at (get_or short_calls k []) (drop (7 * suc k) sheet) 7 (seven k h)

-- an output that is not refused has call k in the seven bytes from 7 k on
pub on_output : (out : List ℕ) → 9849 ≤ length out → (k : ℕ) → k < 1407 → take 7 (drop (7 * k) (written out)) ≡ get_or short_calls k []
on_output out h k p =
    let l = bytes in
    let n = length-drop (7 * k) sheet in
    rw (le-ltb (length out) 9849 h, drop-append-le (7 * k) sheet (drop 9849 out) (omega arith), take-append-le 7 (drop (7 * k) sheet) (drop 9849 out) (omega arith)) (on_sheet k p)
