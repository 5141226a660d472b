-- A call comes back from its number and from its five bytes, and whatever is read is a call. Assumes nothing.
use mathlib.Core.Path.{◌≡◌, refl, sym, ap, ◌∙◌, subst}
use mathlib.Core.Bool.{Bool, true, false, cond, ◌&&◌}
use mathlib.Core.List.{List, [], ◌∷◌, ◌++◌}
use Prim.Native.Nat.{ℕ, zero, suc, ◌+◌, ◌-◌, ◌*◌, ◌/◌, ◌%◌, ◌≤◌, ◌<◌, ◌^◌}
use native.Mathlib.Nat.{zero-add, mul_assoc, mul-one, pow-suc, pow-succ', div-lt_iff_lt-mul, zero-lt-suc, mod-lt}
use native.Mathlib.Omega.{arith}
use lib.Dec.{T, eqb, ltb, leb, eqb→eq, ltb→lt}
use lib.ListN.{length, get_or}
use lib.Ieee.Fits.{and_l, and_r}
use borrow.Author.Tests.{leb-true}
use Rattle.bits.proofs.Lists.{and_true}
use Rattle.wire.specs.Call.{between, digit, char, number, packed, pack_call, bytes_of, number_of, key_of, chars, trim_start, pad, held, unpacked, unpack_call, AllChars, IsCall}
use Rattle.wire.proofs.Packed.{pad_end, pad_full, trim_short, length_chars}
use Rattle.wire.proofs.Table.{all, all_at}

-- ---- values and characters

either : (b : Bool) (x y : ℕ) → (b ≡ true → x < 38) → y < 38 → cond b x y < 38
either true x y f g = f refl
either false x y f g = g

top : (lo hi c : ℕ) → between lo hi c ≡ true → c ≤ hi
top lo hi c e = leb-true c hi (and_true (leb lo c) (leb c hi) e).1

pub digit_lt : (c : ℕ) → digit c < 38
unfolding digit
digit_lt c =
    either (between 48 57 c) (c - 47) (cond (between 65 90 c) (c - 54) (cond (between 97 122 c) (c - 86) (cond (eqb c 47) 37 0))) (λ e. let h = top 48 57 c e in omega arith)
    (either (between 65 90 c) (c - 54) (cond (between 97 122 c) (c - 86) (cond (eqb c 47) 37 0)) (λ e. let h = top 65 90 c e in omega arith)
    (either (between 97 122 c) (c - 86) (cond (eqb c 47) 37 0) (λ e. let h = top 97 122 c e in omega arith) (either (eqb c 47) 37 0 (λ e. omega arith) (omega arith))))

right : ℕ → Bool
right d = eqb (digit (char d)) d && ltb (char d) 256

right_38 : T (all right 38)
unfolding right digit char
right_38 = tt

pub digit_char : (d : ℕ) → d < 38 → digit (char d) ≡ d
unfolding right
digit_char d h = eqb→eq (digit (char d)) d (and_l (eqb (digit (char d)) d) (ltb (char d) 256) (all_at right 38 right_38 d h))

pub char_byte : (d : ℕ) → d < 38 → char d < 256
unfolding right
char_byte d h = ltb→lt (char d) 256 (and_r (eqb (digit (char d)) d) (ltb (char d) 256) (all_at right 38 right_38 d h))

-- ---- a packed call is below 38 ^ 7

number_lt : (l : List ℕ) (v k : ℕ) → v < k → number l v < k * 38 ^ length l
number_lt [] v k h = subst (λ (x : ℕ). v < x) (sym (mul-one k)) h
number_lt (c ∷ l) v k h =
    subst (λ (x : ℕ). number l (v * 38 + digit c) < x) (mul_assoc k 38 (38 ^ length l) ∙ ap (λ (x : ℕ). k * x) (sym (pow-succ' 38 (length l))))
    (number_lt l (v * 38 + digit c) (k * 38) (omega (arith, digit_lt c)))

pub packed_lt : (l : List ℕ) → length l ≡ 7 → packed l < 38 ^ 7
packed_lt l h = let p = number_lt l 0 1 (omega arith) in subst (λ (n : ℕ). packed l < 38 ^ n) h (omega arith)

-- ---- bytes

pub bytes_back : (n v : ℕ) → v < 256 ^ n → number_of (bytes_of n v) ≡ v
bytes_back zero v h = omega arith
bytes_back (suc n) v h =
    let q : v / 256 < 256 ^ n = (div-lt_iff_lt-mul (zero-lt-suc 255)).1 (subst (λ (x : ℕ). v < x) (pow-suc 256 n) h) in
    omega (arith, bytes_back n (v / 256) q)

pub bytes_of_length : (n v : ℕ) → length (bytes_of n v) ≡ n
bytes_of_length zero v = refl
bytes_of_length (suc n) v = ap suc (bytes_of_length n (v / 256))

pub bytes_of_byte : (n v i : ℕ) → get_or (bytes_of n v) i 0 < 256
bytes_of_byte zero v i = omega arith
bytes_of_byte (suc n) v zero = omega arith
bytes_of_byte (suc n) v (suc i) = bytes_of_byte n (v / 256) i

-- the numbers of two lists of bytes, equally long, are equal exactly where the lists are
pub key_same : (a b : List ℕ) → length a ≡ length b → ((i : ℕ) → get_or a i 0 < 256) → ((i : ℕ) → get_or b i 0 < 256) → key_of a ≡ key_of b → a ≡ b
key_same [] [] h p q e = refl
key_same [] (y ∷ b) h p q e = absurd (omega arith)
key_same (x ∷ a) [] h p q e = absurd (omega arith)
key_same (x ∷ a) (y ∷ b) h p q e =
    let first : x ≡ y = omega (arith, p 0, q 0) in
    let rest : key_of a ≡ key_of b = omega (arith, p 0, q 0) in
    ap (λ (z : ℕ). z ∷ a) first ∙ ap (λ (l : List ℕ). y ∷ l) (key_same a b (omega arith) (λ i. p (suc i)) (λ i. q (suc i)) rest)

-- ---- a call comes back

digits_off : (l : List ℕ) → AllChars l → (v n : ℕ) (acc : List ℕ) → chars (length l + n) (number l v) acc ≡ chars n v (l ++ acc)
digits_off [] a v n acc = rw zero-add
digits_off (c ∷ l) a v n acc =
    let e : suc (length l) + n ≡ length l + suc n = omega arith in
    let q : (v * 38 + digit c) / 38 ≡ v = omega (arith, digit_lt c) in
    let r : (v * 38 + digit c) % 38 ≡ digit c = omega (arith, digit_lt c) in
    rw e (digits_off l a.1 (v * 38 + digit c) (suc n) acc ∙ rw (q, r, a.0))

append_none : (l : List ℕ) → l ++ [] ≡ l
append_none [] = refl
append_none (c ∷ l) = ap (λ (m : List ℕ). c ∷ m) (append_none l)

chars_back : (l : List ℕ) → AllChars l → length l ≡ 7 → chars 7 (packed l) [] ≡ l
chars_back l a h =
    let e : length l + 0 ≡ 7 = omega arith in
    ap (λ (n : ℕ). chars n (packed l) []) (sym e) ∙ digits_off l a 0 0 [] ∙ append_none l

pub round_trip : (l : List ℕ) → IsCall l → unpacked (packed l) ≡ l
unfolding unpacked
round_trip l c = ap held (chars_back l c.chars c.seven) ∙ c.trimmed

-- on the air: five bytes
pub call_back : (l : List ℕ) → IsCall l → unpack_call (pack_call l) ≡ l
call_back l c = ap unpacked (bytes_back 5 (packed l) (let h = packed_lt l c.seven in omega arith)) ∙ round_trip l c

-- ---- what is read is a call

-- empty, or no space first
abbrev Starts : List ℕ → Type 0
Starts [] = Unit {0}
Starts (c ∷ l) = eqb c 32 ≡ false

starts : (l : List ℕ) → Starts (trim_start l)
unfolding trim_start
starts [] = tt
starts (c ∷ l) = by (eqb c 32) refl (starts l)
  where
    by : (b : Bool) → eqb c 32 ≡ b → Starts (trim_start l) → Starts (cond b (trim_start l) (c ∷ l))
    by true e s = s
    by false e s = e

blank : (n : ℕ) → trim_start (pad n []) ≡ []
unfolding trim_start
blank zero = refl
blank (suc n) = blank n

pad_length : (n : ℕ) (l : List ℕ) → length l ≤ n → length (pad n l) ≡ n
pad_length zero [] h = refl
pad_length zero (c ∷ l) h = absurd (omega arith)
pad_length (suc n) [] h = ap suc (pad_length n [] (omega arith))
pad_length (suc n) (c ∷ l) h = ap suc (pad_length n l (omega arith))

trim_pad : (n : ℕ) (l : List ℕ) → length l ≤ n → Starts l → pad n (trim_start (pad n l)) ≡ pad n l
unfolding trim_start
trim_pad n [] h s = ap (pad n) (blank n)
trim_pad zero (c ∷ l) h s = absurd (omega arith)
trim_pad (suc n) (c ∷ l) h s = rw s (ap (λ (m : List ℕ). c ∷ m) (pad_full n (pad n l) (pad_length n l (omega arith))))

chars_all : (n v : ℕ) (l : List ℕ) → AllChars l → AllChars (chars n v l)
chars_all zero v l a = a
chars_all (suc n) v l a = chars_all n (v / 38) (char (v % 38) ∷ l) (ap char (digit_char (v % 38) (mod-lt v (zero-lt-suc 37))), a)

trim_all : (l : List ℕ) → AllChars l → AllChars (trim_start l)
unfolding trim_start
trim_all [] a = tt
trim_all (c ∷ l) a = by (eqb c 32) (trim_all l a.1)
  where
    by : (b : Bool) → AllChars (trim_start l) → AllChars (cond b (trim_start l) (c ∷ l))
    by true t = t
    by false t = a

space : char (digit 32) ≡ 32
unfolding char digit
space = refl

pad_all : (n : ℕ) (l : List ℕ) → AllChars l → AllChars (pad n l)
pad_all zero l a = a
pad_all (suc n) [] a = (space, pad_all n [] a)
pad_all (suc n) (c ∷ l) a = (a.0, pad_all n l a.1)

module _ (v : ℕ) where
  short : length (trim_start (chars 7 v [])) ≤ 7
  short = omega (arith, trim_short (chars 7 v []), length_chars 7 v [])

  unpacked_is : unpacked v ≡ pad 7 (trim_start (chars 7 v []))
  unfolding unpacked
  unpacked_is = pad_end 7 (trim_start (chars 7 v [])) short

  pub unpacked_call : IsCall (unpacked v)
  unpacked_call =
      let t = trim_start (chars 7 v []) in
      subst IsCall (sym unpacked_is)
      (record {
        seven = pad_length 7 t short;
        chars = pad_all 7 t (trim_all (chars 7 v []) (chars_all 7 v [] tt));
        trimmed = pad_end 7 (trim_start (pad 7 t)) (omega (arith, trim_short (pad 7 t), pad_length 7 t short)) ∙ trim_pad 7 t short (starts (chars 7 v []));
      })

all_byte : (l : List ℕ) → AllChars l → (i : ℕ) → get_or l i 0 < 256
all_byte [] a i = omega arith
all_byte (c ∷ l) a zero = subst (λ (x : ℕ). x < 256) a.0 (char_byte (digit c) (digit_lt c))
all_byte (c ∷ l) a (suc i) = all_byte l a.1 i

pub call_byte : (l : List ℕ) → IsCall l → (i : ℕ) → get_or l i 0 < 256
call_byte l c i = all_byte l c.chars i
