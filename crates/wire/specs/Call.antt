-- `pack_call` and `unpack_call` of wire.rs; document 01, 'Call': seven of 38 characters, as a number in base 38. Definitions only.
use Rattle.std.specs.Prelude.{◌≡◌, Bool, cond, ◌&&◌, List, [], ◌∷◌, ◌++◌, ℕ, zero, suc, ◌+◌, ◌-◌, ◌*◌, ◌/◌, ◌%◌, eqb, leb, length}

-- lo to hi, both among them
abbrev pub between : ℕ → ℕ → ℕ → Bool
between lo hi c = leb lo c && leb c hi

-- space is 0, 0-9 are 1 to 10, A-Z and a-z 11 to 36, / 37; any other byte counts as a space
unfoldable pub digit : ℕ → ℕ
digit c =
    cond (between 48 57 c) (c - 47)
    (cond (between 65 90 c) (c - 54)
    (cond (between 97 122 c) (c - 86) (cond (eqb c 47) 37 0)))

-- the character of a value below 38
unfoldable pub char : ℕ → ℕ
char d = cond (eqb d 0) 32 (cond (leb d 10) (d + 47) (cond (leb d 36) (d + 54) 47))

-- the number of a call, its first character highest
abbrev pub number : List ℕ → ℕ → ℕ
number [] v = v
number (c ∷ l) v = number l (v * 38 + digit c)

abbrev pub packed : List ℕ → ℕ
packed l = number l 0

-- n bytes of a number, the lowest first, and back
abbrev pub bytes_of : ℕ → ℕ → List ℕ
bytes_of zero v = []
bytes_of (suc n) v = (v % 256) ∷ bytes_of n (v / 256)

abbrev pub number_of : List ℕ → ℕ
number_of [] = 0
number_of (b ∷ l) = b + 256 * number_of l

abbrev pub pack_call : List ℕ → List ℕ
pack_call l = bytes_of 5 (packed l)

-- the n lowest base-38 digits as characters, the highest first
abbrev pub chars : ℕ → ℕ → List ℕ → List ℕ
chars zero v l = l
chars (suc n) v l = chars n (v / 38) (char (v % 38) ∷ l)

-- without the spaces at its start
unfoldable pub trim_start : List ℕ → List ℕ
trim_start [] = []
trim_start (c ∷ l) = cond (eqb c 32) (trim_start l) (c ∷ l)

-- c before l, unless it is a space and nothing follows
abbrev pub keep : ℕ → List ℕ → List ℕ
keep c [] = cond (eqb c 32) [] (c ∷ [])
keep c (x ∷ l) = c ∷ x ∷ l

-- without the spaces at its end
unfoldable pub trim_end : List ℕ → List ℕ
trim_end [] = []
trim_end (c ∷ l) = keep c (trim_end l)

-- padded right with spaces to n
abbrev pub pad : ℕ → List ℕ → List ℕ
pad zero l = l
pad (suc n) [] = 32 ∷ pad n []
pad (suc n) (c ∷ l) = c ∷ pad n l

-- trimmed at both ends, and padded right to seven: as a call is held
abbrev pub held : List ℕ → List ℕ
held l = pad 7 (trim_end (trim_start l))

-- a number read: seven characters, so what is above 38 ^ 7 is dropped
unfoldable pub unpacked : ℕ → List ℕ
unpacked v = held (chars 7 v [])

abbrev pub unpack_call : List ℕ → List ℕ
unpack_call b = unpacked (number_of b)

-- one place to the left, where the first is a space: seven times this is to trim at the start and to pad
unfoldable pub shifted : List ℕ → List ℕ
shifted [] = []
shifted (c ∷ l) = cond (eqb c 32) (l ++ (32 ∷ [])) (c ∷ l)

-- the seven bytes of a call as one number
abbrev pub key_of : List ℕ → ℕ
key_of l = number_of l

-- each of the list is one of the 38 characters
abbrev pub AllChars : List ℕ → Type 0
AllChars [] = Unit {0}
AllChars (c ∷ l) = (char (digit c) ≡ c) × AllChars l

-- a call as the station holds it
pub record IsCall (l : List ℕ) : Type 0 where
  pub seven : length l ≡ 7
  pub chars : AllChars l
  pub trimmed : held l ≡ l
