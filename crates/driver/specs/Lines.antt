-- What the programs print: the bytes of each line, and where lines stand in the text that is gathered.
use Rattle.std.specs.Prelude.{ℕ, ◌/◌, ◌%◌, Bool, false, cond, List, [], ◌∷◌, ◌++◌, length, take, nat_lt, Result, Ok, Err}
use Rattle.std.proofs.lemmas.List.Edits.{sets}
use Rattle.out.specs.Encode.{after}
use Rattle.text.specs.Digits.{digits_of}
use Rattle.refusal.specs.declared.Refusal.{Refusal}
use Rattle.refusal.specs.Numbers.{number_of}
use Rattle.driver.specs.declared.page.Page.{Page}

-- ---- lines, each with its end

-- a word as eight digits
abbrev pub word_line : ℕ → List ℕ
word_line w = digits_of false w 8 ++ (10 ∷ [])

unfoldable pub word_lines : List ℕ → List (List ℕ)
word_lines [] = []
word_lines (w ∷ ws) = word_line w ∷ word_lines ws

-- `M ` and half a mask
abbrev pub mask_line : ℕ → List ℕ
mask_line w = (77 ∷ []) ++ (32 ∷ []) ++ digits_of false w 8 ++ (10 ∷ [])

-- two digits a byte
unfoldable pub byte_pairs : List ℕ → List ℕ
byte_pairs [] = []
byte_pairs (b ∷ bs) = digits_of false b 2 ++ byte_pairs bs

-- `R ` and a message
abbrev pub message_line : List ℕ → List ℕ
message_line m = (82 ∷ []) ++ (32 ∷ []) ++ byte_pairs m ++ (10 ∷ [])

-- a refusal, or the words of a call
abbrev pub answer_lines : List ℕ → Result ℕ Refusal → List (List ℕ)
answer_lines out (Ok n) = word_lines (take n out)
answer_lines out (Err r) = word_line (number_of r) ∷ []

-- the words of a reception, and in `drive` its mask, high half first
abbrev pub heard_lines : Bool → List ℕ → ℕ → ℕ → List (List ℕ)
heard_lines drive out n mask =
    word_lines (take n out) ++ cond drive (mask_line (mask / 4294967296) ∷ mask_line (mask % 4294967296) ∷ []) []

-- a reception's answer
abbrev pub heard_by : Bool → List ℕ → ℕ → Result ℕ Refusal → List (List ℕ)
heard_by drive out mask (Ok n) = heard_lines drive out n mask
heard_by drive out mask (Err r) = word_line (number_of r) ∷ []

-- ---- the text that is gathered

-- where a line begins: where less than 8,192 bytes are left, what is gathered is written first
abbrev pub line_from : ℕ → ℕ
line_from n = cond (nat_lt n 57344) n 0

unfoldable pub begun : Page → Page
begun p = record p { text = record p.text { end = line_from p.text.end } }

-- bytes behind what is gathered, as far as they fit
unfoldable pub written : Page → List ℕ → Page
written p bs = record p { text = record { bytes = sets p.text.bytes p.text.end bs; end = after (length p.text.bytes) p.text.end (length bs) } }

abbrev pub line_on : Page → List ℕ → Page
line_on p bs = written (begun p) bs

unfoldable pub lines_on : Page → List (List ℕ) → Page
lines_on p [] = p
lines_on p (l ∷ ls) = lines_on (line_on p l) ls
