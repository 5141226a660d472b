-- How bytes and lines join: some, none, some behind others.
use Rattle.std.proofs.Common.{◌≡◌, ℕ, suc, ◌+◌, ◌<◌, ◌≤◌, Bool, true, false, cond, List, [], ◌∷◌, ◌++◌, length, get_or, drop, sym, refl, ap, ◌∙◌, add-one, drop_of_length-le, drop-cons, append-nil}
use Rattle.text.specs.Digits.{digits_of}
use Rattle.out.specs.Encode.{after, Wrote}
use Rattle.out.proofs.Laws.{then}
use Rattle.driver.specs.declared.page.Page.{Page}
use Rattle.driver.specs.Lines.{word_line, word_lines, byte_pairs, begun, written, line_on, lines_on}

-- what a writer of `text` left of the page
pub wrote_on : (p : Page) {bs u : List ℕ} {e : ℕ} → Wrote p.text.bytes p.text.end bs u e → record p { text = record { bytes = u; end = e } } ≡ written p bs
unfolding written
wrote_on p w = rw (w.out, w.end)

pub written_then : (p : Page) (xs ys : List ℕ) → written (written p xs) ys ≡ written p (xs ++ ys)
unfolding written
written_then p xs ys =
    let first : Wrote p.text.bytes p.text.end xs (written p xs).text.bytes (written p xs).text.end = record { out = refl; end = refl } in
    let second : Wrote (written p xs).text.bytes (written p xs).text.end ys (written (written p xs) ys).text.bytes (written (written p xs) ys).text.end = record { out = refl; end = refl } in
    wrote_on p (then first second)

pub written_four : (p : Page) (a b c d : List ℕ) → written (written (written (written p a) b) c) d ≡ written p (a ++ b ++ c ++ d)
written_four p a b c d =
    ap (λ (q : Page). written (written q c) d) (written_then p a b)
    ∙ ap (λ (q : Page). written q d) (written_then p (a ++ b) c)
    ∙ written_then p (a ++ b ++ c) d

written_none : (p : Page) → written p [] ≡ p
unfolding written after
written_none p = refl

lines_then : (p : Page) (xs ys : List (List ℕ)) → lines_on p (xs ++ ys) ≡ lines_on (lines_on p xs) ys
unfolding lines_on
lines_then p [] ys = refl
lines_then p (x ∷ xs) ys = lines_then (line_on p x) xs ys

-- a line
pub one_line : (p : Page) (bs : List ℕ) → lines_on p (bs ∷ []) ≡ written (begun p) bs
unfolding lines_on
one_line p bs = refl

-- a reception's lines, with the mask and without
pub masked : (p : Page) (ws : List (List ℕ)) (a b : List ℕ) {q r s : Page} {d : Bool} → d ≡ true → q ≡ lines_on p ws → r ≡ lines_on q (a ∷ []) → s ≡ lines_on r (b ∷ []) → s ≡ lines_on p (ws ++ cond d (a ∷ b ∷ []) [])
unfolding lines_on
masked p ws a b t e f g = g ∙ ap (λ (k : Page). line_on k b) (f ∙ ap (λ (k : Page). line_on k a) e) ∙ sym (lines_then p ws (a ∷ b ∷ [])) ∙ ap (λ (c : Bool). lines_on p (ws ++ cond c (a ∷ b ∷ []) [])) (sym t)

pub plain : (p : Page) (ws : List (List ℕ)) (a b : List ℕ) {q : Page} {d : Bool} → d ≡ false → q ≡ lines_on p ws → q ≡ lines_on p (ws ++ cond d (a ∷ b ∷ []) [])
plain p ws a b t e = e ∙ ap (λ (l : List (List ℕ)). lines_on p l) (sym (append-nil ws)) ∙ ap (λ (c : Bool). lines_on p (ws ++ cond c (a ∷ b ∷ []) [])) (sym t)

-- the lines of the words from i on: one, and those from the next on
pub lines_turn : (p : Page) (ws : List ℕ) (i : ℕ) → i < length ws → lines_on p (word_lines (drop i ws)) ≡ lines_on (lines_on p (word_line (get_or ws i 0) ∷ [])) (word_lines (drop (i + 1) ws))
unfolding word_lines lines_on
lines_turn p ws i h = rw (add-one, drop-cons ws i 0 h)

pub lines_end : (p : Page) (ws : List ℕ) (i : ℕ) → length ws ≤ i → lines_on p (word_lines (drop i ws)) ≡ p
unfolding word_lines lines_on
lines_end p ws i h = rw (drop_of_length-le ws h)

-- the digits of the bytes from i on
pub pairs_turn : (p : Page) (m : List ℕ) (i : ℕ) → i < length m → written p (byte_pairs (drop i m)) ≡ written (written p (digits_of false (get_or m i 0) 2)) (byte_pairs (drop (i + 1) m))
unfolding byte_pairs
pairs_turn p m i h = rw (add-one, drop-cons m i 0 h) (sym (written_then p (digits_of false (get_or m i 0) 2) (byte_pairs (drop (suc i) m))))

pub pairs_end : (p : Page) (m : List ℕ) (i : ℕ) → length m ≤ i → written p (byte_pairs (drop i m)) ≡ p
unfolding byte_pairs
pairs_end p m i h = rw (drop_of_length-le m h) (written_none p)
