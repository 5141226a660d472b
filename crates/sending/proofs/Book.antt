-- Item 3's book, frame by frame: what is covered stays covered, a piece that is not marked covers its bytes, and a message not handed over before is among those
-- handed over. Assumes nothing.
use mathlib.Core.Path.{◌≡◌, refl, sym, subst}
use mathlib.Core.Logic.{◌⊎◌, inl, inr, ⊎_elim}
use Prim.Native.Nat.{ℕ, zero, suc, ◌+◌, ◌%◌, ◌≤◌, ◌<◌}
use native.Mathlib.Omega.{arith}
use mathlib.Core.Bool.{Bool, true, false, not, cond, ◌&&◌}
use mathlib.Core.List.{List, [], ◌∷◌, ◌++◌}
use lib.ListN.{length, get_or}
use Rattle.bits.specs.Mask.{has_bit}
use Rattle.bits.proofs.Lists.{cond_keeps}
use Rattle.words.specs.Words.{Heard, lost, heard}
use Rattle.promise.specs.Promise.{Sent, Message, Ledger, Entered, same, inside, cover, also_handed, completes, book_piece, is_watched, book_frame, book_frames}
use Rattle.promise.proofs.Ledgers.{same_true, same_self, inside_of}
use Rattle.sending.specs.Sending.{Among}

-- ---- what is covered

cover_more : (s k o n : ℕ) (f : ℕ → ℕ → ℕ → Bool) (a b i : ℕ) → f a b i ≡ true → cover s k o n f a b i ≡ true
unfolding cover
cover_more s k o n f a b i h = cond_keeps (λ (t : Bool). t ≡ true) (same s k a b && inside o n i) true (f a b i) (λ _. refl) (λ _. h)

cover_own : (s k o n : ℕ) (f : ℕ → ℕ → ℕ → Bool) (i : ℕ) → o ≤ i → i < o + n → cover s k o n f s k i ≡ true
unfolding cover
cover_own s k o n f i a b = rw (same_self s k, inside_of o n i a b)

abbrev Covers : ℕ → ℕ → ℕ → Ledger → Type 0
Covers s k i l = l.covered s k i ≡ true

piece_covers : (M : Sent) (s k o n : ℕ) (l : Ledger) (a b i : ℕ) → cover s k o n l.covered a b i ≡ true → Covers a b i (book_piece M s k o n l).left
piece_covers M s k o n l a b i h =
    cond_keeps (λ (e : Entered Ledger). Covers a b i e.left) (completes M s k l (cover s k o n l.covered)) _ _ (λ _. h) (λ _. h)

frame_more : (M : Sent) (f : Heard) (k seen : ℕ) (marked : Bool) (l : Ledger) (a b i : ℕ) → Covers a b i l → Covers a b i (book_frame M f k seen marked l).left
unfolding book_frame
frame_more M lost k seen marked l a b i h = h
frame_more M (heard flags field p) k seen marked l a b i h =
    cond_keeps (λ (e : Entered Ledger). Covers a b i e.left) (is_watched M.watched flags seen && not marked) _ _
    (λ _. piece_covers M (flags % 64) k (field % 65536) (length p) l a b i (cover_more (flags % 64) k (field % 65536) (length p) l.covered a b i h)) (λ _. h)

pub frames_more : (M : Sent) (fs : List Heard) (i : ℕ) (numbers seen : List ℕ) (mask : ℕ) (l : Ledger) (a b x : ℕ)
    → Covers a b x l → Covers a b x (book_frames M fs i numbers seen mask l).left
unfolding book_frames
frames_more M [] i numbers seen mask l a b x h = h
frames_more M (f ∷ fs) i numbers seen mask l a b x h =
    frames_more M fs (i + 1) numbers seen mask _ a b x (frame_more M f (get_or numbers i 0) (get_or seen i 0) (has_bit mask i) l a b x h)

-- frame k of them is a watched boat's piece, and not marked
frame_covers : (M : Sent) (flags field : ℕ) (p : List ℕ) (k seen : ℕ) (marked : Bool) (l : Ledger) → is_watched M.watched flags seen ≡ true → marked ≡ false
    → (x : ℕ) → field % 65536 ≤ x → x < field % 65536 + length p → Covers (flags % 64) k x (book_frame M (heard flags field p) k seen marked l).left
unfolding book_frame
frame_covers M flags field p k seen marked l here off x u v =
    rw (here, off)
    (piece_covers M (flags % 64) k (field % 65536) (length p) l (flags % 64) k x (cover_own (flags % 64) k (field % 65536) (length p) l.covered x u v))

pub frames_cover : (M : Sent) (fs : List Heard) (i k : ℕ) (numbers seen : List ℕ) (mask : ℕ) (l : Ledger) (flags field : ℕ) (p : List ℕ)
    → get_or fs k lost ≡ heard flags field p → is_watched M.watched flags (get_or seen (i + k) 0) ≡ true → has_bit mask (i + k) ≡ false
    → (x : ℕ) → field % 65536 ≤ x → x < field % 65536 + length p → Covers (flags % 64) (get_or numbers (i + k) 0) x (book_frames M fs i numbers seen mask l).left
unfolding book_frames
frames_cover M [] i k numbers seen mask l flags field p e here off x u v = absurd (let z : ◌≡◌ {A = ℕ} 0 1 = cc in omega arith)
frames_cover M (f ∷ fs) i zero numbers seen mask l flags field p e here off x u v =
    let z : i + 0 ≡ i = omega arith in
    frames_more M fs (i + 1) numbers seen mask _ (flags % 64) (get_or numbers (i + 0) 0) x
    (subst (λ (g : Heard). Covers (flags % 64) (get_or numbers (i + 0) 0) x (book_frame M g (get_or numbers i 0) (get_or seen i 0) (has_bit mask i) l).left) (sym e)
    (subst (λ (j : ℕ). Covers (flags % 64) (get_or numbers (i + 0) 0) x (book_frame M (heard flags field p) (get_or numbers j 0) (get_or seen j 0) (has_bit mask j) l).left) z
    (frame_covers M flags field p (get_or numbers (i + 0) 0) (get_or seen (i + 0) 0) (has_bit mask (i + 0)) l here off x u v)))
frames_cover M (f ∷ fs) i (suc k) numbers seen mask l flags field p e here off x u v =
    let z : i + 1 + k ≡ i + suc k = omega arith in
    subst (λ (j : ℕ). Covers (flags % 64) (get_or numbers j 0) x (book_frames M fs (i + 1) numbers seen mask (book_frame M f (get_or numbers i 0) (get_or seen i 0) (has_bit mask i) l).left).left) z
    (frames_cover M fs (i + 1) k numbers seen mask _ flags field p e
    (subst (λ (j : ℕ). is_watched M.watched flags (get_or seen j 0) ≡ true) (sym z) here) (subst (λ (j : ℕ). has_bit mask j ≡ false) (sym z) off) x u v)

-- ---- what is handed over

abbrev New : ℕ → ℕ → Ledger → Entered Ledger → Type 0
New s k l e = e.left.handed s k ≡ true → (l.handed s k ≡ true) ⊎ Among (record { slot = s; number = k }) e.out

also_new : (s k a b : ℕ) (f : ℕ → ℕ → Bool) → also_handed s k f a b ≡ true → (f a b ≡ true) ⊎ ((s ≡ a) × (k ≡ b))
unfolding also_handed
also_new s k a b f = at (same s k a b) refl
  where
    at : (t : Bool) → same s k a b ≡ t → cond t true (f a b) ≡ true → (f a b ≡ true) ⊎ ((s ≡ a) × (k ≡ b))
    at true q h = inr (same_true s k a b q)
    at false q h = inl h

message_is : (s k a b : ℕ) → s ≡ a → k ≡ b → ◌≡◌ {A = Message} (record { slot = a; number = b }) (record { slot = s; number = k })
message_is s k a b p q = cc

piece_new : (M : Sent) (s k o n : ℕ) (l : Ledger) (a b : ℕ) → New a b l (book_piece M s k o n l)
piece_new M s k o n l a b =
    cond_keeps (New a b l) (completes M s k l (cover s k o n l.covered)) _ _
    (λ _ h. ⊎_elim (λ x. inl x) (λ x. inr (inl (message_is s k a b x.0 x.1))) (also_new s k a b l.handed h)) (λ _ h. inl h)

frame_new : (M : Sent) (f : Heard) (k seen : ℕ) (marked : Bool) (l : Ledger) (a b : ℕ) → New a b l (book_frame M f k seen marked l)
unfolding book_frame
frame_new M lost k seen marked l a b = λ h. inl h
frame_new M (heard flags field p) k seen marked l a b =
    cond_keeps (New a b l) (is_watched M.watched flags seen && not marked) _ _ (λ _. piece_new M (flags % 64) k (field % 65536) (length p) l a b) (λ _ h. inl h)

pub among_front : {A : Type 0} (x : A) (l r : List A) → Among x l → Among x (l ++ r)
among_front x [] r h = absurd h
among_front x (y ∷ l) r (inl e) = inl e
among_front x (y ∷ l) r (inr h) = inr (among_front x l r h)

pub among_back : {A : Type 0} (x : A) (l r : List A) → Among x r → Among x (l ++ r)
among_back x [] r h = h
among_back x (y ∷ l) r h = inr (among_back x l r h)

pub among_split : {A : Type 0} (x : A) (l r : List A) → Among x (l ++ r) → Among x l ⊎ Among x r
among_split x [] r h = inr h
among_split x (y ∷ l) r (inl e) = inl (inl e)
among_split x (y ∷ l) r (inr h) = ⊎_elim (λ a. inl (inr a)) (λ a. inr a) (among_split x l r h)

pub frames_new : (M : Sent) (fs : List Heard) (i : ℕ) (numbers seen : List ℕ) (mask : ℕ) (l : Ledger) (a b : ℕ) → New a b l (book_frames M fs i numbers seen mask l)
unfolding book_frames
frames_new M [] i numbers seen mask l a b h = inl h
frames_new M (f ∷ fs) i numbers seen mask l a b h =
    let e = book_frame M f (get_or numbers i 0) (get_or seen i 0) (has_bit mask i) l in
    let r = book_frames M fs (i + 1) numbers seen mask e.left in
    ⊎_elim (λ x. ⊎_elim (λ y. inl y) (λ y. inr (among_front (record { slot = a; number = b }) e.out r.out y)) (frame_new M f (get_or numbers i 0) (get_or seen i 0) (has_bit mask i) l a b x))
    (λ x. inr (among_back (record { slot = a; number = b }) e.out r.out x)) (frames_new M fs (i + 1) numbers seen mask e.left a b h)
