-- Bytes read and written one after the other. Assumes nothing.
use mathlib.Core.Path.{◌≡◌, refl, sym, ap, ◌∙◌}
use mathlib.Core.List.{List, [], ◌∷◌, ◌++◌}
use Prim.Native.Nat.{ℕ, zero, suc, ◌+◌, ◌-◌, ◌≤◌, ◌<◌}
use native.Mathlib.Numerals.{add-one}
use native.Mathlib.Nat.{add-zero}
use native.Mathlib.Omega.{arith}
use lib.ListN.{length, drop, get_or, set, replicate, length-set}
use lib.Seq.{drop-cons, set_at}
use Rattle.inbox.specs.Messages.{framed}
use Rattle.queue.specs.Queues.{place_of, byte_at, bytes_from, put_bytes}

pub length_bytes : (queue : List ℕ) (slot o n : ℕ) → length (bytes_from queue slot o n) ≡ n
unfolding bytes_from
length_bytes queue slot o zero = refl
length_bytes queue slot o (suc n) = ap suc (length_bytes queue slot (o + 1) n)

-- one byte more at the end
pub bytes_more : (queue : List ℕ) (slot o n : ℕ) → bytes_from queue slot o (n + 1) ≡ bytes_from queue slot o n ++ (byte_at queue slot (o + n) ∷ [])
unfolding bytes_from
bytes_more queue slot o zero = rw add-zero
bytes_more queue slot o (suc n) =
    let e : o + 1 + n ≡ o + suc n = omega arith in
    let f : suc n + 1 ≡ suc (n + 1) = omega arith in
    rw f (ap (λ (l : List ℕ). byte_at queue slot o ∷ l) (bytes_more queue slot (o + 1) n ∙ rw e))

-- behind the two bytes of the length stand the message's own
pub framed_past : (m : List ℕ) (k : ℕ) → 2 ≤ k → get_or (framed m) k 0 ≡ get_or m (k - 2) 0
framed_past m zero h = absurd (omega arith)
framed_past m (suc zero) h = absurd (omega arith)
framed_past m (suc (suc k)) h = let e : suc (suc k) - 2 ≡ k = omega arith in rw e

append_one : (p : List ℕ) (b : ℕ) (l : List ℕ) → (p ++ (b ∷ [])) ++ l ≡ p ++ b ∷ l
append_one [] b l = refl
append_one (a ∷ p) b l = ap (λ (m : List ℕ). a ∷ m) (append_one p b l)

-- zeros stand behind the first n bytes; the next takes the place of the first zero
pub bytes_next : (queue : List ℕ) (slot o n room : ℕ) → n < room
    → set (bytes_from queue slot o n ++ replicate (room - n) 0) n (byte_at queue slot (o + n)) ≡ bytes_from queue slot o (n + 1) ++ replicate (room - (n + 1)) 0
bytes_next queue slot o n room h =
    let e : room - n ≡ suc (room - (n + 1)) = omega arith in
    rw (e, bytes_more queue slot o n)
    (set_at (bytes_from queue slot o n) 0 (replicate (room - (n + 1)) 0) (byte_at queue slot (o + n)) n (length_bytes queue slot o n)
    ∙ sym (append_one (bytes_from queue slot o n) (byte_at queue slot (o + n)) (replicate (room - (n + 1)) 0)))

pub length_put : (queue : List ℕ) (slot o : ℕ) (bs : List ℕ) → length (put_bytes queue slot o bs) ≡ length queue
unfolding put_bytes
length_put queue slot o [] = refl
length_put queue slot o (b ∷ bs) = length_put (set queue (place_of slot o) b) slot (o + 1) bs ∙ length-set queue (place_of slot o) b

-- nothing more to write
pub put_none : (queue : List ℕ) (slot o : ℕ) → put_bytes queue slot o [] ≡ queue
unfolding put_bytes
put_none queue slot o = refl

-- a byte is written, and the rest is still to be
pub put_turn : (queue : List ℕ) (slot o k : ℕ) (bs : List ℕ) → k < length bs
    → put_bytes (set queue (place_of slot (o + k)) (get_or bs k 0)) slot (o + (k + 1)) (drop (k + 1) bs) ≡ put_bytes queue slot (o + k) (drop k bs)
unfolding put_bytes
put_turn queue slot o k bs h =
    let e : o + (k + 1) ≡ o + k + 1 = omega arith in
    let f : k + 1 ≡ suc k = add-one k in
    sym (rw (drop-cons bs k 0 h, ← f, e))
