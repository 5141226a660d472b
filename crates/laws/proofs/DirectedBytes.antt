-- The directed queue of a boat, its numbers and its bytes: what was posted and is kept stands in the lent queue, and stays there through reports, sendings and
-- postings, this boat's and others'. Assumes nothing.
use mathlib.Core.Path.{◌≡◌, refl, sym, ap, ◌∙◌, subst}
use mathlib.Core.Logic.{⊎_elim}
use Prim.Native.Nat.{ℕ, zero, suc, ◌+◌, ◌-◌, ◌*◌, ◌/◌, ◌%◌, ◌≤◌, ◌<◌}
use native.Mathlib.Omega.{arith}
use mathlib.Core.Bool.{Bool, true, false, cond}
use mathlib.Core.List.{List, [], ◌∷◌, ◌++◌}
use lib.Dec.{ltb}
use lib.ListN.{length, get_or, set, length-append, length-set, get_or-append}
use lib.Seq.{get_or-set_same, get_or-set_other, get_or-append-add}
use borrow.Author.Tests.{ltb-true, ltb-false}
use Rattle.bits.proofs.Lists.{lt_or_le, eq_or_not}
use Rattle.words.specs.Fine.{Bytes}
use Rattle.inbox.specs.Messages.{framed}
use Rattle.queue.specs.declared.Queue.{Queue}
use Rattle.queue.specs.Queues.{least_of, most_of, empty_queue, space_refusal, sent_in, reported_to, posted_to, place_of, put_bytes}

-- p bytes were posted, `last` as the host counts them, from k on they are kept, and r were reported, t as the boat told
pub record Numbers (p k r last t : ℕ) : Type 0 where
  pub total : p ≡ last
  pub space : p ≤ k + 2048
  pub kept : k ≤ p
  pub told : k ≤ r
  pub most : r ≡ t
  pub few : p ≤ 16777215

-- the numbers q of the boat in `slot`, to which the bytes bs were posted in all and which told of t: those from the first kept on stand in the queue
pub record Holds (queue : List ℕ) (slot : ℕ) (q : Queue) (bs : List ℕ) (t : ℕ) : Type 0 where
  pub numbers : Numbers q.posted q.kept q.reported (length bs) t
  pub fine : Bytes bs
  pub bytes : (o : ℕ) → q.kept ≤ o → o < length bs → get_or queue (place_of slot o) 0 ≡ get_or bs o 0

pub holds_none : (queue : List ℕ) (slot : ℕ) → Holds queue slot empty_queue [] 0
holds_none queue slot =
    record { numbers = omega arith; fine = Bytes.none; bytes = λ o k l. absurd (omega arith) }

-- ---- a report, and a sending

least_cases : (a b : ℕ) → (least_of a b ≤ a) × (least_of a b ≤ b)
least_cases a b = by (ltb a b) refl
  where
    by : (t : Bool) → ltb a b ≡ t → (cond t a b ≤ a) × (cond t a b ≤ b)
    by true e = (omega arith, omega (arith, ltb-true a b e))
    by false e = (omega (arith, ltb-false a b e), omega arith)

most_cases : (a b c : ℕ) → a ≤ c → b ≤ c → (a ≤ most_of a b) × (b ≤ most_of a b) × (most_of a b ≤ c)
most_cases a b c h k = by (ltb a b) refl
  where
    by : (t : Bool) → ltb a b ≡ t → (a ≤ cond t b a) × (b ≤ cond t b a) × (cond t b a ≤ c)
    by true e = (omega (arith, ltb-true a b e), omega arith, k)
    by false e = (omega arith, omega (arith, ltb-false a b e), h)

pub holds_reported : (queue : List ℕ) (slot : ℕ) (q : Queue) (bs : List ℕ) (t n : ℕ) → Holds queue slot q bs t → Holds queue slot (reported_to q n) bs (most_of t n)
holds_reported queue slot q bs t n h =
    let l = least_cases n q.posted in
    let w = h.numbers in
    let m = most_cases q.kept (least_of n q.posted) q.posted w.kept l.1 in
    let r = most_cases q.reported n (q.reported + n) (omega arith) (omega arith) in
    let g = most_cases q.kept (least_of n q.posted) (most_of q.reported n) (omega (arith, w.told, r.0)) (omega (arith, l.0, r.1)) in
    record {
      numbers = record {
        total = w.total;
        space = omega (arith, w.space, m.0);
        kept = m.2;
        told = g.2;
        most = ap (λ (x : ℕ). most_of x n)
            w.most;
        few = w.few;
      };
      fine = h.fine;
      bytes = λ o k i. h.bytes o (omega (arith, m.0)) i;
    }

pub holds_sent : (queue : List ℕ) (slot : ℕ) (q : Queue) (bs : List ℕ) (t round : ℕ) → Holds queue slot q bs t → Holds queue slot (sent_in q round) bs t
holds_sent queue slot q bs t round h = record { numbers = h.numbers; fine = h.fine; bytes = h.bytes }

-- ---- bytes written

-- at a place that none of them takes
put_other : (bs queue : List ℕ) (slot o j : ℕ) → ((k : ℕ) → k < length bs → j ≡ place_of slot (o + k) → ⊥) → get_or (put_bytes queue slot o bs) j 0 ≡ get_or queue j 0
unfolding put_bytes
put_other [] queue slot o j f = refl
put_other (b ∷ bs) queue slot o j f =
    put_other bs (set queue (place_of slot o) b) slot (o + 1) j
    (λ k l e. f (suc k) (omega arith) (let z : o + 1 + k ≡ o + suc k = omega arith in e ∙ ap (place_of slot) z))
    ∙ get_or-set_other queue (place_of slot o) j b 0 (λ e. f 0 (omega arith) (let z : o ≡ o + 0 = omega arith in e ∙ ap (place_of slot) z))

-- at the place of one of them, 2,048 at most
put_here : (bs queue : List ℕ) (slot o k : ℕ) → length bs ≤ 2048 → k < length bs → 2048 * slot + 2048 ≤ length queue
    → get_or (put_bytes queue slot o bs) (place_of slot (o + k)) 0 ≡ get_or bs k 0
unfolding put_bytes
put_here [] queue slot o k m l n = absurd (omega arith)
put_here (b ∷ bs) queue slot o zero m l n =
    let z : o + 0 ≡ o = omega arith in
    rw z
    (put_other bs (set queue (place_of slot o) b) slot (o + 1) (place_of slot o) (λ k h e. omega arith)
    ∙ get_or-set_same queue (place_of slot o) b 0 (omega arith))
put_here (b ∷ bs) queue slot o (suc k) m l n =
    let z : o + suc k ≡ o + 1 + k = omega arith in
    rw z (put_here bs (set queue (place_of slot o) b) slot (o + 1) k (omega arith) (omega arith) (omega (arith, length-set queue (place_of slot o) b)))

-- ---- a posting

-- a message that is not refused
fits_by : (q : Queue) (n : ℕ) (a b c : Bool) → ltb 2046 n ≡ a → ltb (q.kept + 2048) (q.posted + n + 2) ≡ b → ltb 16777215 (q.posted + n + 2) ≡ c
    → ◌≡◌ {A = ℕ} (cond a 24 (cond b 24 (cond c 25 0))) 0 → (n ≤ 2046) × (q.posted + n + 2 ≤ q.kept + 2048) × (q.posted + n + 2 ≤ 16777215)
fits_by q n true b c ea eb ec e = absurd (omega arith)
fits_by q n false true c ea eb ec e = absurd (omega arith)
fits_by q n false false true ea eb ec e = absurd (omega arith)
fits_by q n false false false ea eb ec e =
    (ltb-false 2046 n ea, ltb-false (q.kept + 2048) (q.posted + n + 2) eb, ltb-false 16777215 (q.posted + n + 2) ec)

pub space_fits : (q : Queue) (n : ℕ) → space_refusal q n ≡ 0 → (n ≤ 2046) × (q.posted + n + 2 ≤ q.kept + 2048) × (q.posted + n + 2 ≤ 16777215)
unfolding space_refusal
space_fits q n e = fits_by q n (ltb 2046 n) (ltb (q.kept + 2048) (q.posted + n + 2)) (ltb 16777215 (q.posted + n + 2)) refl refl refl e

bytes_both : {a b : List ℕ} → Bytes a → Bytes b → Bytes (a ++ b)
bytes_both Bytes.none k = k
bytes_both (Bytes.more h t) k = Bytes.more h (bytes_both t k)

framed_bytes : (m : List ℕ) → length m ≤ 2046 → Bytes m → Bytes (framed m)
framed_bytes m n h = Bytes.more {b = length m % 256} (omega arith) (Bytes.more {b = length m / 256 % 256} (omega arith) h)

-- to this boat
pub holds_posted : (queue : List ℕ) (slot : ℕ) (q : Queue) (bs message : List ℕ) (t : ℕ) → 2048 * slot + 2048 ≤ length queue → space_refusal q (length message) ≡ 0 → Bytes message
    → Holds queue slot q bs t → Holds (put_bytes queue slot q.posted (framed message)) slot (posted_to q (length message + 2)) (bs ++ framed message) t
holds_posted queue slot q bs message t long e ms h =
    let n = length message in
    let f = space_fits q n e in
    let w = framed message in
    let v : length w ≡ n + 2 = omega arith in
    let u = length-append bs w in
    record {
      numbers = omega (arith, h.numbers, f.1, f.2);
      fine = bytes_both h.fine (framed_bytes message f.0 ms);
      bytes = λ o k l.
          ⊎_elim
          (λ a.
          put_other w queue slot q.posted (place_of slot o) (λ j b z. omega (arith, h.numbers, f.1))
          ∙ h.bytes o k a ∙ sym (get_or-append bs w 0 o a))
          (λ a.
          let j = o - length bs in
          let z : q.posted + j ≡ o = omega (arith, h.numbers.total) in
          let y : length bs + j ≡ o = omega arith in
          ap (λ (i : ℕ). get_or (put_bytes queue slot q.posted w) (place_of slot i) 0) (sym z) ∙ put_here w queue slot q.posted j (omega (arith, f.0)) (omega arith) long
          ∙ sym (ap (λ (i : ℕ). get_or (bs ++ w) i 0) (sym y) ∙ get_or-append-add bs w j 0))
          (lt_or_le o (length bs));
    }

-- to another
pub holds_other : (queue : List ℕ) (slot other o : ℕ) (q : Queue) (bs ws : List ℕ) (t : ℕ) → (other ≡ slot → ⊥) → Holds queue slot q bs t → Holds (put_bytes queue other o ws) slot q bs t
holds_other queue slot other o q bs ws t n h =
    record { numbers = h.numbers; fine = h.fine; bytes = λ i k l. put_other ws queue other o (place_of slot i) (λ j b z. n (omega arith)) ∙ h.bytes i k l }

-- ---- of all slots

pub record Kept (queue : List ℕ) (posted : ℕ → List ℕ) (told : ℕ → ℕ) (qs : List Queue) : Type 0 where
  pub many : length qs ≡ 62
  pub each : (i : ℕ) → i < 62 → Holds queue i (get_or qs i empty_queue) (posted i) (told i)

-- one written
pub kept_put : {queue : List ℕ} {posted : ℕ → List ℕ} {told : ℕ → ℕ} (qs : List Queue) (j : ℕ) (k : Queue) → j < 62 → Kept queue posted told qs → Holds queue j k (posted j) (told j)
    → Kept queue posted told (set qs j k)
kept_put {queue} {posted} {told} qs j k l f h =
    record {
      many = length-set qs j k ∙ f.many;
      each = λ i m.
          ⊎_elim
          (λ e.
          subst (λ (x : ℕ). Holds queue x (get_or (set qs j k) x empty_queue) (posted x) (told x)) (sym e)
          (subst (λ (x : Queue). Holds queue j x (posted j) (told j)) (sym (get_or-set_same qs j k empty_queue (omega (arith, f.many)))) h))
          (λ e. subst (λ (x : Queue). Holds queue i x (posted i) (told i)) (sym (get_or-set_other qs j i k empty_queue e)) (f.each i m)) (eq_or_not i j);
    }

-- a burst of word back was sent in a round
pub kept_sent : {queue : List ℕ} {posted : ℕ → List ℕ} {told : ℕ → ℕ} (qs : List Queue) (j round : ℕ) → j < 62 → Kept queue posted told qs
    → Kept queue posted told (set qs j (sent_in (get_or qs j empty_queue) round))
kept_sent {queue} {posted} {told} qs j round l f =
    kept_put qs j (sent_in (get_or qs j empty_queue) round) l f (holds_sent queue j (get_or qs j empty_queue) (posted j) (told j) round (f.each j l))

-- an empty one written where one is
pub kept_empty : {queue : List ℕ} {posted : ℕ → List ℕ} {told : ℕ → ℕ} (qs : List Queue) (j : ℕ) → j < 62 → get_or qs j empty_queue ≡ empty_queue → Kept queue posted told qs
    → Kept queue posted told (set qs j empty_queue)
kept_empty {queue} {posted} {told} qs j l e f = kept_put qs j empty_queue l f (subst (λ (x : Queue). Holds queue j x (posted j) (told j)) e (f.each j l))

-- other lists posted and numbers told, the same at each slot
pub kept_same : {queue : List ℕ} {posted : ℕ → List ℕ} {told told' : ℕ → ℕ} {qs : List Queue} → ((i : ℕ) → i < 62 → told' i ≡ told i) → Kept queue posted told qs → Kept queue posted told' qs
kept_same {queue} {posted} {told} {told'} {qs} e f =
    record { many = f.many; each = λ i l. subst (λ (t : ℕ). Holds queue i (get_or qs i empty_queue) (posted i) t) (sym (e i l)) (f.each i l) }
