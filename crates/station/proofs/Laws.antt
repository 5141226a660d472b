-- What a call answers, by its refusal. Knows nothing of the code. Assumes nothing.
use Rattle.std.specs.Prelude.{Some, None, Result, Ok, Err}
use mathlib.Core.Path.{◌≡◌, refl, sym, ap, ◌∙◌}
use mathlib.Core.Bool.{Bool, true, false, cond, ◌||◌}
use mathlib.Core.List.{List, []}
use Prim.Native.Nat.{ℕ, ◌+◌, ◌*◌, ◌/◌, ◌≤◌, ◌<◌}
use native.Mathlib.Omega.{arith}
use lib.Dec.{eqb, ltb, leb}
use borrow.Author.Tests.{leb-false, ltb-false, eqb-true, le-ltb, ne_eqb}
use lib.Ieee.{Float}
use lib.ListN.{length, drop}
use lib.Seq.{sets}
use Rattle.refusal.specs.declared.Refusal.{Refusal}
use Rattle.refusal.specs.Numbers.{number_of, number_in}
use Rattle.refusal.proofs.Numbers.{is_number}
use Rattle.level.specs.Spans.{up_to, within}
use Rattle.words.specs.Words.{Burst, Parsed, malformed, parsed, parse, shape_of}
use Rattle.words.proofs.Walk.{opened, frames_count}
use Rattle.out.specs.Encode.{after}
use Rattle.bits.specs.Mask.{has_bit, without_bit}
use Rattle.bits.proofs.Lists.{or_false}
use Rattle.stream.specs.Table.{freed_table}
use Rattle.net.specs.declared.Station.{Station}
use Rattle.net.specs.declared.Round.{Round}
use Rattle.queue.specs.declared.Queue.{Queue}
use Rattle.queue.specs.Queues.{space_refusal}
use Rattle.net.specs.State.{with_round, queue_at, with_queue, table_of, with_table}
use Rattle.net.proofs.Laws.{queue_again}
use Rattle.net.specs.Net.{is_member, Said, said, Did}
use Rattle.rx.specs.Reception.{RxDid, rx_by, rx_of, unheard}
use Rattle.station.specs.declared.Answered.{Answered}
use Rattle.station.specs.Refusals.{refusal_of}
use Rattle.station.proofs.Numbers.{refusal_again}
use Rattle.station.specs.Entries.{answered, unless, done, refused, read_refusal, post_refusal, cell_refusal, receive_refusal, receive_check, frames_or65, check1, check2, check3, receive_by, receive_of, heard_of}

-- a call that is refused by n unless n is 0: the parts of its answer go by the same test
pub answered_unless : (n : ℕ) (s t : Station) (store store' words : List ℕ) (room : ℕ)
    → answered (unless n s store (done t store' words)) room
    ≡ record { station = cond (eqb n 0) t s; answer = cond (eqb n 0) (Ok (after room 0 (length words))) (Err (refusal_of n)) }
answered_unless n s t store store' words room = go (eqb n 0) refl
  where
    go : (b : Bool) → eqb n 0 ≡ b
        → answered (cond b (done t store' words) (refused n s store)) room
        ≡ record { station = cond b t s; answer = cond b (Ok (after room 0 (length words))) (Err (refusal_of n)) }
    go true e = refl
    go false e = rw e

-- where it is refused, and where not
pub refused_as : {A : Type 0} {no : Result A Refusal} {r : Refusal} (n : ℕ) (s t : Station) (store store' : List ℕ) → no ≡ Err r → number_in no ≡ n
    → record { station = s; answer = Err r } ≡ answered (unless n s store (done t store' [])) 0
refused_as {r} n s t store store' e f =
    let g : number_of r ≡ n = ap number_in (sym e) ∙ f in
    rw (← g) (rw (is_number r, refusal_again r) refl ∙ sym (answered_unless (number_of r) s t store store' [] 0))

pub done_as : {A : Type 0} {no : Result A Refusal} {x : A} (n : ℕ) (s t : Station) (store store' : List ℕ) → no ≡ Ok x → number_in no ≡ n
    → record { station = t; answer = Ok 0 } ≡ answered (unless n s store (done t store' [])) 0
unfolding after
done_as n s t store store' e f = let g : 0 ≡ n = ap number_in (sym e) ∙ f in rw (← g)

pub refused_by : {A : Type 0} (n : ℕ) (r : Refusal) (x : A) → number_of r ≡ n → Err r ≡ cond (eqb n 0) (Ok x) (Err (refusal_of n))
refused_by n r x e = rw (← e) (rw (is_number r, refusal_again r))

-- a part of the station that is written or not, by the refusal
pub round_if : (n : ℕ) (s : Station) (r : Round)
    → ◌≡◌ {A = Answered} (record { station = with_round s (cond (eqb n 0) r s.round); answer = cond (eqb n 0) (Ok 0) (Err (refusal_of n)) })
    (record { station = cond (eqb n 0) (with_round s r) s; answer = cond (eqb n 0) (Ok 0) (Err (refusal_of n)) })
round_if n s r = go (eqb n 0)
  where
    go : (b : Bool) → ◌≡◌ {A = Answered} (record { station = with_round s (cond b r s.round); answer = cond b (Ok 0) (Err (refusal_of n)) })
        (record { station = cond b (with_round s r) s; answer = cond b (Ok 0) (Err (refusal_of n)) })
    go true = refl
    go false = refl

abbrev freed_by : Bool → Station → ℕ → Station
freed_by b s cell =
    record { settings = s.settings; wait = s.wait; round = s.round; totals = s.totals; used = s.used; busy = cond b (without_bit s.busy cell) s.busy; landed = cond b (without_bit s.landed cell) s.landed; count = s.count; members = s.members; recent = s.recent; queues = s.queues; hears = s.hears; owners = s.owners; cells = s.cells }

pub freed_if : (n : ℕ) (s : Station) (cell : ℕ)
    → ◌≡◌ {A = Answered} (record { station = freed_by (eqb n 0) s cell; answer = cond (eqb n 0) (Ok 0) (Err (refusal_of n)) })
    (record { station = cond (eqb n 0) (with_table s (freed_table (table_of s) cell)) s; answer = cond (eqb n 0) (Ok 0) (Err (refusal_of n)) })
freed_if n s cell = go (eqb n 0)
  where
    go : (b : Bool) → ◌≡◌ {A = Answered} (record { station = freed_by b s cell; answer = cond b (Ok 0) (Err (refusal_of n)) })
        (record { station = cond b (with_table s (freed_table (table_of s) cell)) s; answer = cond b (Ok 0) (Err (refusal_of n)) })
    go true = refl
    go false = refl

-- a reading that is not refused is of a cell that lies in the store
pub read_in : (size count landed cell : ℕ) → read_refusal size count landed cell ≡ 0 → (cell < 64) × (6400 * cell + 6400 ≤ size)
unfolding read_refusal cell_refusal
read_in size count landed cell e = go (ltb (size / 6400) count) (leb count cell || leb 64 cell) refl refl e
  where
    go : (a b : Bool) → ltb (size / 6400) count ≡ a → leb count cell || leb 64 cell ≡ b
        → ◌≡◌ {A = ℕ} (cond a 7 (cond b 6 (cond (has_bit landed cell) 0 22))) 0 → (cell < 64) × (6400 * cell + 6400 ≤ size)
    go true b p q f = absurd (omega arith)
    go false true p q f = absurd (omega arith)
    go false false p q f =
        let h = or_false (leb count cell) (leb 64 cell) q in
        let i = leb-false count cell h.0 in
        let j = leb-false 64 cell h.1 in
        let k = ltb-false (size / 6400) count p in
        (omega arith, omega arith)

-- ---- calls that write words: t and the words are what the call does where it is not refused

pub refused_with : (m n : ℕ) (s : Station) (d : Said) (l : List ℕ) (room : ℕ) → m ≡ n → eqb m 0 ≡ false
    → (record { station = s; answer = Err (refusal_of m) } ≡ answered (unless n s [] (done d.station [] d.words)) room)
    × (l ≡ sets l 0 (unless n s [] (done d.station [] d.words)).words)
refused_with m n s d l room e f =
    let g : eqb n 0 ≡ false = ap (λ (x : ℕ). eqb x 0) (sym e) ∙ f in
    (rw e (rw (g, g)), rw g)

pub done_with : (n : ℕ) (s : Station) (d : Said) {x : Said} {r : Station} {l m : List ℕ} {j : ℕ} → n ≡ 0 → x ≡ d → Did x r l 0 m j
    → (record { station = r; answer = Ok j } ≡ answered (unless n s [] (done d.station [] d.words)) (length l))
    × (m ≡ sets l 0 (unless n s [] (done d.station [] d.words)).words)
done_with n s d e i y =
    rw e (rw (y.station, y.wrote.end, i), y.wrote.out ∙ rw i)

pub next_with : (n : ℕ) (s : Station) (d : Said) {r : Station} {l m : List ℕ} {j : ℕ} → Did (cond (eqb n 0) d (said s [])) r l 0 m j
    → (record { station = r; answer = cond (eqb n 0) (Ok j) (Err (refusal_of n)) } ≡ answered (unless n s [] (done d.station [] d.words)) (length l))
    × (m ≡ sets l 0 (unless n s [] (done d.station [] d.words)).words)
next_with n s d {r} {l} {m} {j} = go (eqb n 0) refl
  where
    go : (b : Bool) → eqb n 0 ≡ b → Did (cond b d (said s [])) r l 0 m j
        → (record { station = r; answer = cond b (Ok j) (Err (refusal_of n)) } ≡ answered (cond b (done d.station [] d.words) (refused n s [])) (length l))
        × (m ≡ sets l 0 (cond b (done d.station [] d.words) (refused n s [])).words)
    go true e x = (rw (x.station, x.wrote.end), x.wrote.out)
    go false e x = (rw (x.station, e), x.wrote.out)

-- ---- a reception

-- malformed words are refused, whatever else is wrong
pub malformed_refused : (room size count : ℕ) (now snr : Float) → receive_refusal room size count now snr malformed ≡ 0 → ⊥
unfolding receive_refusal
malformed_refused room size count now snr e = go (ltb room 8192) (ltb (size / 6400) count) (up_to 1000000000 now) (within 200 snr) e
  where
    go : (a b c d : Bool) → ◌≡◌ {A = ℕ} (cond a 4 (cond b 7 (cond c (cond d 3 2) 1))) 0 → ⊥
    go true b c d f = omega arith
    go false true c d f = omega arith
    go false false true true f = omega arith
    go false false true false f = omega arith
    go false false false d f = omega arith

pub receive_with : (n : ℕ) (p : Parsed Burst) (s : Station) (snr now : Float) (store : List ℕ) {r : Station} {t l m : List ℕ} {j k : ℕ}
    → (p ≡ malformed → n ≡ 0 → ⊥)
    → RxDid (cond (eqb n 0) (rx_by p s snr now store) (unheard s store)) r t l m j k
    → (record { station = r; answer = cond (eqb n 0) (Ok j) (Err (refusal_of n)); mask = k } ≡ heard_of (unless n s store (receive_by p s snr now store)) (length l))
    × (t ≡ (unless n s store (receive_by p s snr now store)).store)
    × (m ≡ sets l 0 (unless n s store (receive_by p s snr now store)).words)
receive_with n p s snr now store {r} {t} {l} {m} {j} {k} never = go (eqb n 0) refl p refl
  where
    go : (b : Bool) → eqb n 0 ≡ b → (q : Parsed Burst) → p ≡ q
        → RxDid (cond b (rx_by q s snr now store) (unheard s store)) r t l m j k
        → (record { station = r; answer = cond b (Ok j) (Err (refusal_of n)); mask = k } ≡ heard_of (cond b (receive_by q s snr now store) (refused n s store)) (length l))
        × (t ≡ (cond b (receive_by q s snr now store) (refused n s store)).store)
        × (m ≡ sets l 0 (cond b (receive_by q s snr now store) (refused n s store)).words)
    go true e malformed f x = absurd (never f (eqb-true n 0 e))
    go true e (parsed b) f x = (rw (x.station, x.wrote.end, x.unkept), x.store, x.wrote.out)
    go false e q f x = (rw (x.station, x.unkept, e), x.store, x.wrote.out)

-- the refusal by a flag is that of the words
pub check_is : (room size count : ℕ) (now snr : Float) (p : Parsed Burst) (n : ℕ) → shape_of p ≡ Some n → n ≤ 64
    → receive_check room size count now snr (ltb 64 n) ≡ receive_refusal room size count now snr p
unfolding receive_refusal
check_is room size count now snr malformed n e l = let z : ◌≡◌ {A = ℕ} 0 1 = cc in absurd (omega arith)
check_is room size count now snr (parsed b) n e l = rw (le-ltb 64 n l)

pub check_bad : (room size count : ℕ) (now snr : Float) (p : Parsed Burst) → shape_of p ≡ None
    → receive_check room size count now snr true ≡ receive_refusal room size count now snr p
unfolding receive_refusal
check_bad room size count now snr malformed e = refl
check_bad room size count now snr (parsed b) e = let z : ◌≡◌ {A = ℕ} 0 1 = cc in absurd (omega arith)

-- how many frames a burst has, or 65 for malformed words, decides the third check
pub checked : (room size count : ℕ) (now snr : Float) (ws : List ℕ)
    → receive_check room size count now snr (ltb 64 (frames_or65 (shape_of (parse ws)))) ≡ receive_refusal room size count now snr (parse ws)
checked room size count now snr ws = go (parse ws) refl
  where
    go : (p : Parsed Burst) → parse ws ≡ p
        → receive_check room size count now snr (ltb 64 (frames_or65 (shape_of p))) ≡ receive_refusal room size count now snr p
    go malformed e = check_bad room size count now snr malformed refl
    go (parsed b) e = check_is room size count now snr (parsed b) (length b.frames) refl (frames_count 64 (drop 1 ws) b.frames (opened ws b e).frames)

store_in : (room size count : ℕ) (now snr : Float) (p : Parsed Burst) → receive_refusal room size count now snr p ≡ 0 → 6400 * count ≤ size
unfolding receive_refusal
store_in room size count now snr p f = at (ltb room 8192) (ltb (size / 6400) count) refl f
  where
    at : (a b : Bool) → ltb (size / 6400) count ≡ b → ◌≡◌ {A = ℕ} (cond a 4 (cond b 7 (check1 now (check2 snr (check3 p 0))))) 0 → 6400 * count ≤ size
    at true b q g = absurd (omega arith)
    at false true q g = absurd (omega arith)
    at false false q g = let k = ltb-false (size / 6400) count q in omega arith

-- what a reception that is not refused may count on: the words are a burst of so many frames, and the store has the station's cells
pub receive_ready : (room size count : ℕ) (now snr : Float) (ws : List ℕ) → receive_refusal room size count now snr (parse ws) ≡ 0
    → (shape_of (parse ws) ≡ Some (frames_or65 (shape_of (parse ws)))) × (6400 * count ≤ size)
receive_ready room size count now snr ws e = go (parse ws) e
  where
    go : (p : Parsed Burst) → receive_refusal room size count now snr p ≡ 0
        → (shape_of p ≡ Some (frames_or65 (shape_of p))) × (6400 * count ≤ size)
    go malformed g = absurd (malformed_refused room size count now snr g)
    go (parsed b) g = (refl, store_in room size count now snr (parsed b) g)

-- the code's number is the refusal
module _ (room size count : ℕ) (now snr : Float) (ws : List ℕ) (n num : ℕ)
    (f : n ≡ frames_or65 (shape_of (parse ws))) (r : num ≡ receive_check room size count now snr (ltb 64 n)) where
  pub receive_no : num ≡ receive_refusal room size count now snr (parse ws)
  receive_no = r ∙ ap (λ (k : ℕ). receive_check room size count now snr (ltb 64 k)) f ∙ checked room size count now snr ws

  pub receive_asked : eqb num 0 ≡ true → (shape_of (parse ws) ≡ Some n) × (6400 * count ≤ size)
  receive_asked e = rw f (receive_ready room size count now snr ws (sym receive_no ∙ eqb-true num 0 e))

  pub receive_bad : parse ws ≡ malformed → num ≡ 0 → ⊥
  receive_bad p z =
      malformed_refused room size count now snr
      (ap (λ (q : Parsed Burst). receive_refusal room size count now snr q) (sym p) ∙ sym receive_no ∙ z)

pub receive_all : (s : Station) (ws : List ℕ) (snr now : Float) (store l : List ℕ) (n num : ℕ) {r : Station} {t m : List ℕ} {j k : ℕ}
    → n ≡ frames_or65 (shape_of (parse ws)) → num ≡ receive_check (length l) (length store) s.count now snr (ltb 64 n)
    → RxDid (rx_of (eqb num 0) ws s snr now store) r t l m j k
    → (record { station = r; answer = cond (eqb num 0) (Ok j) (Err (refusal_of num)); mask = k } ≡ heard_of (receive_of s ws snr now store (length l)) (length l))
    × (t ≡ (receive_of s ws snr now store (length l)).store)
    × (m ≡ sets l 0 (receive_of s ws snr now store (length l)).words)
unfolding receive_of
receive_all s ws snr now store l n num f r x =
    rw (← receive_no (length l) (length store) s.count now snr ws n num f r)
    (receive_with num (parse ws) s snr now store (receive_bad (length l) (length store) s.count now snr ws n num f r) x)

-- ### Posting

-- what a posting that is not refused is: the queue is long enough, the slot is one, the message fits
pub record Posts (size slot : ℕ) (q : Queue) (n : ℕ) : Type 0 where
  pub long : 126976 ≤ size
  pub slot_lt : slot < 62
  pub message : n ≤ 2046
  pub total : q.posted + n + 2 ≤ 16777215

pub post_ok : (size used slot : ℕ) (q : Queue) (n : ℕ) → post_refusal size used slot q n ≡ 0 → Posts size slot q n
unfolding post_refusal space_refusal
post_ok size used slot q n e =
    by (ltb size 126976) (ltb 61 slot) (is_member used slot) (ltb 2046 n) (ltb (q.kept + 2048) (q.posted + n + 2)) (ltb 16777215 (q.posted + n + 2)) refl refl refl refl e
  where
    by : (a b c d f g : Bool) → ltb size 126976 ≡ a → ltb 61 slot ≡ b → ltb 2046 n ≡ d → ltb 16777215 (q.posted + n + 2) ≡ g
        → ◌≡◌ {A = ℕ} (cond a 7 (cond b 8 (cond c (cond d 24 (cond f 24 (cond g 25 0))) 21))) 0 → Posts size slot q n
    by true b c d f g ea eb ed eg z = absurd (omega arith)
    by false true c d f g ea eb ed eg z = absurd (omega arith)
    by false false true true f g ea eb ed eg z = absurd (omega arith)
    by false false true false true g ea eb ed eg z = absurd (omega arith)
    by false false true false false true ea eb ed eg z = absurd (omega arith)
    by false false true false false false ea eb ed eg z =
        let h = ltb-false 61 slot eb in
        record { long = ltb-false size 126976 ea; slot_lt = omega arith; message = ltb-false 2046 n ed; total = ltb-false 16777215 (q.posted + n + 2) eg }
    by false false false d f g ea eb ed eg z = absurd (omega arith)

pub post_if : (n : ℕ) (s : Station) (slot : ℕ) (q : Queue)
    → ◌≡◌ {A = Answered} (record { station = with_queue s slot (cond (eqb n 0) q (queue_at s slot)); answer = cond (eqb n 0) (Ok 0) (Err (refusal_of n)) })
    (record { station = cond (eqb n 0) (with_queue s slot q) s; answer = cond (eqb n 0) (Ok 0) (Err (refusal_of n)) })
post_if n s slot q = go (eqb n 0)
  where
    go : (b : Bool) → ◌≡◌ {A = Answered} (record { station = with_queue s slot (cond b q (queue_at s slot)); answer = cond b (Ok 0) (Err (refusal_of n)) })
        (record { station = cond b (with_queue s slot q) s; answer = cond b (Ok 0) (Err (refusal_of n)) })
    go true = refl
    go false = ap (λ (t : Station). record { station = t; answer = Err (refusal_of n) }) (queue_again s slot)

-- the queue that it leaves
pub post_yes : (n : ℕ) (s t : Station) (queue put : List ℕ) → n ≡ 0 → put ≡ (unless n s queue (done t put [])).store
post_yes n s t queue put e = rw e

pub post_no : (n : ℕ) (s t : Station) (queue put : List ℕ) → (n ≡ 0 → ⊥) → queue ≡ (unless n s queue (done t put [])).store
post_no n s t queue put h = rw (ne_eqb n 0 h)
