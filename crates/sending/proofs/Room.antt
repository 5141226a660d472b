-- One `take` gives at most as many pieces as were wanted, each of at most `max` bytes, whatever the outbox holds. Assumes nothing.
use mathlib.Core.Bool.{Bool, true, false}
use mathlib.Core.List.{List, [], ◌∷◌, ◌++◌, map}
use mathlib.Core.Path.{◌≡◌, refl, ap, ◌∙◌}
use Prim.Native.Nat.{ℕ, zero, suc, ◌+◌, ◌-◌, ◌*◌, ◌≤◌}
use native.Mathlib.Omega.{arith}
use lib.Dec.{ltb}
use lib.ListN.{length, take, drop, length-append}
use borrow.Author.Tests.{ltb-false}
use Rattle.bits.proofs.Lists.{cond_keeps}
use Rattle.words.specs.Words.{least}
use Rattle.out.specs.Encode.{frame_words}
use Rattle.out.proofs.Pack.{length_pack}
use Rattle.outbox.specs.Outbox.{Piece, OutMsg, Outbox, Sent, sent_piece_of, cut_up, recut, recut_one, recut_in, same, picked, swept, sweep, sweep_out, new_pieces, fresh, fresh_out, Burst, pass_sweep, pass_new, take_out}
use Rattle.outbox.specs.Bursts.{msg_field, sent_words}
use Rattle.outbox.proofs.Passes.{least_right}
use Rattle.sending.specs.Runs.{All}
use Rattle.sending.specs.Room.{EachShort, whole_words, TakeFits}

-- ### how many
picked_few : (st : Bool) (n : ℕ) (ps : List Piece) → length (picked st n ps) ≤ n
unfolding picked
picked_few st zero ps = omega arith
picked_few st (suc n) [] = omega arith
picked_few st (suc n) (p ∷ ps) =
    cond_keeps (λ (l : List Piece). length l ≤ suc n) (same st p.stale) _ _ (λ _. let i = picked_few st n ps in omega arith) (λ _. picked_few st (suc n) ps)

cut_few : (n max x e : ℕ) (st : Bool) → length (cut_up n max x e st) ≤ n
unfolding cut_up
cut_few zero max x e st = omega arith
cut_few (suc n) max x e st =
    cond_keeps (λ (l : List Piece). length l ≤ suc n) (ltb x e) _ [] (λ _. let i = cut_few n max (x + least (e - x) max) e st in omega arith) (λ _. omega arith)

length_map : (f : Piece → Sent) (ps : List Piece) → length (map f ps) ≡ length ps
length_map f [] = refl
length_map f (p ∷ ps) = let e = length_map f ps in omega arith

sweep_few : (st : Bool) (n : ℕ) (ms : List OutMsg) → length (sweep_out st n ms) ≤ n
unfolding sweep_out
sweep_few st n [] = omega arith
sweep_few st n (m ∷ ms) =
    let k = picked_few st n m.inflight in
    let i = sweep_few st (n - length (picked st n m.inflight)) ms in
    let e = length_map (sent_piece_of m.seq m.bytes) (picked st n m.inflight) in
    let a = length-append (map (sent_piece_of m.seq m.bytes) (picked st n m.inflight)) (sweep_out st (n - length (picked st n m.inflight)) ms) in
    omega arith

fresh_few : (max n : ℕ) (ms : List OutMsg) → length (fresh_out max n ms) ≤ n
unfolding fresh_out
fresh_few max n [] = omega arith
fresh_few max n (m ∷ ms) =
    let k = cut_few n max m.cut (length m.bytes) false in
    let i = fresh_few max (n - length (new_pieces max n m)) ms in
    let e = length_map (sent_piece_of m.seq m.bytes) (new_pieces max n m) in
    let a = length-append (map (sent_piece_of m.seq m.bytes) (new_pieces max n m)) (fresh_out max (n - length (new_pieces max n m)) ms) in
    omega arith

-- ### how long
abbrev Small : ℕ → List Piece → Type 0
Small max [] = Unit {0}
Small max (p ∷ ps) = (p.len ≤ max) × Small max ps

small_join : (max : ℕ) (ps qs : List Piece) → Small max ps → Small max qs → Small max (ps ++ qs)
small_join max [] qs a b = b
small_join max (p ∷ ps) qs a b = (a.0, small_join max ps qs a.1 b)

small_cut : (n max x e : ℕ) (st : Bool) → Small max (cut_up n max x e st)
unfolding cut_up
small_cut zero max x e st = tt
small_cut (suc n) max x e st =
    cond_keeps (Small max) (ltb x e) _ [] (λ _. (least_right (e - x) max, small_cut n max (x + least (e - x) max) e st)) (λ _. tt)

small_recut : (max : ℕ) (ps : List Piece) → Small max (recut max ps)
unfolding recut
small_recut max [] = tt
small_recut max (p ∷ ps) =
    small_join max (recut_one max p) (recut max ps)
    (cond_keeps (Small max) (ltb max p.len) _ (p ∷ []) (λ _. small_cut p.len max p.off (p.off + p.len) p.stale) (λ q. (ltb-false max p.len q, tt)))
    (small_recut max ps)

small_swept : (max : ℕ) (st : Bool) (n : ℕ) (ps : List Piece) → Small max ps → Small max (swept st n ps)
unfolding swept
small_swept max st zero ps h = h
small_swept max st (suc n) [] h = tt
small_swept max st (suc n) (p ∷ ps) h =
    cond_keeps (Small max) (same st p.stale) _ _ (λ _. (h.0, small_swept max st n ps h.1)) (λ _. (h.0, small_swept max st (suc n) ps h.1))

small_picked : (max : ℕ) (st : Bool) (n : ℕ) (ps : List Piece) → Small max ps → Small max (picked st n ps)
unfolding picked
small_picked max st zero ps h = tt
small_picked max st (suc n) [] h = tt
small_picked max st (suc n) (p ∷ ps) h =
    cond_keeps (Small max) (same st p.stale) _ _ (λ _. (h.0, small_picked max st n ps h.1)) (λ _. small_picked max st (suc n) ps h.1)

take_most : (n : ℕ) (l : List ℕ) → length (take n l) ≤ n
take_most zero l = omega arith
take_most (suc n) [] = omega arith
take_most (suc n) (x ∷ l) = let i = take_most n l in omega arith

short_join : (max : ℕ) (xs ys : List Sent) → EachShort max xs → EachShort max ys → EachShort max (xs ++ ys)
short_join max [] ys a b = b
short_join max (x ∷ xs) ys a b = (a.0, short_join max xs ys a.1 b)

short_sent : (max seq : ℕ) (bytes : List ℕ) (ps : List Piece) → Small max ps → EachShort max (map (sent_piece_of seq bytes) ps)
short_sent max seq bytes [] h = tt
short_sent max seq bytes (p ∷ ps) h = (let i = take_most p.len (drop p.off bytes) in omega (arith, h.0), short_sent max seq bytes ps h.1)

abbrev SmallIn : ℕ → OutMsg → Type 0
SmallIn max m = Small max m.inflight

all_recut : (max : ℕ) (ms : List OutMsg) → All (SmallIn max) (map (recut_in max) ms)
all_recut max [] = tt
all_recut max (m ∷ ms) = (small_recut max m.inflight, all_recut max ms)

all_swept : (max : ℕ) (st : Bool) (n : ℕ) (ms : List OutMsg) → All (SmallIn max) ms → All (SmallIn max) (sweep st n ms)
unfolding sweep
all_swept max st n [] a = tt
all_swept max st n (m ∷ ms) a = (small_swept max st n m.inflight a.0, all_swept max st (n - length (picked st n m.inflight)) ms a.1)

all_cut : (max n : ℕ) (ms : List OutMsg) → All (SmallIn max) ms → All (SmallIn max) (fresh max n ms)
unfolding fresh
all_cut max n [] a = tt
all_cut max n (m ∷ ms) a =
    (small_join max m.inflight (new_pieces max n m) a.0 (small_cut n max m.cut (length m.bytes) false), all_cut max (n - length (new_pieces max n m)) ms a.1)

short_swept : (max : ℕ) (st : Bool) (n : ℕ) (ms : List OutMsg) → All (SmallIn max) ms → EachShort max (sweep_out st n ms)
unfolding sweep_out
short_swept max st n [] a = tt
short_swept max st n (m ∷ ms) a =
    short_join max (map (sent_piece_of m.seq m.bytes) (picked st n m.inflight)) (sweep_out st (n - length (picked st n m.inflight)) ms)
    (short_sent max m.seq m.bytes (picked st n m.inflight) (small_picked max st n m.inflight a.0))
    (short_swept max st (n - length (picked st n m.inflight)) ms a.1)

short_cut : (max n : ℕ) (ms : List OutMsg) → EachShort max (fresh_out max n ms)
unfolding fresh_out
short_cut max n [] = tt
short_cut max n (m ∷ ms) =
    short_join max (map (sent_piece_of m.seq m.bytes) (new_pieces max n m)) (fresh_out max (n - length (new_pieces max n m)) ms)
    (short_sent max m.seq m.bytes (new_pieces max n m) (small_cut n max m.cut (length m.bytes) false))
    (short_cut max (n - length (new_pieces max n m)) ms)

-- ### all three passes
record Tight (max room : ℕ) (b : Burst) : Type 0 where
  few : length b.out ≤ room
  short : EachShort max b.out
  small : All (SmallIn max) b.msgs

pass_swept : (max room : ℕ) (st : Bool) (b : Burst) → Tight max room b → Tight max room (pass_sweep st room b)
pass_swept max room st b t =
    let n = room - length b.out in
    let k = sweep_few st n b.msgs in
    let a = length-append b.out (sweep_out st n b.msgs) in
    let f = t.few in
    record {
      few = omega arith;
      short = short_join max b.out (sweep_out st (room - length b.out) b.msgs) t.short (short_swept max st (room - length b.out) b.msgs t.small);
      small = all_swept max st (room - length b.out) b.msgs t.small;
    }

pass_cut : (max room : ℕ) (b : Burst) → Tight max room b → Tight max room (pass_new max room b)
pass_cut max room b t =
    let n = room - length b.out in
    let k = fresh_few max n b.msgs in
    let a = length-append b.out (fresh_out max n b.msgs) in
    let f = t.few in
    record {
      few = omega arith;
      short = short_join max b.out (fresh_out max (room - length b.out) b.msgs) t.short (short_cut max (room - length b.out) b.msgs);
      small = all_cut max (room - length b.out) b.msgs t.small;
    }

tight_take : (max room : ℕ) (o : Outbox) → Tight max room (take_out max room o)
unfolding take_out
tight_take max room o =
    let t : Tight max room (record { msgs = map (recut_in max) o.msgs; out = [] }) = record { few = omega arith; short = tt; small = all_recut max o.msgs } in
    pass_swept max room true _ (pass_cut max room _ (pass_swept max room false (record { msgs = map (recut_in max) o.msgs; out = [] }) t))

pub take_short : (max room : ℕ) (o : Outbox) → EachShort max (take_out max room o).out
take_short max room o = (tight_take max room o).short

-- ### the words
frame_most : (flags field : ℕ) (p : List ℕ) → length p ≤ 255 → length (frame_words flags field p) ≤ 87
frame_most flags field p h = let l = length_pack p in omega arith

take_all : (n : ℕ) (l : List ℕ) → length l ≤ n → take n l ≡ l
take_all n [] h = at n
  where
    at : (n : ℕ) → take {A = ℕ} n [] ≡ []
    at zero = refl
    at (suc n) = refl
take_all zero (x ∷ l) h = absurd (omega arith)
take_all (suc n) (x ∷ l) h = ap (λ (r : List ℕ). x ∷ r) (take_all n l (omega arith))

words_most : (max : ℕ) (ps : List Sent) → max ≤ 255 → EachShort max ps → length (sent_words ps) ≤ 87 * length ps
unfolding sent_words
words_most max [] h s = omega arith
words_most max (p ∷ ps) h s =
    let q = s.0 in
    let t = take_most 255 p.bytes in
    let w = frame_most 0 (msg_field p.seq p.off) (take 255 p.bytes) t in
    let i = words_most max ps h s.1 in
    let a = length-append (frame_words 0 (msg_field p.seq p.off) (take 255 p.bytes)) (sent_words ps) in
    omega arith

words_whole : (max : ℕ) (ps : List Sent) → max ≤ 255 → EachShort max ps → sent_words ps ≡ whole_words ps
unfolding sent_words whole_words
words_whole max [] h s = refl
words_whole max (p ∷ ps) h s =
    let q = s.0 in
    ap (λ (l : List ℕ). frame_words 0 (msg_field p.seq p.off) l ++ sent_words ps) (take_all 255 p.bytes (omega arith))
    ∙ ap (λ (l : List ℕ). frame_words 0 (msg_field p.seq p.off) p.bytes ++ l) (words_whole max ps h s.1)

pub take_fits : TakeFits
take_fits max room o h r =
    let t = tight_take max room o in
    let f = t.few in
    let w = words_most max (take_out max room o).out h t.short in
    record { few = t.few; short = t.short; words = omega arith; whole = words_whole max (take_out max room o).out h t.short }
