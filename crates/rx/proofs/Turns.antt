-- The loop over the frames: what is read of the frames that are left, from the running values, is what is read of all of them from the start.
-- Assumes nothing.
use Rattle.std.specs.Prelude.{Some, None}
use mathlib.Core.Path.{◌≡◌, refl, sym, ap, ◌∙◌}
use mathlib.Core.Bool.{true, false, cond}
use mathlib.Core.List.{List, [], ◌∷◌, ◌++◌, append-nil}
use Prim.Native.Nat.{ℕ, ◌+◌, ◌-◌, ◌^◌, ◌<◌, ◌≤◌}
use native.Mathlib.Omega.{arith}
use lib.Dec.{eqb}
use lib.ListN.{length, drop}
use borrow.Author.Tests.{ne_eqb}
use Rattle.bits.proofs.Lists.{lt_or_le}
use mathlib.Core.Logic.{⊎_elim}
use Rattle.words.specs.Words.{Heard, lost, Burst, parsed, item_at, peek_at, heard_of, size_of, parse, shape_of}
use Rattle.words.specs.declared.Item.{Item}
use Rattle.words.specs.declared.Item.TheVariants as item
use Rattle.words.proofs.Walk.{Left, left_shape, left_on, left_some, left_none, left_peek, not_bad}
use Rattle.out.specs.declared.Output.{Output}
use Rattle.out.specs.Outputs.{Writes}
use Rattle.out.proofs.Laws.{writes_none, writes_as, writes_then}
use Rattle.net.specs.declared.Station.{Station}
use Rattle.frames.specs.declared.Air.{Air}
use Rattle.frames.specs.declared.Rx.{Rx}
use Rattle.frames.specs.declared.Frame.{Frame}
use Rattle.frames.specs.Reading.{Reading}
use Rattle.frames.specs.Code.Reading.{first_rx, next_rx, passed_rx}
use Rattle.frames.proofs.ByKind.{frame_size}
use Rattle.frames.specs.Frames.{read_frame, read_frames, frame_step, is_there}
use Rattle.frames.specs.Code.Frames.{frame_of}
use Rattle.wire.specs.Kinds.{tiny, k_idle}
use Rattle.words.specs.declared.Head.{Head}
use Rattle.net.specs.declared.Turn.{Turn}
use Rattle.net.specs.declared.Turn.TheVariants.{Idle, Sending, Waiting}
use Rattle.net.specs.Net.{Does}
use Rattle.rx.specs.Ending.{Ended, nothing_more, idle_end, reply_by, reply_end, end_of, end_reading, end_said}
use Rattle.rx.specs.Reception.{RxDoes, first_reading}
use Rattle.rx.specs.Code.Reception.{frames_read, burst_read}

-- the running values, as the loop has them
abbrev pub reading_at : Station → List ℕ → List ℕ → List ℕ → Rx → Reading
reading_at s store done seen x =
    record { station = s; store = store; words = done; frame = x.frame; heard = x.heard; unkept = x.unkept; sender = x.sender; more = x.more; seen = seen }

-- the frames fs are left; what was written so far is `done`
pub record Going (a : Air) (ws : List ℕ) (n : ℕ) (s₀ : Station) (store₀ : List ℕ) (o₀ : Output) (store : List ℕ) (o : Output) (s : Station) (x : Rx) : Type 0 where
  pub fs : List Heard
  pub done : List ℕ
  pub seen : List ℕ
  pub left : x.frame < n → Left ws n x.word x.frame fs
  pub none : n ≤ x.frame → fs ≡ []
  pub same : read_frames a fs (reading_at s store done seen x) ≡ read_frames a (frames_read n ws) (first_reading s₀ store₀)
  pub wrote : Writes o₀ done o
  pub cells : s.count ≡ s₀.count
  pub size : length store ≡ length store₀

-- ### The start

module _ (a : Air) (ws : List ℕ) (n : ℕ) (s : Station) (store : List ℕ) (o : Output) where
  none_yet_lem : n ≡ 0 → Going a ws n s store o store o s first_rx
  unfolding frames_read
  none_yet_lem z = record {
    fs = [];
    done = [];
    seen = [];
    left = λ h. absurd (omega arith);
    none = λ h. refl;
    same = rw z;
    wrote = writes_none o;
    cells = refl;
    size = refl;
  }

  some_yet : 0 < n → (b : Burst) × (parse ws ≡ parsed b) × Left ws n 1 0 b.frames → Going a ws n s store o store o s first_rx
  unfolding frames_read
  some_yet h (b, p, l) =
      let z : eqb n 0 ≡ false = ne_eqb n 0 (λ q. omega arith) in
      record {
        fs = b.frames;
        done = [];
        seen = [];
        left = λ q. l;
        none = λ q. left_none l q;
        same = rw (z, p);
        wrote = writes_none o;
        cells = refl;
        size = refl;
      }

  pub going_start : (x : Rx) → x ≡ first_rx → (0 < n → shape_of (parse ws) ≡ Some n) → Going a ws n s store o store o s x
  going_start x e shape =
      rw e (⊎_elim (λ h. some_yet h (left_shape ws n (shape h))) (λ h. none_yet_lem (omega arith)) (lt_or_le 0 n))

-- ### A turn

-- whether a frame is there, as the code finds it
there_by : (i : Item) (l : List ℕ) (f : Frame) → Some f ≡ frame_of i → is_there (heard_of i l) ≡ true
unfolding frame_of
there_by item.End l f q = let z : ◌≡◌ {A = ℕ} 0 1 = cc in absurd (omega arith)
there_by item.Bad l f q = let z : ◌≡◌ {A = ℕ} 0 1 = cc in absurd (omega arith)
there_by item.Lost l f q = let z : ◌≡◌ {A = ℕ} 0 1 = cc in absurd (omega arith)
there_by (item.Frame flags field len) l f q = refl

lost_by : (i : Item) (l : List ℕ) → None ≡ frame_of i → heard_of i l ≡ lost
unfolding frame_of
lost_by item.End l q = refl
lost_by item.Bad l q = refl
lost_by item.Lost l q = refl
lost_by (item.Frame flags field len) l q = let z : ◌≡◌ {A = ℕ} 0 1 = cc in absurd (omega arith)

one_by : (i : Item) → (i ≡ item.End → ⊥) → (i ≡ item.Bad → ⊥) → None ≡ frame_of i → size_of i ≡ 1
unfolding frame_of
one_by item.End p r q = absurd (p refl)
one_by item.Bad p r q = absurd (r refl)
one_by item.Lost p r q = refl
one_by (item.Frame flags field len) p r q = let z : ◌≡◌ {A = ℕ} 0 1 = cc in absurd (omega arith)

module _ {a : Air} {ws : List ℕ} {n : ℕ} {s₀ : Station} {store₀ : List ℕ} {o₀ : Output} {store : List ℕ} {o : Output} {s : Station} {x : Rx} (g : Going a ws n s₀ store₀ o₀ store o s x) (h : x.frame < n) where
  -- the words that are left, and the frame that stands there
  abbrev pub rest : List ℕ
  rest = drop x.word ws

  pub peek_is : frame_of (peek_at rest) ≡ frame_of (item_at rest)
  peek_is = ap frame_of (left_peek (g.left h))

  size_is : (f : Frame) → Some f ≡ frame_of (peek_at rest) → f.size ≡ size_of (item_at rest)
  size_is f e = frame_size (item_at rest) f (e ∙ peek_is)

  -- a lost frame is one word
  one_is : None ≡ frame_of (peek_at rest) → size_of (item_at rest) ≡ 1
  one_is e = one_by (item_at rest) (left_some (g.left h) h) (not_bad _ rest g.fs (g.left h).rest) (e ∙ peek_is)

  -- the frame that is read, and those behind it
  goes_on_lem : (tail : List Heard) × (g.fs ≡ heard_of (item_at rest) rest ∷ tail) × Left ws n (x.word + size_of (item_at rest)) (x.frame + 1) tail
  goes_on_lem = left_on (g.left h) (item_at rest) (size_of (item_at rest)) refl refl h

  pub fits : (f : Frame) → Some f ≡ frame_of (peek_at rest) → length ws < 2 ^ 64 → (x.word + f.size < 2 ^ 64) × (x.frame + 1 < 2 ^ 64)
  fits f e w =
      let z = size_is f e in
      let l = goes_on_lem.2.within in
      let m = (g.left h).most in
      (omega arith, omega arith)

  pub fits_lost : None ≡ frame_of (peek_at rest) → length ws < 2 ^ 64 → (x.word + 1 < 2 ^ 64) × (x.frame + 1 < 2 ^ 64)
  fits_lost e w =
      let z = one_is e in
      let l = goes_on_lem.2.within in
      let m = (g.left h).most in
      (omega arith, omega arith)

  -- the frame did what `frame_step` says, and the next one stands behind it
  stepped : {store' : List ℕ} {o' : Output} {s' : Station} {x' : Rx} (vs : List ℕ)
      → reading_at s' store' (g.done ++ vs) (g.seen ++ (s.used ∷ [])) x' ≡ frame_step a (heard_of (item_at rest) rest) (reading_at s store g.done g.seen x)
      → x.word + size_of (item_at rest) ≡ x'.word → x.frame + 1 ≡ x'.frame → Writes o vs o' → s'.count ≡ s.count → length store' ≡ length store
      → Going a ws n s₀ store₀ o₀ store' o' s' x'
  unfolding read_frames
  stepped {x' = x'} vs step word frame w pc ps =
      let t = goes_on_lem in
      let l : Left ws n x'.word x'.frame t.0 = rw (word, frame) at t.2 in
      record {
        fs = t.0;
        done = g.done ++ vs;
        seen = g.seen ++ (s.used ∷ []);
        left = λ q. l;
        none = λ q. left_none l q;
        same = ap (read_frames a t.0) step ∙ sym (ap (λ (k : List Heard). read_frames a k (reading_at s store g.done g.seen x)) t.1) ∙ g.same;
        wrote = writes_then g.wrote w;
        cells = pc ∙ g.cells;
        size = ps ∙ g.size;
      }

  -- the frame did what `read_frame` says, and the loop goes on with the next
  pub goes : {store' : List ℕ} {o' : Output} {s' : Station} {x₁ x' : Rx} (f : Frame) (vs : List ℕ) → Some f ≡ frame_of (peek_at rest)
      → reading_at s' store' (g.done ++ vs) g.seen x₁ ≡ read_frame a (heard_of (item_at rest) rest) (reading_at s store g.done g.seen x)
      → x₁.word ≡ x.word → x₁.frame ≡ x.frame → Writes o vs o' → s'.count ≡ s.count → length store' ≡ length store → x' ≡ next_rx x₁ f
      → Going a ws n s₀ store₀ o₀ store' o' s' x'
  unfolding frame_step
  goes f vs e r pw pf w pc ps p =
      let pt = there_by (item_at rest) rest f (e ∙ peek_is) in
      stepped vs (rw (p, ← r, pt)) (sym (ap (λ (k : Rx). k.word) p ∙ rw (pw, size_is f e))) (sym (ap (λ (k : Rx). k.frame) p ∙ rw pf)) w pc ps

  -- a lost frame does nothing
  pub goes_lost : {x' : Rx} → None ≡ frame_of (peek_at rest) → x' ≡ passed_rx x → Going a ws n s₀ store₀ o₀ store o s x'
  unfolding frame_step read_frame
  goes_lost e p =
      stepped [] (rw (p, lost_by (item_at rest) rest (e ∙ peek_is), append-nil)) (sym (ap (λ (k : Rx). k.word) p ∙ rw (one_is e))) (sym (ap (λ (k : Rx). k.frame) p))
      (writes_none o) refl refl

-- a frame less is left
pub fewer : {n i k : ℕ} → k ≡ i + 1 → i < n → n - k < n - i
fewer e h = omega arith

-- ### The end

-- the end looks at the station, the frames heard, the sender and whether there is more
reply_same : (v : Turn) (a : Air) (h : Head) (s : Station) (store done seen : List ℕ) (x : Rx)
    → reply_by v a h (end_reading s x) ≡ reply_by v a h (reading_at s store done seen x)
reply_same Idle a h s store done seen x = refl
reply_same Sending a h s store done seen x = refl
reply_same (Waiting r) a h s store done seen x = refl

end_same : (a : Air) (h : Head) (s : Station) (store done seen : List ℕ) (x : Rx) → end_of a h (end_reading s x) ≡ end_of a h (reading_at s store done seen x)
unfolding reply_end
end_same a h s store done seen x =
    ap (λ (e : Ended). cond (eqb h.code tiny) (cond (eqb h.hi k_idle) (idle_end a h.extra s) (nothing_more s)) e) (reply_same s.wait.turn a h s store done seen x)

pub read_done : {a : Air} {ws : List ℕ} {n : ℕ} {s₀ : Station} {store₀ : List ℕ} {o₀ : Output} {store : List ℕ} {o : Output} {s : Station} {x : Rx} (g : Going a ws n s₀ store₀ o₀ store o s x) (h : Head) → n ≤ x.frame
    → {r : Station} {o' : Output} → Does (end_said a h s x) r o o'
    → RxDoes (burst_read a h n ws s₀ store₀) r store o₀ o' x.unkept
unfolding burst_read read_frames
read_done {a} {ws} {n} {s₀} {store₀} {o₀} {store} {o} {s} {x} g h le {r} {o'} d =
    let all : reading_at s store g.done g.seen x ≡ read_frames a (frames_read n ws) (first_reading s₀ store₀) = sym (ap (λ (fs : List Heard). read_frames a fs (reading_at s store g.done g.seen x)) (g.none le)) ∙ g.same in
    let e = end_same a h s store g.done g.seen x in
    let w : Writes o₀ (g.done ++ (end_of a h (end_reading s x)).burst) o' = writes_then g.wrote d.wrote in
    record {
      station = d.station ∙ ap (λ (k : Ended). k.station) e ∙ ap (λ (k : Reading). (end_of a h k).station) all;
      store = ap (λ (k : Reading). k.store) all;
      wrote = writes_as w (ap (λ (k : Ended). g.done ++ k.burst) e ∙ ap (λ (k : Reading). k.words ++ (end_of a h k).burst) all);
      unkept = ap (λ (k : Reading). k.unkept) all;
    }
