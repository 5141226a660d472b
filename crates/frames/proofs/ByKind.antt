-- A frame read by its kind, as the code does it, is the frame read by its flags and its first byte; a report's stores. Assumes nothing.
use mathlib.Core.Path.{◌≡◌, refl, sym, ap, ◌∙◌}
use Rattle.std.specs.Prelude.{Some}
use mathlib.Core.Bool.{Bool, true, false, not, cond, ◌&&◌}
use mathlib.Core.List.{List}
use Prim.Native.Nat.{ℕ, ◌/◌, ◌%◌, ◌<◌, ◌≤◌}
use native.Mathlib.Omega.{arith}
use lib.Dec.{eqb, leb}
use lib.ListN.{length, get_or, drop}
use borrow.Author.Tests.{eqb-false, eq-eqb, ne_eqb, le-leb, lt-leb}
use Rattle.wire.specs.Kinds.{t_up, t_ctrl, c_checkin, c_report, c_overheard, c_kids}
use Rattle.words.specs.Words.{item_at, heard_of, size_of, payload, byte_at}
use Rattle.words.specs.declared.Item.{Item}
use Rattle.words.specs.declared.Item.TheVariants as item
use Rattle.words.proofs.Read.{byte_in, payload_length}
use Rattle.net.specs.declared.Station.{Station}
use Rattle.queue.specs.Queues.{reported_to}
use Rattle.net.specs.State.{member_at, with_member, with_hears, queue_at, with_queue}
use Rattle.net.specs.Net.{is_member}
use Rattle.net.proofs.Laws.{member_again, queue_again}
use Rattle.frames.specs.declared.Air.{Air}
use Rattle.frames.specs.declared.Frame.{Frame}
use Rattle.frames.specs.Code.Kinds.{Kind, Nothing, Piece, Checkin, Report, Overheard, Kids}
use Rattle.frames.specs.Reading.{Reading, also_said}
use Rattle.frames.specs.Pieces.{piece_frame}
use Rattle.frames.specs.Control.{checkin_frame, report_frame, overheard_frame, kids_frame, forwarded_by, report_member, hear_pairs, report_station, u24}
use Rattle.frames.specs.Frames.{control_by, control_frame, read_frame}
use Rattle.frames.specs.Code.Frames.{frame_in, frame_of, control_byte, byte_kind, control_kind, kind_of, read_by}

-- ### Kinds

module _ (a : Air) (f : Frame) (p : List ℕ) (x : Reading) where
  chosen : (t2 t7 t3 t12 t4 t10 : Bool)
      → cond t2 (cond t7 (also_said x (checkin_frame a f.len p x.station)) x)
      (cond t3 (cond t12 (report_frame a f.len p x) x)
      (cond t4 (also_said x (overheard_frame a f.len p f.slot x.station)) (cond t10 (also_said x (kids_frame a f.len p f.slot x.station)) x)))
      ≡ read_by (cond t2 (cond t7 Checkin Nothing) (cond t3 (cond t12 Report Nothing) (cond t4 Overheard (cond t10 Kids Nothing)))) a f p x
  chosen true true t3 t12 t4 t10 = refl
  chosen true false t3 t12 t4 t10 = refl
  chosen false t7 true true t4 t10 = refl
  chosen false t7 true false t4 t10 = refl
  chosen false t7 false t12 true t10 = refl
  chosen false t7 false t12 false true = refl
  chosen false t7 false t12 false false = refl

  control_by_lem : (b : ℕ) → length p ≡ f.len → (0 < f.len → b ≡ get_or p 0 0)
      → control_frame a f.slot p x ≡ read_by (control_kind f.len b) a f p x
  unfolding control_by
  control_by_lem b e h = rw e (go (eqb f.len 0) refl)
    where
      go : (t : Bool) → eqb f.len 0 ≡ t
          → cond t x (control_by a f.slot (get_or p 0 0) f.len p x)
          ≡ read_by (cond t Nothing (cond (eqb b c_checkin) (cond (leb 7 f.len) Checkin Nothing) (cond (eqb b c_report) (cond (leb 12 f.len) Report Nothing) (cond (eqb b c_overheard) Overheard (cond (eqb b c_kids) Kids Nothing))))) a f p x
      go true q = refl
      go false q =
          let n = eqb-false f.len 0 q in
          rw (← h (omega arith)) (chosen (eqb b c_checkin) (leb 7 f.len) (eqb b c_report) (leb 12 f.len) (eqb b c_overheard) (eqb b c_kids))

  kind_by : (t u : Bool) (k : Kind) (y : Reading) → y ≡ read_by k a f p x
      → cond t (piece_frame a f.slot f.field p x) (cond u y x) ≡ read_by (cond t Piece (cond u k Nothing)) a f p x
  kind_by true u k y e = refl
  kind_by false true k y e = e
  kind_by false false k y e = refl

-- the frame at the head of the words l
pub read_kind : (a : Air) (l : List ℕ) (i : Item) (x : Reading) (f : Frame) → item_at l ≡ i → Some f ≡ frame_of i
    → read_by (kind_of f (byte_at l 0)) a f (payload (drop 2 l) f.len) x ≡ read_frame a (heard_of i l) x
unfolding read_frame frame_of kind_of
read_kind a l item.End x f e q = let z : ◌≡◌ {A = ℕ} 0 1 = cc in absurd (omega arith)
read_kind a l item.Bad x f e q = let z : ◌≡◌ {A = ℕ} 0 1 = cc in absurd (omega arith)
read_kind a l item.Lost x f e q = let z : ◌≡◌ {A = ℕ} 0 1 = cc in absurd (omega arith)
read_kind a l (item.Frame flags field len) x f e q =
    let p = payload (drop 2 l) len in
    let k : f ≡ frame_in flags field len = cc in
    rw k
    (sym (kind_by a (frame_in flags field len) p x (eqb (flags / 64) t_up) (eqb (flags / 64) t_ctrl) (control_kind len (byte_at l 0)) (control_frame a (flags % 64) p x)
    (control_by_lem a (frame_in flags field len) p x (byte_at l 0) (payload_length l flags field len e) (λ h. byte_in l len 0 h))))

pub kind_up : (f : Frame) (b : ℕ) → f.ty ≡ t_up → Piece ≡ kind_of f b
unfolding kind_of
kind_up f b h = simp (eq-eqb _ _ h)

-- of a frame that is no piece the control byte says it
pub kind_byte : (f : Frame) (b : ℕ) {c : ℕ} → (f.ty ≡ t_up → ⊥) → c ≡ control_byte f b → byte_kind f.len c ≡ kind_of f b
unfolding kind_of
kind_byte f b h e = rw (e, ne_eqb _ _ h) (go (eqb f.ty t_ctrl) (eqb f.len 0))
  where
    go : (t u : Bool) → byte_kind f.len (cond (t && not u) b 0) ≡ cond t (cond u Nothing (byte_kind f.len b)) Nothing
    go true true = refl
    go true false = refl
    go false u = refl

-- what each arm knows
module _ (len : ℕ) {b : ℕ} where
  pub is_checkin : b ≡ c_checkin → 7 ≤ len → Checkin ≡ byte_kind len b
  is_checkin e h = simp (e, le-leb _ _ h)

  pub short_checkin : b ≡ c_checkin → len < 7 → Nothing ≡ byte_kind len b
  short_checkin e h = simp (e, lt-leb _ _ h)

  pub is_report_lem : b ≡ c_report → 12 ≤ len → Report ≡ byte_kind len b
  is_report_lem e h = simp (e, le-leb _ _ h)

  pub short_report : b ≡ c_report → len < 12 → Nothing ≡ byte_kind len b
  short_report e h = simp (e, lt-leb _ _ h)

  pub is_overheard : b ≡ c_overheard → Overheard ≡ byte_kind len b
  is_overheard e = simp e

  pub is_kids : b ≡ c_kids → Kids ≡ byte_kind len b
  is_kids e = simp e

  pub is_none : (b ≡ c_checkin → ⊥) → (b ≡ c_report → ⊥) → (b ≡ c_overheard → ⊥) → (b ≡ c_kids → ⊥) → Nothing ≡ byte_kind len b
  is_none c r o k = simp (ne_eqb _ _ c, ne_eqb _ _ r, ne_eqb _ _ o, ne_eqb _ _ k)

-- how many words it takes
pub frame_size : (i : Item) (f : Frame) → Some f ≡ frame_of i → f.size ≡ size_of i
unfolding frame_of
frame_size item.End f q = let z : ◌≡◌ {A = ℕ} 0 1 = cc in absurd (omega arith)
frame_size item.Bad f q = let z : ◌≡◌ {A = ℕ} 0 1 = cc in absurd (omega arith)
frame_size item.Lost f q = let z : ◌≡◌ {A = ℕ} 0 1 = cc in absurd (omega arith)
frame_size (item.Frame flags field len) f q = let k : f ≡ frame_in flags field len = cc in ap (λ (k : Frame). k.size) k

-- ### A report's stores

pub report_whole : (a : Air) (len : ℕ) (p : List ℕ) (slot : ℕ) (s : Station)
    → let here = is_member s.used slot in
    let m = member_at s slot in
    let q = queue_at s slot in
    with_queue (with_hears (with_member s slot (cond here (report_member a (get_or p 2 0) (forwarded_by a here m) m) m)) (cond here (hear_pairs len p slot s.hears) s.hears)) slot (cond here (reported_to q (u24 p 9)) q)
    ≡ report_station a len p slot s
report_whole a len p slot s = go (is_member s.used slot)
  where
    go : (here : Bool)
        → with_queue (with_hears (with_member s slot (cond here (report_member a (get_or p 2 0) (forwarded_by a here (member_at s slot)) (member_at s slot)) (member_at s slot))) (cond here (hear_pairs len p slot s.hears) s.hears)) slot (cond here (reported_to (queue_at s slot) (u24 p 9)) (queue_at s slot))
        ≡ cond here (with_queue (with_hears (with_member s slot (report_member a (get_or p 2 0) (forwarded_by a here (member_at s slot)) (member_at s slot))) (hear_pairs len p slot s.hears)) slot (reported_to (queue_at s slot) (u24 p 9))) s
    go true = refl
    go false = queue_again (with_member s slot (member_at s slot)) slot ∙ member_again s slot
