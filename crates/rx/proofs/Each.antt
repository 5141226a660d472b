-- A turn of the loop for each kind of frame: the code's stores are what the frame does. Assumes nothing.
use Rattle.std.specs.Prelude.{Option}
use mathlib.Core.Path.{◌≡◌, refl, sym, ap, ◌∙◌}
use Rattle.std.specs.Prelude.{Some}
use mathlib.Core.Bool.{Bool, true, false, cond}
use mathlib.Core.List.{List, [], append-nil}
use Prim.Native.Nat.{ℕ, ◌*◌, ◌<◌, ◌≤◌}
use native.Mathlib.Omega.{arith}
use lib.ListN.{length, get_or, set, drop}
use lib.Seq.{set-get_or}
use Rattle.words.specs.Words.{item_at, peek_at, byte_at, bytes_at, payload, heard_of}
use Rattle.words.specs.declared.Item.{Item}
use Rattle.words.specs.declared.Item.TheVariants as item
use Rattle.inbox.specs.Sizes.{cell_size}
use Rattle.stream.specs.declared.table.Taken.{Taken}
use Rattle.stream.specs.declared.window.Window.{Window}
use Rattle.stream.specs.Table.{Took, took, place_of, is_lost, no_cell}
use Rattle.out.specs.declared.Output.{Output}
use Rattle.out.specs.Outputs.{Writes}
use Rattle.out.proofs.Laws.{writes_none}
use Rattle.roster.specs.declared.Member.{Member}
use Rattle.roster.specs.Members.{no_member}
use Rattle.queue.specs.declared.Queue.{Queue}
use Rattle.queue.specs.Queues.{empty_queue, reported_to}
use Rattle.net.specs.declared.Station.{Station}
use Rattle.net.specs.declared.Round.{Round}
use Rattle.net.specs.declared.Totals.{Totals}
use Rattle.net.specs.State.{index_of, member_at, with_member, with_members, with_hears, queue_at, with_queue, with_queues}
use Rattle.net.specs.Net.{is_member, Does}
use Rattle.frames.specs.declared.Air.{Air}
use Rattle.frames.specs.declared.Rx.{Rx}
use Rattle.frames.specs.declared.Frame.{Frame}
use Rattle.frames.specs.Code.Kinds.{Kind, Nothing, Piece, Report}
use Rattle.frames.specs.declared.pieces.Piece as piece
use Rattle.frames.specs.Reading.{Reading, also_said}
use Rattle.frames.specs.Code.Reading.{next_rx, report_rx}
use Rattle.frames.specs.Pieces.{piece_frame}
use Rattle.frames.specs.Code.Pieces.{piece_of, taken_of, owner_after, busy_after, landed_after, with_if, member_after, relayer, round_after, totals_after, landed_events, stored_piece, RoomIn}
use Rattle.frames.specs.Control.{payload_in, forwarded_by, is_forwarded, report_member, report_station, report_frame, hear_pairs, is_pending, u24}
use Rattle.frames.specs.Code.Control.{control_says}
use Rattle.frames.specs.Frames.{read_frame}
use Rattle.frames.specs.Code.Frames.{read_by, frame_in, frame_of, kind_of}
use Rattle.frames.proofs.Laws.{bytes_payload, peek_bytes}
use Rattle.frames.proofs.Entries.{did_none}
use Rattle.frames.proofs.ByKind.{read_kind, report_whole}
use Rattle.frames.proofs.Stored.{piece_whole, piece_room, piece_place}
use Rattle.words.proofs.Walk.{left_peek}
use Rattle.rx.proofs.Counts.{control_count}
use Rattle.rx.proofs.Turns.{Going, reading_at, peek_is, goes, rest}

-- the bytes that `take` reads are the frame's payload
bytes_by : (l : List ℕ) (i : Item) (f : Frame) → item_at l ≡ i → peek_at l ≡ item_at l → Some f ≡ frame_of i → bytes_at l f.len ≡ payload (drop 2 l) f.len
unfolding frame_of
bytes_by l item.End f e q p = let z : ◌≡◌ {A = ℕ} 0 1 = cc in absurd (omega arith)
bytes_by l item.Bad f e q p = let z : ◌≡◌ {A = ℕ} 0 1 = cc in absurd (omega arith)
bytes_by l item.Lost f e q p = let z : ◌≡◌ {A = ℕ} 0 1 = cc in absurd (omega arith)
bytes_by l (item.Frame flags field len) f e q p =
    let k : f ≡ frame_in flags field len = cc in
    rw k (bytes_payload l flags field len e (omega (arith, (peek_bytes l flags field len (q ∙ e)).1)))

-- the cell of a piece
pub cell_lt : (w : Window) (here : Bool) (slot field : ℕ) (owners : List ℕ) (busy landed count : ℕ) {c : ℕ} {p : piece.Piece}
    → p ≡ piece_of w here slot field owners busy landed count → c ≡ place_of p.room → c < 64
cell_lt w here slot field owners busy landed count e ec = rw (ec, e) (piece_place w here slot field owners busy landed count)

-- a report moves on nothing
report_word : (x : Rx) (forwarded : Bool) (slot : ℕ) (pending : Bool) {k : Rx} → k ≡ report_rx x forwarded slot pending → (k.word ≡ x.word) × (k.frame ≡ x.frame)
report_word x forwarded slot pending {k} e = at forwarded e
  where
    at : (t : Bool) → k ≡ report_rx x t slot pending → (k.word ≡ x.word) × (k.frame ≡ x.frame)
    at true q = (ap (λ (r : Rx). r.word) q, ap (λ (r : Rx). r.frame) q)
    at false q = (ap (λ (r : Rx). r.word) q, ap (λ (r : Rx). r.frame) q)

-- what a report tells
report_by : (a : Air) (s : Station) (store done seen : List ℕ) (x : Rx) (len : ℕ) (p : List ℕ) (u : Bool) → is_forwarded a s (get_or p 1 0) ≡ u
    → reading_at (report_station a len p (get_or p 1 0) s) store done seen (report_rx x u (get_or p 1 0) (is_pending p)) ≡ report_frame a len p (reading_at s store done seen x)
unfolding report_frame
report_by a s store done seen x len p true e = rw e
report_by a s store done seen x len p false e = rw e

module _ {a : Air} {ws : List ℕ} {n : ℕ} {s₀ : Station} {store₀ : List ℕ} {o₀ : Output} {store : List ℕ} {o : Output} {s : Station} {x : Rx} (g : Going a ws n s₀ store₀ o₀ store o s x) (h : x.frame < n)
    (f : Frame) (ef : Some f ≡ frame_of (peek_at (drop x.word ws))) (kind : Kind) (ek : kind ≡ kind_of f (byte_at (drop x.word ws) 0)) where
  abbrev now : Reading
  now = reading_at s store g.done g.seen x

  abbrev bytes : List ℕ
  bytes = payload_in ws x.word f.len

  -- the store has the piece's cell
  pub room_now : (w : Window) (here : Bool) (slot field : ℕ) (owners : List ℕ) (busy landed : ℕ) {p : piece.Piece}
      → p ≡ piece_of w here slot field owners busy landed s.count → cell_size * s₀.count ≤ length store₀ → RoomIn p.room (length store)
  room_now w here slot field owners busy landed e r =
      let m : cell_size * s.count ≤ length store = omega (arith, g.cells, g.size) in
      rw e (piece_room w here slot field owners busy landed s.count (length store) m)

  -- the frame's effect, by its kind
  reads : read_frame a (heard_of (item_at (rest g h)) (rest g h)) now ≡ read_by kind a f bytes now
  reads = sym (read_kind a (rest g h) (item_at (rest g h)) now f refl (ef ∙ peek_is g h)) ∙ rw ek

  -- ### A turn of each

  pub turn_other : read_by kind a f bytes now ≡ also_said now (control_says kind a f.slot f.len bytes s)
      → {s' : Station} {o' : Output} {x' : Rx}
      → Does (control_says kind a f.slot f.len bytes s) s' o o'
      → x' ≡ next_rx x f
      → Going a ws n s₀ store₀ o₀ store o' s' x'
  turn_other e {s'} d p =
      goes g h f (control_says kind a f.slot f.len bytes s).words ef
      (rw d.station (sym (reads ∙ e)))
      refl refl d.wrote (ap (λ (t : Station). t.count) d.station ∙ control_count kind a f.slot f.len bytes s) refl p

  pub turn_report : kind ≡ Report
      → {slot i q : ℕ} {here forwarded pending : Bool} {k : Member} {hears : List ℕ} {d : Queue} {x₁ x' : Rx}
      → slot ≡ get_or bytes 1 0 → here ≡ is_member s.used slot → i ≡ index_of slot
      → forwarded ≡ forwarded_by a here (get_or s.members i no_member) → q ≡ get_or bytes 2 0
      → k ≡ cond here (report_member a q forwarded (get_or s.members i no_member)) (get_or s.members i no_member)
      → hears ≡ cond here (hear_pairs f.len bytes slot s.hears) s.hears
      → d ≡ cond here (reported_to (get_or s.queues i empty_queue) (u24 bytes 9)) (get_or s.queues i empty_queue) → pending ≡ is_pending bytes
      → x₁ ≡ report_rx x forwarded slot pending → x₁.word ≡ x.word → x₁.frame ≡ x.frame → x' ≡ next_rx x₁ f
      → Going a ws n s₀ store₀ o₀ store o (with_queues (with_hears (with_members s (set s.members i k)) hears) (set s.queues i d)) x'
  turn_report is {slot} {i} {q} {here} {forwarded} {pending} {k} {hears} {d} {x₁} {x'} es eh ei ew eq em er ed ep e1 pw pf p =
      goes g h f [] ef
      (rw (append-nil, e1, ed, er, em, ep, ew, ei, eq, eh, es) (told ∙ sym (rw is at reads)))
      pw pf (writes_none o) refl refl p
    where
      told : reading_at (with_queue (with_hears (with_member s (get_or bytes 1 0) (cond (is_member s.used (get_or bytes 1 0)) (report_member a (get_or bytes 2 0) (is_forwarded a s (get_or bytes 1 0)) (member_at s (get_or bytes 1 0))) (member_at s (get_or bytes 1 0)))) (cond (is_member s.used (get_or bytes 1 0)) (hear_pairs f.len bytes (get_or bytes 1 0) s.hears) s.hears))
          (get_or bytes 1 0) (cond (is_member s.used (get_or bytes 1 0)) (reported_to (queue_at s (get_or bytes 1 0)) (u24 bytes 9)) (queue_at s (get_or bytes 1 0)))) store g.done g.seen (report_rx x (is_forwarded a s (get_or bytes 1 0)) (get_or bytes 1 0) (is_pending bytes))
          ≡ report_frame a f.len bytes now
      told =
          ap (λ (t : Station). reading_at t store g.done g.seen (report_rx x (is_forwarded a s (get_or bytes 1 0)) (get_or bytes 1 0) (is_pending bytes))) (report_whole a f.len bytes (get_or bytes 1 0) s)
          ∙ report_by a s store g.done g.seen x f.len bytes (is_forwarded a s (get_or bytes 1 0)) refl

  same_bytes : bytes_at (drop x.word ws) f.len ≡ bytes
  same_bytes = bytes_by (rest g h) (item_at (rest g h)) f refl (left_peek (g.left h)) (ef ∙ peek_is g h)

  stored_is : {i c : ℕ} {here : Bool} {p : piece.Piece} {d : Taken} {store' : List ℕ}
      → i ≡ index_of f.slot → here ≡ is_member s.used f.slot
      → p ≡ piece_of (get_or s.members i no_member).up here f.slot f.field s.owners s.busy s.landed s.count
      → c ≡ place_of p.room
      → took d store' ≡ taken_of p (get_or s.cells c no_cell) (bytes_at (drop x.word ws) f.len) store
      → stored_piece a f.slot p (took d store') now ≡ piece_frame a f.slot f.field bytes now
  stored_is {i} {c} {here} {p} {d} {store'} ei eh ep ec et =
      let same : p ≡ piece_of (member_at s f.slot).up (is_member s.used f.slot) f.slot f.field s.owners s.busy s.landed s.count = ep ∙ (rw (ei, eh)) in
      let taken : took d store' ≡ taken_of p (get_or s.cells (place_of p.room) no_cell) bytes store = et ∙ (rw (ec, same_bytes)) in
      ap (λ (k : Took). stored_piece a f.slot p k now) taken
      ∙ ap (λ (r : piece.Piece). stored_piece a f.slot r (taken_of r (get_or s.cells (place_of r.room) no_cell) bytes store) now) same
      ∙ piece_whole a f.slot f.field bytes now

  pub turn_piece : kind ≡ Piece
      → {i c unkept busy landed owner : ℕ} {here : Bool} {p : piece.Piece} {d : Taken} {via : Option ℕ} {store' : List ℕ} {o' : Output} {k : Member} {q : Round} {u : Totals} {x' : Rx}
      → i ≡ index_of f.slot → here ≡ is_member s.used f.slot
      → p ≡ piece_of (get_or s.members i no_member).up here f.slot f.field s.owners s.busy s.landed s.count
      → c ≡ place_of p.room
      → took d store' ≡ taken_of p (get_or s.cells c no_cell) (bytes_at (drop x.word ws) f.len) store
      → owner ≡ owner_after (get_or s.owners c 0) d p
      → busy ≡ busy_after s.busy d p c → landed ≡ landed_after s.landed d p c
      → k ≡ member_after (get_or s.members i no_member) d p a → via ≡ relayer d p a s.used
      → q ≡ round_after s.round d via → u ≡ totals_after s.totals via
      → Writes o (landed_events d p c via) o'
      → unkept ≡ with_if x.unkept (is_lost d.kept) x.frame
      → length store' ≡ length store
      → x' ≡ next_rx (record { word = x.word; frame = x.frame; sender = x.sender; more = x.more; heard = x.heard; unkept = unkept }) f
      → Going a ws n s₀ store₀ o₀ store' o'
      (record { settings = s.settings; wait = s.wait; round = q; totals = u; used = s.used; busy = busy; landed = landed; count = s.count; members = set s.members i k; recent = s.recent; queues = s.queues; hears = s.hears; owners = set s.owners c owner; cells = set s.cells c d.cell })
      x'
  turn_piece is {i} {c} {unkept} {busy} {landed} {owner} {here} {p} {d} {via} {store'} ei eh ep ec et eo eb el ek' er eq eu w en es ex =
      goes g h f (landed_events d p c via) ef
      (rw (eq, eu, er, ek', eb, el, eo, en, ec, ei) (stored_is ei eh ep ec et ∙ sym (rw is at reads)))
      refl refl w refl es ex

-- ### After the control byte's arms

module _ {a : Air} {ws : List ℕ} {n : ℕ} {s₀ : Station} {store₀ : List ℕ} {o₀ : Output} {store : List ℕ} {o : Output} {s : Station} {x : Rx} (g : Going a ws n s₀ store₀ o₀ store o s x) (h : x.frame < n)
    (f : Frame) (ef : Some f ≡ frame_of (peek_at (drop x.word ws))) where
  -- an arm left the station s', the output o' and the running values x₁: with the next frame the loop goes on
  pub record Went (s' : Station) (o' : Output) (x₁ : Rx) : Type 0 where
    pub word : x₁.word ≡ x.word
    pub frame : x₁.frame ≡ x.frame
    pub on : {x' : Rx} → x' ≡ next_rx x₁ f
        → Going a ws n s₀ store₀ o₀ store o' s' x'

  module _ (kind : Kind) (ek : kind ≡ kind_of f (byte_at (drop x.word ws) 0)) where
    abbrev reading : Reading
    reading = reading_at s store g.done g.seen x

    abbrev payloads : List ℕ
    payloads = payload_in ws x.word f.len

    pub went_said : read_by kind a f payloads reading ≡ also_said reading (control_says kind a f.slot f.len payloads s)
        → {s' : Station} {o' : Output} → Does (control_says kind a f.slot f.len payloads s) s' o o' → Went s' o' x
    went_said e d = record { word = refl; frame = refl; on = λ p. turn_other g h f ef kind ek e d p }

  pub went_none : Nothing ≡ kind_of f (byte_at (drop x.word ws) 0) → Went s o x
  went_none ek = went_said Nothing ek (rw append-nil) (did_none s o)

  pub went_report : Report ≡ kind_of f (byte_at (drop x.word ws) 0)
      → {slot i q : ℕ} {here forwarded pending : Bool} {k : Member} {hears : List ℕ} {d : Queue} {x₁ : Rx}
      → slot ≡ get_or (payload_in ws x.word f.len) 1 0 → here ≡ is_member s.used slot → i ≡ index_of slot
      → forwarded ≡ forwarded_by a here (get_or s.members i no_member) → q ≡ get_or (payload_in ws x.word f.len) 2 0
      → k ≡ cond here (report_member a q forwarded (get_or s.members i no_member)) (get_or s.members i no_member)
      → hears ≡ cond here (hear_pairs f.len (payload_in ws x.word f.len) slot s.hears) s.hears
      → d ≡ cond here (reported_to (get_or s.queues i empty_queue) (u24 (payload_in ws x.word f.len) 9)) (get_or s.queues i empty_queue) → pending ≡ is_pending (payload_in ws x.word f.len)
      → x₁ ≡ report_rx x forwarded slot pending
      → Went (with_queues (with_hears (with_members s (set s.members i k)) hears) (set s.queues i d)) o x₁
  went_report ek {slot} {forwarded = forwarded} {pending = pending} es eh ei ew eq em er ed ep e1 =
      let r = report_word x forwarded slot pending e1 in
      record {
        word = r.0;
        frame = r.1;
        on = λ p. turn_report g h f ef Report ek refl es eh ei ew eq em er ed ep e1 r.0 r.1 p;
      }

  -- a report of nobody's
  pub went_stranger : Report ≡ kind_of f (byte_at (drop x.word ws) 0)
      → {slot i : ℕ} {here forwarded pending : Bool} {x₁ : Rx}
      → slot ≡ get_or (payload_in ws x.word f.len) 1 0 → here ≡ is_member s.used slot → here ≡ false → i ≡ index_of slot
      → forwarded ≡ forwarded_by a here (get_or s.members i no_member) → pending ≡ is_pending (payload_in ws x.word f.len)
      → x₁ ≡ report_rx x forwarded slot pending
      → Went s o x₁
  went_stranger ek {i = i} es eh e ei ew ep e1 =
      rw (set-get_or s.members i no_member, set-get_or s.queues i empty_queue) at
      (went_report ek {k = get_or s.members i no_member} {hears = s.hears} {d = get_or s.queues i empty_queue} es eh ei ew refl (rw e) (rw e) (rw e) ep e1)
