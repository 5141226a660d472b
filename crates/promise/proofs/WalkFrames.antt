-- What reading a frame comes to, of cells, store, windows and events 2: it leaves them alone, or a boat's piece is offered to its cell, and is kept, or not, or its number
-- is barred. A property of these is proved by these four clauses, and holds then of every frame and of every reception. Assumes nothing.
use Rattle.std.specs.Prelude.{is_some}
use mathlib.Core.Path.{◌≡◌, refl, ap, ◌∙◌, subst}
use mathlib.Core.Bool.{Bool, true, false, cond, ◌&&◌}
use mathlib.Core.List.{List, [], ◌∷◌, ◌++◌}
use Prim.Native.Nat.{ℕ, ◌/◌, ◌%◌, ◌<◌}
use native.Mathlib.Omega.{arith}
use lib.ListN.{length, get_or}
use lib.Dec.{eqb}
use lib.Ieee.{Float}
use Rattle.bits.specs.Mask.{with_bit}
use Rattle.bits.proofs.Lists.{cond_keeps, cond_true}
use Rattle.wire.specs.Kinds.{tiny, k_idle, t_up, t_ctrl}
use Rattle.words.specs.Words.{Heard, lost, heard, Burst, parsed}
use Rattle.stream.specs.declared.window.Window.{Window}
use Rattle.stream.specs.Window.{fresh_of}
use Rattle.stream.specs.Table.{Table, Accepted, accept}
use Rattle.stream.proofs.Tables.{Tidy, place_in}
use Rattle.stream.proofs.Accepts.{accept_cases}
use Rattle.net.specs.declared.Station.{Station}
use Rattle.net.specs.State.{member_at, table_of, with_wait}
use Rattle.net.specs.Net.{is_member}
use Rattle.frames.specs.declared.Air.{Air}
use Rattle.frames.specs.Reading.{Reading}
use Rattle.frames.specs.Pieces.{piece_events, unkept_at, barred_piece, kept_piece, taken_piece, piece_frame}
use Rattle.frames.specs.Frames.{read_frame, control_frame, frame_step, read_frames}
use Rattle.rx.specs.Ending.{busy_wait, idle_end, reply_end, nothing_more, Ended}
use Rattle.rx.specs.Reception.{Received, air_of, first_reading, received_of, ncs_rx}
use Rattle.promise.specs.Promise.{is_boats, frames_by, Event2, events_in}
use Rattle.promise.proofs.Ties.{View}
use Rattle.promise.proofs.Pieces.{also_one, view_after, view_barred, event_for}
use Rattle.promise.proofs.Quiet.{window_at, kept_self, view_of, kept_view}
use Rattle.promise.proofs.Events.{events_none, events_append, append_quiet}
use Rattle.promise.proofs.QuietRx.{Untouched, untouched, control_untouched, QuietEnd, idle_kept, reply_kept}
use Rattle.promise.proofs.Readings.{piece_view, piece_long, barred_view, barred_long, piece_events_lem}

-- cells, store and windows of a reading
abbrev pub view_in : Reading → View
view_in x = view_of x.station x.store

-- what the piece in a frame comes to
abbrev pub offered_in : Reading → ℕ → ℕ → List ℕ → Accepted
offered_in x flags field p = accept (table_of x.station) (window_at x.station (flags % 64)) x.store (flags % 64) field p

-- a boat's piece, of a frame
abbrev pub is_piece : Heard → ℕ → Bool
is_piece lost used = false
is_piece (heard flags field p) used = is_boats flags used

-- from x to y: the view is v then, these events 2 are new, and m is the mask; the roster stays as long
pub record Seen (x y : Reading) (v : View) (es : List Event2) (m : ℕ) : Type 0 where
  pub view : view_in y ≡ v
  pub events : events_in y.words ≡ events_in x.words ++ es
  pub long : length y.station.members ≡ 62
  pub mask : y.unkept ≡ m

pub data FrameRead (x y : Reading) : Heard → Type 0 where
  other : {h : Heard} → is_piece h x.station.used ≡ false → Seen x y (view_in x) [] x.unkept → FrameRead x y h
  unkept : (flags field : ℕ) (p : List ℕ) → is_boats flags x.station.used ≡ true → (offered_in x flags field p).lost ≡ true → (offered_in x flags field p).bars ≡ false
      → Seen x y (view_in x) [] (with_bit x.unkept x.frame) → FrameRead x y (heard flags field p)
  barred : (flags field : ℕ) (p : List ℕ) → is_boats flags x.station.used ≡ true → (offered_in x flags field p).bars ≡ true
      → Seen x y (view_barred (view_in x) (flags % 64) (offered_in x flags field p)) [] (with_bit x.unkept x.frame)
      → FrameRead x y (heard flags field p)
  piece : (flags field : ℕ) (p : List ℕ) → is_boats flags x.station.used ≡ true → (offered_in x flags field p).lost ≡ false
      → Seen x y (view_after (view_in x) (flags % 64) (offered_in x flags field p)) (also_one (event_for (flags % 64) (offered_in x flags field p)) []) x.unkept
      → FrameRead x y (heard flags field p)

-- a landed message's cell is one of 64
landed_fit : (t : Table) (w : Window) (store : List ℕ) (slot field : ℕ) (p : List ℕ) → Tidy t store
    → is_some (accept t w store slot field p).landed ≡ true → (accept t w store slot field p).cell < 64
landed_fit t w store slot field p tidy =
    accept_cases t w store slot field p (λ x. is_some x.landed ≡ true → x.cell < 64)
    (λ e h. omega arith) (λ k e g h. omega arith) (λ k o a q c z h. (place_in t store tidy slot k).0) (λ k o q h. (place_in t store tidy slot k).0) (λ k o q h. (place_in t store tidy slot k).0)

module _ (a : Air) (x : Reading) (tidy : Tidy (table_of x.station) x.store) (long : length x.station.members ≡ 62) where
  untouched_seen : (y : Reading) → Untouched x y → Seen x y (view_in x) [] x.unkept
  untouched_seen y u =
      record { view = ap (view_of y.station) u.store ∙ kept_view x.station y.station x.store u.station; events = u.events; long = u.station.long ∙ long; mask = u.unkept }

  module _ (flags field : ℕ) (p : List ℕ) (boat : is_boats flags x.station.used ≡ true) (here : is_member x.station.used (flags % 64) ≡ true) where
    window_here : window_at x.station (flags % 64) ≡ (member_at x.station (flags % 64)).up
    window_here = cond_true (is_member x.station.used (flags % 64)) (member_at x.station (flags % 64)).up fresh_of here

    kept_seen : (r : Accepted) → (is_some r.landed ≡ true → r.cell < 64)
        → Seen x (kept_piece a (flags % 64) r x) (view_after (view_in x) (flags % 64) r) (also_one (event_for (flags % 64) r) []) x.unkept
    kept_seen r fit =
        record {
          view = piece_view a (flags % 64) r x here long;
          events = events_append x.words (piece_events a x.station (flags % 64) r)
              ∙ ap (λ (es : List Event2). events_in x.words ++ es) (piece_events_lem a x.station (flags % 64) r (omega arith) fit);
          long = piece_long a (flags % 64) r x here long;
          mask = refl;
        }

    taken_read : FrameRead x (taken_piece a (flags % 64) (accept (table_of x.station) (member_at x.station (flags % 64)).up x.store (flags % 64) field p) x) (heard flags field p)
    taken_read =
        subst (λ (w : Window). FrameRead x (taken_piece a (flags % 64) (accept (table_of x.station) w x.store (flags % 64) field p) x) (heard flags field p)) window_here by_view
      where
        r : Accepted
        r = offered_in x flags field p

        by_view : FrameRead x (taken_piece a (flags % 64) r x) (heard flags field p)
        by_view =
            cond_keeps (λ (y : Reading). FrameRead x y (heard flags field p)) r.lost (unkept_at (cond r.bars (barred_piece (flags % 64) r x) x)) (kept_piece a (flags % 64) r x)
            (λ q. cond_keeps (λ (y : Reading). FrameRead x (unkept_at y) (heard flags field p)) r.bars (barred_piece (flags % 64) r x) x
            (λ z. barred flags field p boat z (record { view = barred_view (flags % 64) r x here long; events = (untouched x).events; long = barred_long (flags % 64) r x here long; mask = refl }))
            (λ z. unkept flags field p boat q z (record { view = refl; events = (untouched x).events; long = long; mask = refl })))
            (λ q. piece flags field p boat q (kept_seen r (landed_fit (table_of x.station) (window_at x.station (flags % 64)) x.store (flags % 64) field p tidy)))

  frame_read : (h : Heard) → FrameRead x (read_frame a h x) h
  unfolding read_frame piece_frame
  frame_read lost = other refl (untouched_seen x (untouched x))
  frame_read (heard flags field p) = go (eqb (flags / 64) t_up) refl (is_member x.station.used (flags % 64)) refl
    where
      control : Untouched x (cond (eqb (flags / 64) t_ctrl) (control_frame a (flags % 64) p x) x)
      control =
          cond_keeps (Untouched x) (eqb (flags / 64) t_ctrl) _ x
          (λ _. cond_keeps (Untouched x) (eqb (length p) 0) x _ (λ _. untouched x) (λ _. control_untouched a (flags % 64) (get_or p 0 0) (length p) p x)) (λ _. untouched x)

      taken : Reading
      taken = taken_piece a (flags % 64) (accept (table_of x.station) (member_at x.station (flags % 64)).up x.store (flags % 64) field p) x

      go : (up : Bool) → eqb (flags / 64) t_up ≡ up → (member : Bool) → is_member x.station.used (flags % 64) ≡ member
          → FrameRead x (cond up (cond member taken x) (cond (eqb (flags / 64) t_ctrl) (control_frame a (flags % 64) p x) x)) (heard flags field p)
      go true e true m = taken_read flags field p (ap (λ (t : Bool). t && is_member x.station.used (flags % 64)) e ∙ m) m
      go true e false m = other (ap (λ (t : Bool). t && is_member x.station.used (flags % 64)) e ∙ m) (untouched_seen x (untouched x))
      go false e member m = other (ap (λ (t : Bool). t && is_member x.station.used (flags % 64)) e) (untouched_seen _ control)

  -- the same, on to the next frame
  next_seen : (y z : Reading) (v : View) (es : List Event2) (m : ℕ) → view_in z ≡ view_in y → z.words ≡ y.words → z.station ≡ y.station → z.unkept ≡ y.unkept → Seen x y v es m → Seen x z v es m
  next_seen y z v es m p w t u s =
      record { view = p ∙ s.view; events = ap events_in w ∙ s.events; long = ap (λ (q : Station). length q.members) t ∙ s.long; mask = u ∙ s.mask }

  again : (y z : Reading) (h : Heard) → view_in z ≡ view_in y → z.words ≡ y.words → z.station ≡ y.station → z.unkept ≡ y.unkept → FrameRead x y h → FrameRead x z h
  again y z h p w t u (other q s) = other q (next_seen y z _ _ _ p w t u s)
  again y z h p w t u (unkept flags field c b q n s) = unkept flags field c b q n (next_seen y z _ _ _ p w t u s)
  again y z h p w t u (barred flags field c b q s) = barred flags field c b q (next_seen y z _ _ _ p w t u s)
  again y z h p w t u (piece flags field c b q s) = piece flags field c b q (next_seen y z _ _ _ p w t u s)

  pub step_reads : (h : Heard) → FrameRead x (frame_step a h x) h
  unfolding frame_step
  step_reads h = again (read_frame a h x) _ h refl refl refl refl (frame_read h)

-- ---- a reception

-- before its first frame
abbrev pub first_in : Station → Burst → Float → List ℕ → Reading
first_in s u now store = first_reading (with_wait s (busy_wait s.wait u.head s.settings now)) store

-- behind its last: a tiny burst has none that is read for content
abbrev pub last_in : Station → Burst → Float → Float → List ℕ → Reading
last_in s u snr now store = read_frames (air_of s u.head snr now) (frames_by (parsed u)) (first_in s u now store)

-- its end leaves cells, store and windows alone, returns no event 2, and the mask and the members seen are those of the frames
pub record RxEnd (y : Reading) (r : Received) : Type 0 where
  pub view : view_of r.station r.store ≡ view_in y
  pub events : events_in r.words ≡ events_in y.words ++ []
  pub long : length r.station.members ≡ length y.station.members
  pub seen : r.seen ≡ y.seen
  pub mask : r.unkept ≡ y.unkept

ended : (y : Reading) (d : Ended) → QuietEnd y.station d → RxEnd y (received_of y d)
ended y d k =
    record {
      view = kept_view y.station d.station y.store k.0;
      events = append_quiet y.words d.burst (events_in y.words) refl k.1;
      long = k.0.long;
      seen = refl;
      mask = refl;
    }

pub rx_end : (s : Station) (u : Burst) (snr now : Float) (store : List ℕ) → RxEnd (last_in s u snr now store) (ncs_rx s u snr now store)
unfolding ncs_rx read_frames
rx_end s u snr now store = go (eqb u.head.code tiny)
  where
    air : Air
    air = air_of s u.head snr now

    x : Reading
    x = first_in s u now store

    go : (t : Bool)
        → RxEnd (read_frames air (cond t [] u.frames) x)
        (cond t (received_of x (cond (eqb u.head.hi k_idle) (idle_end air u.head.extra x.station) (nothing_more x.station))) (received_of (read_frames air u.frames x) (reply_end air u.head (read_frames air u.frames x))))
    go true =
        ended x _ (cond_keeps (QuietEnd x.station) (eqb u.head.hi k_idle) _ _ (λ _. idle_kept air u.head.extra x.station) (λ _. (kept_self x.station, events_none)))
    go false = ended _ _ (reply_kept air u.head _)
