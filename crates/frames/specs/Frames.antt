-- `ncs_rx` of ncs.rs, the frames: what each does to the station, the store, the events and the running values of a reception.
use Rattle.std.specs.Prelude.{ℕ, ◌+◌, ◌/◌, ◌%◌, Bool, true, false, not, cond, ◌&&◌, List, [], ◌∷◌, ◌++◌, eqb, leb, length, get_or}
use Rattle.bits.specs.Mask.{has_bit, with_bit}
use Rattle.wire.specs.Kinds.{t_up, t_ctrl, c_checkin, c_report, c_overheard, c_kids}
use Rattle.words.specs.Words.{Heard, lost, heard}
use Rattle.frames.specs.declared.Air.{Air}
use Rattle.frames.specs.Reading.{Reading, also_said}
use Rattle.frames.specs.Pieces.{piece_frame}
use Rattle.frames.specs.Control.{checkin_frame, report_frame, overheard_frame, kids_frame}

-- the first byte of a control frame decides its meaning; bytes not listed do nothing. A check-in has 7 bytes or more, a report 12
unfoldable pub control_by : Air → ℕ → ℕ → ℕ → List ℕ → Reading → Reading
control_by a slot b len p x =
    cond (eqb b c_checkin) (cond (leb 7 len) (also_said x (checkin_frame a len p x.station)) x)
    (cond (eqb b c_report) (cond (leb 12 len) (report_frame a len p x) x)
    (cond (eqb b c_overheard) (also_said x (overheard_frame a len p slot x.station))
    (cond (eqb b c_kids) (also_said x (kids_frame a len p slot x.station)) x)))

abbrev pub control_frame : Air → ℕ → List ℕ → Reading → Reading
control_frame a slot p x = cond (eqb (length p) 0) x (control_by a slot (get_or p 0 0) (length p) p x)

-- the top two bits of the flags are the type, the low six a slot
unfoldable pub read_frame : Air → Heard → Reading → Reading
read_frame a lost x = x
read_frame a (heard flags field p) x =
    cond (eqb (flags / 64) t_up) (piece_frame a (flags % 64) field p x) (cond (eqb (flags / 64) t_ctrl) (control_frame a (flags % 64) p x) x)

abbrev pub is_there : Heard → Bool
is_there lost = false
is_there (heard flags field p) = true

-- on to the next frame: a lost one, or a piece not kept, is not heard
abbrev pub next_frame : Bool → ℕ → Reading → Reading
next_frame there used x =
    record {
      station = x.station;
      store = x.store;
      words = x.words;
      frame = x.frame + 1;
      heard = cond (there && not (has_bit x.unkept x.frame)) (with_bit x.heard x.frame) x.heard;
      unkept = x.unkept;
      sender = x.sender;
      more = x.more;
      seen = x.seen ++ (used ∷ []);
    }

unfoldable pub frame_step : Air → Heard → Reading → Reading
frame_step a f x = next_frame (is_there f) x.station.used (read_frame a f x)

unfoldable pub read_frames : Air → List Heard → Reading → Reading
read_frames a [] x = x
read_frames a (f ∷ fs) x = read_frames a fs (frame_step a f x)
