-- A frame as the code reads it from the words, and what it does by its kind. Nothing here has to be believed: law `read_kind` shows that it is `read_frame`.
use Rattle.std.specs.Prelude.{ℕ, ◌+◌, ◌/◌, ◌%◌, not, cond, ◌&&◌, List, eqb, leb, Option, Some, None}
use Rattle.wire.specs.Kinds.{t_up, t_ctrl, c_checkin, c_report, c_overheard, c_kids}
use Rattle.words.specs.Words.{words_for}
use Rattle.words.specs.declared.Item.{Item}
use Rattle.words.specs.declared.Item.TheVariants as item
use Rattle.frames.specs.declared.Air.{Air}
use Rattle.frames.specs.declared.Frame.{Frame}
use Rattle.frames.specs.Code.Kinds.{Kind, Nothing, Piece, Checkin, Report, Overheard, Kids}
use Rattle.frames.specs.Reading.{Reading, also_said}
use Rattle.frames.specs.Pieces.{piece_frame}
use Rattle.frames.specs.Control.{checkin_frame, report_frame, overheard_frame, kids_frame}

abbrev pub frame_in : ℕ → ℕ → ℕ → Frame
frame_in flags field len = record { ty = flags / 64; slot = flags % 64; field = field; len = len; size = 2 + words_for len }

-- none for a lost one, and where no frame stands
unfoldable pub frame_of : Item → Option Frame
frame_of item.End = None
frame_of item.Bad = None
frame_of item.Lost = None
frame_of (item.Frame flags field len) = Some (frame_in flags field len)

-- b is the payload's first byte; 0 means nothing
abbrev pub control_byte : Frame → ℕ → ℕ
control_byte f b = cond (eqb f.ty t_ctrl && not (eqb f.len 0)) b 0

-- the kind that a control byte says
abbrev pub byte_kind : ℕ → ℕ → Kind
byte_kind len b =
    cond (eqb b c_checkin) (cond (leb 7 len) Checkin Nothing)
    (cond (eqb b c_report) (cond (leb 12 len) Report Nothing)
    (cond (eqb b c_overheard) Overheard
    (cond (eqb b c_kids) Kids Nothing)))

abbrev pub control_kind : ℕ → ℕ → Kind
control_kind len b =
    cond (eqb len 0) Nothing
    (cond (eqb b c_checkin) (cond (leb 7 len) Checkin Nothing)
    (cond (eqb b c_report) (cond (leb 12 len) Report Nothing)
    (cond (eqb b c_overheard) Overheard
    (cond (eqb b c_kids) Kids Nothing))))

unfoldable pub kind_of : Frame → ℕ → Kind
kind_of f b = cond (eqb f.ty t_up) Piece (cond (eqb f.ty t_ctrl) (control_kind f.len b) Nothing)

-- what a frame of each kind does; p is its payload (law `read_kind`)
abbrev pub read_by : Kind → Air → Frame → List ℕ → Reading → Reading
read_by Nothing a f p x = x
read_by Piece a f p x = piece_frame a f.slot f.field p x
read_by Checkin a f p x = also_said x (checkin_frame a f.len p x.station)
read_by Report a f p x = report_frame a f.len p x
read_by Overheard a f p x = also_said x (overheard_frame a f.len p f.slot x.station)
read_by Kids a f p x = also_said x (kids_frame a f.len p f.slot x.station)
