-- A reception as the code takes it: head and number of frames apart. Nothing here has to be believed: the proofs show that it is `rx_of`.
use Rattle.std.specs.Prelude.{ℕ, Bool, cond, List, [], eqb, ltb, length, get_or}
use Rattle.wire.specs.Kinds.{tiny}
use Rattle.words.specs.Words.{Heard, Burst, Parsed, malformed, parsed, parse, head_of}
use Rattle.words.specs.declared.Head.{Head}
use Rattle.net.specs.declared.Station.{Station}
use Rattle.frames.specs.declared.Air.{Air}
use Rattle.frames.specs.Reading.{Reading}
use Rattle.frames.specs.Frames.{read_frames}
use Rattle.rx.specs.Ending.{end_of}
use Rattle.rx.specs.Reception.{Received, first_reading, received_of}

-- a head that says nothing stands for that of a refused burst
abbrev pub quiet_head : Head
quiet_head = head_of 0x87c00000

abbrev pub head_for : Bool → List ℕ → Head
head_for ok words = cond ok (cond (ltb 0 (length words)) (head_of (get_or words 0 0)) quiet_head) quiet_head

abbrev pub many_of : Head → ℕ → ℕ
many_of h n = cond (eqb h.code tiny) 0 n

abbrev pub frames_in : Parsed Burst → List Heard
frames_in malformed = []
frames_in (parsed b) = b.frames

-- the n frames that are read of the words
unfoldable pub frames_read : ℕ → List ℕ → List Heard
frames_read n words = cond (eqb n 0) [] (frames_in (parse words))

abbrev pub ended_of : Air → Head → Reading → Received
ended_of a h x = received_of x (end_of a h x)

unfoldable pub burst_read : Air → Head → ℕ → List ℕ → Station → List ℕ → Received
burst_read a h n words s store = ended_of a h (read_frames a (frames_read n words) (first_reading s store))
