-- What the words of an open command ask of the station: the frame that they are, and the call that it makes. Words that make none are refused by 3, and the
-- station stays as it is.
use Rattle.std.specs.Prelude.{ℕ, ◌+◌, ◌*◌, ◌%◌, ◌==◌, ◌<◌, Bool, cond, ◌&&◌, ◌||◌, List, [], ◌∷◌, length, take, nat_lt, min, Float, Option, None, Some}
use Rattle.words.specs.declared.Item.{Item}
use Rattle.words.specs.declared.Item.TheVariants.{End, Bad, Lost, Frame}
use Rattle.words.specs.Words.{item_at, words_for, payload_at, five_at}
use Rattle.net.specs.declared.Station.{Station}
use Rattle.station.specs.Entries.{Outcome, refused, start_of, admit_of, receive_of, read_refusal, reading_of}
use Rattle.script.specs.declared.action.Command.{Command}
use Rattle.script.specs.declared.action.Command.TheVariants.{Receive, Admit, Start, Clock, Durations, Payloads, Post, Dues}
use Rattle.script.specs.declared.action.Command.TheVariants as C
use Rattle.script.specs.declared.action.Control.{Control}
use Rattle.script.specs.Actions.{number_of, rest_of}
use Rattle.script.specs.Settings.{has_nan, given_at, lent_cells}
use Rattle.driver.specs.declared.memory.Memory.{Memory}
use Rattle.driver.specs.Kept.{kept}
use Rattle.driver.specs.Lines.{word_line, message_line}

-- ---- the frame that the words are

-- the flags, the field and the length of an item, where it takes `size` words
abbrev pub one_frame : ℕ → Item → Option (ℕ × ℕ × ℕ)
one_frame size End = None
one_frame size Bad = None
one_frame size Lost = None
one_frame size (Frame flags field len) = cond (2 + words_for len == size) (Some (flags, field, len)) None

abbrev pub only_frame : List ℕ → Option (ℕ × ℕ × ℕ)
only_frame words = one_frame (length words) (item_at words)

-- how long the payload of a command's frame is
abbrev pub length_ok : Command → ℕ → Bool
length_ok Receive len = len == 4
length_ok Admit len = len == 5
length_ok Start len = len == 182 || len == 199
length_ok Clock len = len == 8
length_ok C.Level len = len == 4
length_ok Durations len = len == 4
length_ok Payloads len = len == 17
length_ok Post len = len == 4
length_ok Dues len = len == 4

-- only an admission has flags
abbrev pub flags_in : Command → Option (ℕ × ℕ × ℕ) → Option ℕ
flags_in k None = None
flags_in k (Some (flags, field, len)) = cond ((flags == 0 || number_of k == 3) && field == 0 && length_ok k len) (Some flags) None

-- the flags of a command's one frame
abbrev pub flags_of : Command → List ℕ → Option ℕ
flags_of k words = flags_in k (only_frame words)

-- ---- the calls

-- how many bytes the cells are, of those that there are
abbrev pub store_of : ℕ → ℕ → ℕ
store_of cells have = cond (nat_lt 64 cells) have (min (6400 * cells) have)

abbrev pub lent : Control → List ℕ → List ℕ
lent c store = take (store_of c.cells (length store)) store

-- a reception
abbrev pub received : Station → Control → Memory → Outcome
received s c m = receive_of s (kept m.words) c.level c.now (lent c m.store) (length m.out)

abbrev pub admit_by : Station → Control → List ℕ → ℕ → Option ℕ → Outcome
admit_by s c words room None = refused 3 s []
admit_by s c words room (Some flags) = admit_of s (five_at words 0) (flags % 256) c.now room

-- a direct admission
abbrev pub admitted : Station → Control → List ℕ → ℕ → Outcome
admitted s c words room = admit_by s c words room (flags_of Admit words)

abbrev pub started_by : Station → Memory → List ℕ → Option ℕ → Outcome
started_by s m p None = refused 3 s []
started_by s m p (Some flags) =
    cond (has_nan p) (refused 3 s []) (start_of s (given_at p m.times m.payloads) (take (store_of (lent_cells p) 409600) m.store))

-- a fresh start, of settings with no NaN among them; the store has 409,600 bytes
abbrev pub started : Station → Memory → Outcome
started s m = started_by s m (payload_at (kept m.words) 199) (flags_of Start (kept m.words))

-- ---- what is printed of a landed message: its bytes, or the refusal's number
abbrev pub reading_lines : Station → Control → ℕ → List ℕ → List (List ℕ)
reading_lines s c w store =
    let refusal = read_refusal (length (lent c store)) s.count s.landed (rest_of w) in
    cond (refusal == 0) (message_line (reading_of s (lent c store) (rest_of w)) ∷ []) (word_line refusal ∷ [])
