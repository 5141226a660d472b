-- What each word of a tape or a script asks for (docs/WORDS.md).
use Rattle.std.specs.Prelude.{Bool, true, false, not, cond, ◌&&◌, ◌||◌, ℕ, ◌/◌, ◌%◌, pos, eqb, ltb, leb, Float, Option, None, Some}
use Rattle.std.specs.Float.{binary32, binary64}
use Rattle.std.specs.Float.Ieee.{of_bits, of_int, sub, div}
use Rattle.level.specs.Consts.{zero_time}
use Rattle.script.specs.declared.action.Command.{Command}
use Rattle.script.specs.declared.action.Command.TheVariants.{Receive, Admit, Start, Clock, Durations, Payloads, Post, Dues}
use Rattle.script.specs.declared.action.Command.TheVariants as C
use Rattle.script.specs.declared.action.Control.{Control}
use Rattle.script.specs.declared.action.Action.{Action}
use Rattle.script.specs.declared.action.Action.TheVariants.{Push, Bad, Time, Level, Open, Next, Sent, Close, Read, Free, Roster, SignOff, Ask, Fill}

-- kind 7, 14 or 15
abbrev pub is_end : ℕ → Bool
is_end w = eqb (w / 268435456) 7 || eqb (w / 268435456) 14 || eqb (w / 268435456) 15

-- the number of a command whose words follow
abbrev pub number_of : Command → ℕ
number_of Receive = 2
number_of Admit = 3
number_of Start = 8
number_of Clock = 9
number_of C.Level = 10
number_of Durations = 11
number_of Payloads = 12
number_of Post = 13
number_of Dues = 15

-- that of the open command, 0 for none
abbrev pub number : Option Command → ℕ
number None = 0
number (Some k) = number_of k

-- such a word ends the command that is open: any, a reception, a clock, a level or settings of data bursts, a posting, the panel's dues
abbrev pub ends_open : ℕ → Control → Bool
ends_open w c = is_end w && not (eqb (number c.command) 0)

abbrev pub ends_burst : ℕ → Control → Bool
ends_burst w c = is_end w && eqb (number c.command) 2

abbrev pub ends_setting : ℕ → Control → Bool
ends_setting w c = is_end w && leb 9 (number c.command) && leb (number c.command) 12

abbrev pub ends_post : ℕ → Control → Bool
ends_post w c = is_end w && eqb (number c.command) 13

abbrev pub ends_figures : ℕ → Control → Bool
ends_figures w c = is_end w && eqb (number c.command) 15

-- the command that the word ends, and which it is
abbrev pub ended : ℕ → Control → Option Command
ended w c = cond (is_end w) c.command None

abbrev pub is_open : Option Command → Bool
is_open o = not (eqb (number o) 0)

abbrev pub is_command : Command → Option Command → Bool
is_command k o = eqb (number o) (number_of k)

abbrev pub is_setting : Option Command → Bool
is_setting o = leb 9 (number o) && leb (number o) 12

-- bits 27-4 of a command
abbrev pub rest_of : ℕ → ℕ
rest_of w = w / 16 % 16777216

-- the slot of a sign-off
abbrev pub slot_of : ℕ → ℕ
slot_of w = w / 16 % 256

-- a question of the panel's: the silent boats, the boat in a slot, at which level one boat hears another, the dues, the lowest of a boat's last levels; or the
-- filling of a boat's directed queue
abbrev pub asked : ℕ → Bool
asked rest =
    eqb rest 0
    || (eqb (rest % 16) 1 && ltb rest 4096)
    || (eqb (rest % 16) 2 && ltb rest 1048576)
    || eqb rest 3
    || (eqb (rest % 16) 4 && ltb rest 4096)
    || eqb (rest % 16) 5

-- the command is one of the program's, and no bit is set that is not named
abbrev pub named : ℕ → Control → Bool
named w c =
    let command = w % 16 in
    let rest = rest_of w in
    (leb command 2 && eqb rest 0)
    || (c.drive && (eqb command 3 || (leb 7 command && leb command 13)) && eqb rest 0)
    || (c.drive && (eqb command 4 || eqb command 14) && ltb rest 256)
    || (c.drive && (eqb command 5 || eqb command 6))
    || (c.panel && eqb command 15 && asked rest)

-- the command of a number, of those whose words follow
abbrev pub command_by : ℕ → Command
command_by n =
    cond (eqb n 2) Receive (cond (eqb n 3) Admit (cond (eqb n 8) Start (cond (eqb n 9) Clock (cond (eqb n 10) C.Level
    (cond (eqb n 11) Durations (cond (eqb n 12) Payloads (cond (eqb n 13) Post Dues)))))))

-- the action of a named command
unfoldable pub by_number : ℕ → Action
by_number w =
    let command = w % 16 in
    cond (eqb command 0) Next (cond (eqb command 1) Sent (cond (eqb command 4) Close (cond (eqb command 5) Read (cond (eqb command 6) Free
    (cond (eqb command 7) Roster (cond (eqb command 14) SignOff (cond (eqb command 15 && eqb (w / 16 % 16) 5) Fill
    (cond (eqb command 15 && not (eqb (rest_of w) 3)) Ask (Open (command_by command))))))))))

-- that of a command of the panel's own
abbrev pub asked_of : ℕ → Action
asked_of rest = cond (eqb (rest % 16) 5) Fill (cond (eqb rest 3) (Open Dues) Ask)

-- kind 7
abbrev pub command_of : ℕ → Control → Action
command_of w c = cond (named w c) (by_number w) Bad

-- kind 15: bits 10-0
abbrev pub level_word : ℕ → Action
level_word w = cond (ltb (w % 268435456) 2048) Level Bad

-- a word of another kind belongs to the open command
abbrev pub other_word : Control → Action
other_word c = cond (eqb (number c.command) 0) Bad Push

unfoldable pub action_of : ℕ → Control → Action
action_of w c =
    let kind = w / 268435456 in
    cond (eqb kind 7) (command_of w c) (cond (eqb kind 14) Time (cond (eqb kind 15) (level_word w) (other_word c)))

-- the action only shows something of the station
abbrev pub is_shown : Action → Bool
is_shown Read = true
is_shown Roster = true
is_shown Ask = true
is_shown Push = false
is_shown Bad = false
is_shown Time = false
is_shown Level = false
is_shown (Open n) = false
is_shown Next = false
is_shown Sent = false
is_shown Close = false
is_shown Free = false
is_shown SignOff = false
is_shown Fill = false

-- ---- what the program holds

-- 0.0
abbrev pub silence : Float
silence = of_bits binary32 0x0000_0000

abbrev pub first_control : Bool → Bool → Control
first_control drive panel = record { drive = drive; panel = panel; command = None; cells = 10; now = zero_time; level = silence }

-- kind 14: eighths of a second in bits 27-0
abbrev pub time_of : ℕ → Float
time_of w = div binary64 (of_int binary64 (pos (w % 268435456))) (of_bits binary64 0x4020_0000_0000_0000)

-- kind 15: quarter decibels plus 800 in bits 10-0
abbrev pub level_of : ℕ → Float
level_of w = div binary32 (sub binary32 (of_int binary32 (pos (w % 2048))) (of_bits binary32 0x4448_0000)) (of_bits binary32 0x4080_0000)

abbrev pub timed : Control → ℕ → Control
timed c w = record { drive = c.drive; panel = c.panel; command = c.command; cells = c.cells; now = time_of w; level = c.level }

abbrev pub leveled : Control → ℕ → Control
leveled c w = record { drive = c.drive; panel = c.panel; command = c.command; cells = c.cells; now = c.now; level = level_of w }

abbrev pub with_command : Control → Option Command → Control
with_command c k = record { drive = c.drive; panel = c.panel; command = k; cells = c.cells; now = c.now; level = c.level }

abbrev pub opened : Control → Command → Control
opened c command = with_command c (Some command)

abbrev pub closed : Control → Control
closed c = with_command c None
