-- The station's own logs pass the turn check: `OwnLogs`, the last definition, is a statement over every list of calls from a start that is not refused.
use Rattle.std.specs.Prelude.{ℕ, ◌+◌, ◌<◌, ◌≡◌, true, cond, List, [], ◌∷◌, ◌++◌, length}
use Rattle.words.specs.Fine.{Bytes}
use Rattle.net.specs.declared.Station.{Station}
use Rattle.config.specs.declared.Given.{Given}
use Rattle.station.specs.Entries.{start_refusal}
use Rattle.logs.specs.Reading.{sent_in}
use Rattle.logs.specs.Turns.{is_accepted, verdict_of}
use Rattle.promise.specs.Promise.{TurnEvent, drew, over, poll, ack, struck, Net, Call, signing, result, outcome, is_refused, step, started}

-- a word 6 for each slot
unfoldable pub slot_words : List ℕ → List ℕ
slot_words [] = []
slot_words (x ∷ l) = (0x60000000 + x) ∷ slot_words l

-- a mark: the count, then the slots
abbrev pub mark_words : List ℕ → List ℕ
mark_words l = (0x60000000 + length l) ∷ slot_words l

-- where a list is drawn up
abbrev pub marks_in : List TurnEvent → List ℕ
marks_in [] = []
marks_in (drew l ∷ es) = mark_words l ++ marks_in es
marks_in (over s ∷ es) = marks_in es
marks_in (poll s ∷ es) = marks_in es
marks_in (ack s ∷ es) = marks_in es
marks_in (struck s ∷ es) = marks_in es

-- of one call: the mark stands before the burst of the decision that draws up the list; a refused call has none
unfoldable pub log_of : Call → Net → List ℕ
log_of c n = cond (is_refused c n) [] (marks_in (result c n).before ++ sent_in (outcome c n).words)

-- of all the calls
unfoldable pub log_from : List Call → Net → List ℕ
log_from [] n = []
log_from (c ∷ cs) n = log_of c n ++ log_from cs (step c n)

-- 'without sign-offs': a slot that was struck has a turn in no log, and the check holds the list of its mark
abbrev pub NoSignOff : List Call → Type 0
NoSignOff [] = Unit {0}
NoSignOff (c ∷ cs) = ((slot : ℕ) → c ≡ signing slot → ⊥) × NoSignOff cs

-- from a start that is not refused, of any calls without sign-offs; the name in the settings is bytes, and the window's slots are one
abbrev pub OwnLogs : Type 0
OwnLogs =
    (s : Station) (g : Given) (store : List ℕ) → start_refusal g (length store) ≡ 0 → Bytes g.settings.name → g.settings.windowslots < 256
    → (cs : List Call) → NoSignOff cs → is_accepted (verdict_of (log_from cs (started s g store))) ≡ true
