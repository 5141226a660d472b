-- How the code walks over the words: one step for each word, sets of slots as masks. The laws in proofs/ compare it with Reading and Turns.
use Rattle.std.specs.Prelude.{Bool, true, false, not, cond, ◌&&◌, ◌||◌, List, [], ◌∷◌, ℕ, ◌+◌, ◌-◌, ◌/◌, ◌%◌, eqb, ltb, Option, Some, None}
use Rattle.bits.specs.Mask.{has_bit, with_bit, without_bit}
use Rattle.wire.specs.Kinds.{tiny, k_poll, k_pollack, k_ack, k_relay}
use Rattle.words.specs.Words.{head_of}
use Rattle.words.specs.declared.Head.{Head}
use Rattle.logs.specs.declared.Marks.{Marks}
use Rattle.logs.specs.declared.Watch.{Watch}
use Rattle.logs.specs.Reading.{is_mark, mark_ok}

-- what f makes of a, if there is one
abbrev pub on : {A : Type 0} → Option A → (A → Option A) → Option A
on None f = None
on (Some a) f = f a

-- f at each word in order, to the first where it finds a fault
unfoldable pub walk : {A : Type 0} → (A → ℕ → Option A) → A → List ℕ → Option A
walk f a [] = Some a
walk f a (w ∷ ws) = on (f a w) (λ b. walk f b ws)

-- ---- marks

-- so many words of a list to come, and the slots of those before
abbrev pub marks : ℕ → ℕ → Marks
marks left before = record { left = left; before = before }

-- where no list is being read a word 6 is a count
unfoldable pub count_step : Marks → ℕ → Option Marks
count_step m w = cond (is_mark w) (cond (mark_ok w) (Some (marks (w % 64) 0)) None) (Some m)

-- in a list each word has a slot that none before it has
abbrev pub slot_fits : ℕ → ℕ → Bool
slot_fits before w = mark_ok w && (ltb (w % 64) 62 && not (has_bit before (w % 64)))

unfoldable pub slot_step : Marks → ℕ → Option Marks
slot_step m w = cond (slot_fits m.before w) (Some (marks (m.left - 1) (with_bit m.before (w % 64)))) None

unfoldable pub mark_step : Marks → ℕ → Option Marks
mark_step m w = cond (eqb m.left 0) (count_step m w) (slot_step m w)

-- no fault, and no list cut short
abbrev pub marks_end : Option Marks → Bool
marks_end None = false
marks_end (Some m) = eqb m.left 0

-- ---- turns

-- so many words of a list to come, the listed slots that have had no turn, the slot whose turn runs, if one does, and what that turn has had
abbrev pub watch : ℕ → ℕ → Option ℕ → ℕ → ℕ → Watch
watch left due slot polls acks = record { left = left; due = due; slot = slot; polls = polls; acks = acks }

-- a mark: each slot of the last list has had its turn
unfoldable pub drawn : Watch → ℕ → Option Watch
drawn s n = cond (eqb s.due 0) (Some (watch n 0 None 0 0)) None

-- a slot of a list
unfoldable pub listed : Watch → ℕ → Watch
listed s x = watch (s.left - 1) (with_bit s.due x) s.slot s.polls s.acks

-- a poll that begins a turn
unfoldable pub begins : Watch → ℕ → Option Watch
begins s x = cond (has_bit s.due x) (Some (watch s.left (without_bit s.due x) (Some x) 1 0)) None

-- a further one
unfoldable pub again : Watch → Option Watch
again s = cond (ltb s.polls 5) (Some (watch s.left s.due s.slot (s.polls + 1) s.acks)) None

-- the turn of slot x runs
abbrev pub is_slot : Option ℕ → ℕ → Bool
is_slot None x = false
is_slot (Some y) x = eqb x y

unfoldable pub polled : Watch → ℕ → Option Watch
polled s x = cond (is_slot s.slot x) (again s) (begins s x)

-- an acknowledgement; with the last one no turn runs any more
abbrev pub slot_after : ℕ → Bool → Option ℕ
slot_after x last = cond last None (Some x)

unfoldable pub acked : Watch → ℕ → Bool → Option Watch
acked s x last =
    cond (is_slot s.slot x) (cond (ltb s.acks 4) (Some (watch s.left s.due (slot_after x last) s.polls (s.acks + 1))) None) None

-- a header-only sending
unfoldable pub tiny_sent : Watch → ℕ → ℕ → Option Watch
tiny_sent s hi x =
    cond (eqb hi k_poll || eqb hi k_relay) (polled s x) (cond (eqb hi k_pollack) (acked s x false) (cond (eqb hi k_ack) (acked s x true) (Some s)))

unfoldable pub sent : Watch → Head → Option Watch
sent s h = cond (eqb h.code tiny) (tiny_sent s h.hi (h.extra % 64)) (Some s)

-- a word where no list is being read
unfoldable pub word_step : Watch → ℕ → Option Watch
word_step s w = cond (is_mark w) (drawn s (w % 64)) (cond (eqb (w / 268435456) 8) (sent s (head_of w)) (Some s))

-- none where the log is not accepted
unfoldable pub watch_step : Watch → ℕ → Option Watch
watch_step s w = cond (eqb s.left 0) (word_step s w) (Some (listed s (w % 64)))
