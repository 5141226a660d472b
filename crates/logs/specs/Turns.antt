-- The turns in a log, and which logs are accepted.
use Rattle.std.specs.Prelude.{Bool, true, false, cond, ◌&&◌, List, [], ◌∷◌, ℕ, suc, eqb, leb, Result, Ok, Err}
use Rattle.logs.specs.Reading.{Entry, mark, poll, pollack, ack, has, sendings_ok, marks_ok, entries_of}
use Rattle.refusal.specs.declared.Refusal.{Refusal}
use Rattle.refusal.specs.declared.Refusal.TheVariants.{Words, Marks}

-- ---- turns

-- a turn: its slot, and the polls and acknowledgements that it has had
pub data Turn : Type 0 where
  turn : (slot polls acks : ℕ) → Turn

-- the turn that runs, if one does
pub data Running : Type 0 where
  idle : Running
  runs : Turn → Running

-- a turn starts with K_POLL or K_RELAY
abbrev pub begun : ℕ → Running
begun x = runs (turn x 1 0)

-- a turn that is broken off is a turn
abbrev pub end_of : Running → List Turn
end_of idle = []
end_of (runs t) = t ∷ []

-- the turns up to the next mark, in order: runs of one slot. A poll of another slot starts another turn, K_ACK ends one, and a mark breaks one. (Of
-- which slot an acknowledgement is, `inside_from` asks.)
unfoldable pub turns_from : Running → List Entry → List Turn
turns_from r [] = end_of r
turns_from r (mark l ∷ es) = end_of r
turns_from idle (poll x ∷ es) = turns_from (begun x) es
turns_from (runs (turn s p a)) (poll x ∷ es) = cond (eqb x s) (turns_from (runs (turn s (suc p) a)) es) (turn s p a ∷ turns_from (begun x) es)
turns_from idle (pollack x ∷ es) = turns_from idle es
turns_from (runs (turn s p a)) (pollack x ∷ es) = turns_from (runs (turn s p (suc a))) es
turns_from idle (ack x ∷ es) = turns_from idle es
turns_from (runs (turn s p a)) (ack x ∷ es) = turn s p (suc a) ∷ turns_from idle es

-- up to the next mark no acknowledgement stands outside a turn: each is of the slot whose turn runs
unfoldable pub inside_from : Running → List Entry → Bool
inside_from r [] = true
inside_from r (mark l ∷ es) = true
inside_from idle (poll x ∷ es) = inside_from (begun x) es
inside_from (runs (turn s p a)) (poll x ∷ es) = cond (eqb x s) (inside_from (runs (turn s (suc p) a)) es) (inside_from (begun x) es)
inside_from idle (pollack x ∷ es) = false
inside_from (runs (turn s p a)) (pollack x ∷ es) = eqb x s && inside_from (runs (turn s p (suc a))) es
inside_from idle (ack x ∷ es) = false
inside_from (runs (turn s p a)) (ack x ∷ es) = eqb x s && inside_from idle es

-- ---- what is asked of them

-- no turn passes five polls or four acknowledgements
abbrev pub within : List Turn → Bool
within [] = true
within (turn s p a ∷ ts) = leb p 5 && (leb a 4 && within ts)

-- how many of them are turns of slot x
abbrev pub turns_of : ℕ → List Turn → ℕ
turns_of x [] = 0
turns_of x (turn s p a ∷ ts) = cond (eqb x s) (suc (turns_of x ts)) (turns_of x ts)

-- each listed slot has one turn before the next mark, or after the last mark at most one
abbrev pub one_each : Bool → List ℕ → List Turn → Bool
one_each ahead [] ts = true
one_each ahead (x ∷ l) ts = cond ahead (eqb (turns_of x ts) 1) (leb (turns_of x ts) 1) && one_each ahead l ts

-- no other slot has one
abbrev pub only_listed : List ℕ → List Turn → Bool
only_listed l [] = true
only_listed l (turn s p a ∷ ts) = has s l && only_listed l ts

-- a mark follows
abbrev pub mark_ahead : List Entry → Bool
mark_ahead [] = false
mark_ahead (mark l ∷ es) = true
mark_ahead (poll x ∷ es) = mark_ahead es
mark_ahead (pollack x ∷ es) = mark_ahead es
mark_ahead (ack x ∷ es) = mark_ahead es

-- from a mark with the list l to the next one
abbrev pub round_ok : List ℕ → List Entry → Bool
round_ok l es =
    let ts = turns_from idle es in
    inside_from idle es && (within ts && (one_each (mark_ahead es) l ts && only_listed l ts))

-- so it is after every mark
unfoldable pub rounds_ok : List Entry → Bool
rounds_ok [] = true
rounds_ok (mark l ∷ es) = round_ok l es && rounds_ok es
rounds_ok (poll x ∷ es) = rounds_ok es
rounds_ok (pollack x ∷ es) = rounds_ok es
rounds_ok (ack x ∷ es) = rounds_ok es

-- and before the first mark, where no slot is listed, so that no turn stands there
abbrev pub accepted : List Entry → Bool
accepted es = round_ok [] es && rounds_ok es

-- ---- the verdict

-- whether the log is accepted; one that is sent back is not
abbrev pub is_accepted : Result Bool Refusal → Bool
is_accepted (Ok b) = b
is_accepted (Err r) = false

-- 3 for words that are no sendings, then 27 for a fault in the marks
abbrev pub refusal_of : List ℕ → ℕ
refusal_of ws = cond (sendings_ok ws) (cond (marks_ok ws) 0 27) 3

-- the contract's: its number is `refusal_of`, and it is accepted where no number sends it back and the turns keep to the lists (law `verdict_says`)
unfoldable pub verdict_of : List ℕ → Result Bool Refusal
verdict_of ws = cond (sendings_ok ws) (cond (marks_ok ws) (Ok (accepted (entries_of ws))) (Err Marks)) (Err Words)
