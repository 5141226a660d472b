-- The turns of a log read in one pass: the listed slots that have had no turn, and the turn that runs. Assumes nothing.
use mathlib.Core.Bool.{Bool, true, false, cond, ◌&&◌}
use mathlib.Core.List.{List, [], ◌∷◌}
use Prim.Native.Nat.{ℕ, suc}
use lib.Dec.{eqb, ltb}
use Rattle.logs.specs.Reading.{Entry, mark, poll, pollack, ack, has}
use Rattle.logs.specs.Turns.{turn, Running, idle, runs, begun}
use Rattle.logs.proofs.Sets.{without, is_none}

unfoldable pub watched : List ℕ → Running → List Entry → Bool
watched due r [] = true
watched due r (mark l ∷ es) = is_none due && watched l idle es
watched due idle (poll x ∷ es) = has x due && watched (without x due) (begun x) es
watched due (runs (turn s p a)) (poll x ∷ es) =
    cond (eqb x s) (ltb p 5 && watched due (runs (turn s (suc p) a)) es) (has x due && watched (without x due) (begun x) es)
watched due idle (pollack x ∷ es) = false
watched due (runs (turn s p a)) (pollack x ∷ es) = eqb x s && (ltb a 4 && watched due (runs (turn s p (suc a))) es)
watched due idle (ack x ∷ es) = false
watched due (runs (turn s p a)) (ack x ∷ es) = eqb x s && (ltb a 4 && watched due idle es)
