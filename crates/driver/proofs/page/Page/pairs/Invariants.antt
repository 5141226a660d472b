-- The digits of the bytes from the next on are still to be written.
use Rattle.std.proofs.Common.{◌≡◌, drop}
use Rattle.driver.specs.Lines.{byte_pairs, written}
use Rattle.driver.proofs.page.Page.pairs.Given as goal

abbrev pub invariant-loop-x : goal.invariant-loop-x
invariant-loop-x l = written l.self (byte_pairs (drop l.x-index l.m)) ≡ written l.initial.self (byte_pairs l.m)
