-- Assumes nothing.
use Rattle.std.proofs.Common.{◌≡◌, ◌++◌, ◌+◌, take}
use Rattle.arrayvec.specs.ArrayVec.{array_vec_len}
use Rattle.bursts.proofs.rows.ack_row.Given as goal

abbrev pub invariant-loop-b : goal.invariant-loop-b
invariant-loop-b g l = record {
  stored : l.rows.items ≡ l.initial.rows.items ++ take l.b-index l.b-items;
  count : array_vec_len l.rows ≡ array_vec_len l.initial.rows + l.b-index;
}
