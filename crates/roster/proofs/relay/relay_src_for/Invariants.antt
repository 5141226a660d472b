-- Assumes nothing.
use Rattle.bits.specs.Loop.{first}
use mathlib.Core.Path.{◌≡◌}
use Prim.Native.Nat.{◌-◌}
use Rattle.roster.specs.Relays.{is_source, relay_src_for, slot_or63}
use Rattle.roster.proofs.relay.relay_src_for.Given as goal

abbrev pub invariant-loop-a : goal.invariant-loop-a
invariant-loop-a l =
    slot_or63 (first (is_source l.hears l.left l.able l.tried l.slot l.floor) (62 - l.a) l.a) ≡ relay_src_for l.hears l.needs l.able l.tried l.slot l.floor
