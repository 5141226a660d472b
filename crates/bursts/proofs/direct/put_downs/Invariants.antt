-- The invariant: the frames from byte k on are still to be written. Assumes nothing.
use Prim.Native.Nat.{◌-◌, ◌<◌}
use Rattle.out.proofs.Laws.{StillWrites}
use Rattle.bursts.specs.Direct.{down_frames}
use Rattle.bursts.proofs.direct.put_downs.Given as goal

abbrev pub invariant-loop : goal.invariant-loop
invariant-loop l = (l.k < 8589934592) × StillWrites l.initial.o (down_frames l.room l.queue l.slot l.max l.last l.from) l.o (down_frames (l.room - l.counter) l.queue l.slot l.max l.last l.k)
