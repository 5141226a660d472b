-- The invariant: sliding on from the present window gives what sliding was to give. Assumes nothing.
use mathlib.Core.Path.{◌≡◌}
use Prim.Native.Nat.{◌-◌}
use Rattle.stream.specs.Window.{marks_of, bars_of, slide_of}
use Rattle.stream.proofs.window.slide.Given as goal

abbrev pub invariant-loop : goal.invariant-loop
invariant-loop l = slide_of (128 - l.counter) l.t.next (marks_of l.t) (bars_of l.t) ≡ slide_of 128 l.initial.t.next (marks_of l.initial.t) (bars_of l.initial.t)
