-- Assumes nothing.
use mathlib.Core.Path.{sym, ap, ◌∙◌}
use Rattle.recent.specs.declared.Recent.{Recent}
use Rattle.recent.specs.Readings.{noted}
use Rattle.frames.specs.Control.{payload_of, checkin_member}
use Rattle.frames.proofs.Entries.{checkin_known, checkin_free, checkin_full}
use Rattle.frames.proofs.control.checkin.Goals as goal
use Rattle.frames.proofs.control.checkin.Goals.{in-Known, in-Free, in-Full}

pub returns : goal.returns
returns c =
    let b = c.args in
    let len = b.p.now.len in
    let p = payload_of b.p.now in
    let call = c.call-call in
    let seat = sym c.seat_of-seat.ensures in
    elim c.match-seat.branch [
      | in-Known w ↦
          rw (w.o-is, w.s-is)
          (checkin_known b.a len p b.s call.result _ _ _ _ _ _ call.ensures (seat ∙ w.in-Known.is) w.index-i.ensures w.checkin_member.ensures w.noted.ensures w.with-s.ensures)
      | in-Free w ↦
          rw (w.o-is, w.s-is)
          (checkin_free b.a len p b.s call.result _ _ _ _ _ _ _ call.ensures (seat ∙ w.in-Free.is) w.index-i-in-Free.ensures
          (w.checkin_member-in-Free.ensures ∙ ap (checkin_member b.a len p) w.new_member.ensures)
          (w.noted-in-Free.ensures ∙ ap (λ (r : Recent). noted r b.a.level) w.empty.ensures) w.empty-in-Free.ensures w.with.ensures w.with-s-in-Free.ensures
          w.admit_events.ensures)
      | in-Full w ↦ rw (w.o-is, w.s-is) (checkin_full b.a len p b.s call.result _ call.ensures (seat ∙ w.in-Full.is))
    ]
