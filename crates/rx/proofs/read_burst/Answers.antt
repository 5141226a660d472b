use mathlib.Core.Path.{refl, sym, ◌∙◌}
use Rattle.frames.specs.Code.Kinds.{Piece, Checkin, Overheard, Kids}
use Rattle.frames.proofs.ByKind.{kind_up, kind_byte, is_checkin, short_checkin, is_report_lem, short_report, is_overheard, is_kids, is_none}
use native.Mathlib.Omega.{arith}
use Rattle.rx.proofs.Endings.{finished}
use Rattle.rx.proofs.Turns.{going_start, fits, goes_lost, read_done}
use Rattle.rx.proofs.Each.{cell_lt, room_now, turn_piece, Went, went_said, went_none, went_report, went_stranger}
use Rattle.rx.proofs.read_burst.Goals as goal
use Rattle.rx.proofs.read_burst.Goals.{Joined-first, in-2+then-f-ge7, in-2+else-f-ge7, in-3+then-f-ge12, in-3+else-f-ge12, then-here, else-here, in-4, in-10, in_default-first}

-- where the arms of the control byte meet
went : (c : Joined-first) → Went c.loop-x.invariant c.loop-x-test.true c.in-Some.f (sym c.in-Some.is ∙ c.frame_at.ensures) c.match-first.s c.match-first.o c.match-first.x
went c =
    let len = c.in-Some.f.len in
    let byte = kind_byte _ _ c.if-f-eq-T_UP.false c.control_byte-first.ensures in
    elim c.match-first.branch [
      | in-2+then-f-ge7 w ↦
          rw (w.o-is, w.s-is, w.x-is)
          (went_said c.loop-x.invariant c.loop-x-test.true c.in-Some.f (sym c.in-Some.is ∙ c.frame_at.ensures) Checkin (is_checkin len w.in-2.is w.if-f-ge7.true ∙ byte) refl w.checkin-s.ensures)
      | in-2+else-f-ge7 w ↦
          rw (w.o-is, w.s-is, w.x-is)
          (went_none c.loop-x.invariant c.loop-x-test.true c.in-Some.f (sym c.in-Some.is ∙ c.frame_at.ensures) (short_checkin len w.in-2.is w.if-f-ge7.false ∙ byte))
      | in-3+then-f-ge12 w ↦
          rw (w.o-is, w.s-is, w.x-is)
          (elim w.if-here.branch [
            | then-here v ↦
                rw v.s-is
                (went_report c.loop-x.invariant c.loop-x-test.true c.in-Some.f (sym c.in-Some.is ∙ c.frame_at.ensures) (is_report_lem len w.in-3.is w.if-f-ge12.true ∙ byte)
                w.byte-slot.ensures w.is_member-here-then-f-ge12.ensures w.index-i-then-f-ge12.ensures w.is_forwarded-forwarded.ensures v.byte.ensures
                (rw v.if-here.true v.report_member.ensures) (rw v.if-here.true v.report_hears.ensures) (rw v.if-here.true v.report_queue.ensures)
                w.is_pending-pending.ensures w.report_rx-x.ensures)
            | else-here v ↦
                rw v.s-is
                (went_stranger c.loop-x.invariant c.loop-x-test.true c.in-Some.f (sym c.in-Some.is ∙ c.frame_at.ensures) (is_report_lem len w.in-3.is w.if-f-ge12.true ∙ byte)
                w.byte-slot.ensures w.is_member-here-then-f-ge12.ensures v.if-here.false w.index-i-then-f-ge12.ensures w.is_forwarded-forwarded.ensures
                w.is_pending-pending.ensures w.report_rx-x.ensures)
          ])
      | in-3+else-f-ge12 w ↦
          rw (w.o-is, w.s-is, w.x-is)
          (went_none c.loop-x.invariant c.loop-x-test.true c.in-Some.f (sym c.in-Some.is ∙ c.frame_at.ensures) (short_report len w.in-3.is w.if-f-ge12.false ∙ byte))
      | in-4 w ↦
          rw (w.o-is, w.s-is, w.x-is)
          (went_said c.loop-x.invariant c.loop-x-test.true c.in-Some.f (sym c.in-Some.is ∙ c.frame_at.ensures) Overheard (is_overheard len w.in-4.is ∙ byte) refl w.overheard-s.ensures)
      | in-10 w ↦
          rw (w.o-is, w.s-is, w.x-is)
          (went_said c.loop-x.invariant c.loop-x-test.true c.in-Some.f (sym c.in-Some.is ∙ c.frame_at.ensures) Kids (is_kids len w.in-10.is ∙ byte) refl w.kids-s.ensures)
      | in_default-first w ↦
          rw (w.o-is, w.s-is, w.x-is)
          (went_none c.loop-x.invariant c.loop-x-test.true c.in-Some.f (sym c.in-Some.is ∙ c.frame_at.ensures) (is_none len w.in_default-first.in_default-first-own.rest.0.0.0.1 w.in_default-first.in_default-first-own.rest.0.0.1 w.in_default-first.in_default-first-own.rest.0.1 w.in_default-first.in_default-first-own.rest.1 ∙ byte))
    ]

pub loop-x-init : goal.loop-x-init
loop-x-init c = going_start _ _ _ _ _ _ _ c.first_rx-x.ensures (λ h. (c.requires h).0)

pub loop-x-preserved-in_default : goal.loop-x-preserved-in_default
loop-x-preserved-in_default c = goes_lost c.loop-x.invariant c.loop-x-test.true (sym c.in_default.is ∙ c.frame_at.ensures) c.pass-x.ensures

pub offset_bounds-s-c : goal.offset_bounds-s-c
offset_bounds-s-c c = omega (arith, cell_lt _ _ _ _ _ _ _ _ c.piece_of-p.ensures c.cell_of-c.ensures)

pub bounds-s-c : goal.bounds-s-c
bounds-s-c c = omega (arith, cell_lt _ _ _ _ _ _ _ _ c.piece_of-p.ensures c.cell_of-c.ensures)

pub take-d-requires : goal.take-d-requires
take-d-requires c = room_now c.loop-x.invariant c.loop-x-test.true c.in-Some.f (sym c.in-Some.is ∙ c.frame_at.ensures) Piece (kind_up _ _ c.if-f-eq-T_UP.true) _ _ _ _ _ _ _ c.piece_of-p.ensures (c.requires (omega arith)).1

pub offset_bounds-s-c-then-f-eq-T_UP : goal.offset_bounds-s-c-then-f-eq-T_UP
offset_bounds-s-c-then-f-eq-T_UP c = omega (arith, cell_lt _ _ _ _ _ _ _ _ c.piece_of-p.ensures c.cell_of-c.ensures)

pub bounds-s-c-then-f-eq-T_UP : goal.bounds-s-c-then-f-eq-T_UP
bounds-s-c-then-f-eq-T_UP c = omega (arith, cell_lt _ _ _ _ _ _ _ _ c.piece_of-p.ensures c.cell_of-c.ensures)

pub offset_bounds-s-c-then-f-eq-T_UP-2 : goal.offset_bounds-s-c-then-f-eq-T_UP-2
offset_bounds-s-c-then-f-eq-T_UP-2 c = omega (arith, cell_lt _ _ _ _ _ _ _ _ c.piece_of-p.ensures c.cell_of-c.ensures)

pub bounds-s-c-then-f-eq-T_UP-2 : goal.bounds-s-c-then-f-eq-T_UP-2
bounds-s-c-then-f-eq-T_UP-2 c = omega (arith, cell_lt _ _ _ _ _ _ _ _ c.piece_of-p.ensures c.cell_of-c.ensures)

pub offset_bounds-s-c-then-f-eq-T_UP-3 : goal.offset_bounds-s-c-then-f-eq-T_UP-3
offset_bounds-s-c-then-f-eq-T_UP-3 c = omega (arith, cell_lt _ _ _ _ _ _ _ _ c.piece_of-p.ensures c.cell_of-c.ensures)

pub bounds-s-c-then-f-eq-T_UP-3 : goal.bounds-s-c-then-f-eq-T_UP-3
bounds-s-c-then-f-eq-T_UP-3 c = omega (arith, cell_lt _ _ _ _ _ _ _ _ c.piece_of-p.ensures c.cell_of-c.ensures)

pub next_piece-x-requires : goal.next_piece-x-requires
next_piece-x-requires c = fits c.loop-x.invariant c.loop-x-test.true c.in-Some.f (sym c.in-Some.is ∙ c.frame_at.ensures) c.well_formed.1.1.1.0.0

pub loop-x-preserved-then-f-eq-T_UP : goal.loop-x-preserved-then-f-eq-T_UP
loop-x-preserved-then-f-eq-T_UP c =
    turn_piece c.loop-x.invariant c.loop-x-test.true c.in-Some.f (sym c.in-Some.is ∙ c.frame_at.ensures) Piece (kind_up _ _ c.if-f-eq-T_UP.true) refl
    c.index-i.ensures c.is_member-here.ensures c.piece_of-p.ensures c.cell_of-c.ensures c.take-d.ensures c.owner_after.ensures c.busy_after.ensures c.landed_after.ensures
    c.member_after.ensures c.relayer-via.ensures c.round_after-s.ensures c.totals_after-s.ensures c.landed_events.ensures refl
    c.take-d.auto.lent c.next_piece-x.ensures

pub next_frame-x-requires : goal.next_frame-x-requires
next_frame-x-requires c =
    let r = went (goal.at.next_frame-x-requires c).Joined-first in
    rw (r.word, r.frame) (fits c.loop-x.invariant c.loop-x-test.true c.in-Some.f (sym c.in-Some.is ∙ c.frame_at.ensures) c.well_formed.1.1.1.0.0)

pub loop-x-preserved : goal.loop-x-preserved
loop-x-preserved c = (went (goal.at.loop-x-preserved c).Joined-first).on c.next_frame-x.ensures

pub returns : goal.returns
returns c =
    let p = c.args in
    let l = c.loop-x in
    read_done l.invariant p.h c.loop-x-test.false
    (finished p.a p.h l.s l.x _ _ _ _ _ _ _ _ _ _ _ _ c.ending_of-e.ensures c.is_member-here-2.ensures c.index-i-2.ensures
    c.end_member-k.ensures c.end_recent.ensures c.ack_level.ensures c.put_end.ensures c.index-b.ensures c.end_source-d.ensures c.end_wait-s.ensures
    c.end_totals-s.ensures)
