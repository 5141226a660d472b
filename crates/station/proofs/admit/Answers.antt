-- Assumes nothing.
use mathlib.Core.Path.{◌≡◌, sym, ◌∙◌}
use lib.Dec.{eqb}
use borrow.Author.Rules.{rules}
use Rattle.out.proofs.Laws.{writes_none}
use Rattle.refusal.specs.Numbers.{number_in}
use Rattle.admit.specs.Admission.{via_for, admit_by}
use Rattle.station.specs.Entries.{admit_of}
use Rattle.station.proofs.Laws.{next_with}
use Rattle.station.proofs.Admitted.{left_back, admit_known, admit_free, admit_full, admit_refused}
use Rattle.station.proofs.Numbers.{answer_is, passed_is}
use Rattle.station.proofs.admit.Goals as goal
use Rattle.station.proofs.admit.Goals.{then-is_ok+in-Known, then-is_ok+in-Free, then-is_ok+in-Full, else-is_ok}

pub returns : goal.returns
unfolding admit_of
returns c =
    let a = c.args in
    let no = c.admit_refusal-no.result in
    let n = number_in no in
    let call = c.unpack_call-call.result in
    let found = c.seat_of-found.result in
    let ok = eqb n 0 in
    let passed : ok ≡ c.is_ok.result = sym (c.is_ok.ensures.value ∙ passed_is no) in
    rw (c.and.ensures, answer_is no _, ← c.unpack_call-call.ensures, ← c.seat_of-found.ensures, ← c.is_full.ensures, ← c.admit_refusal-no.ensures)
    (next_with n a.s (admit_by found a.s call (via_for a.s found a.relay) a.time)
    (elim c.if-is_ok.branch [
      | then-is_ok+in-Known w ↦
          rw w.s-is
          (admit_known a.s call a.relay a.time ok found _ _ _ (passed ∙ w.if-is_ok.true) w.in-Known.is w.index-i.ensures w.with-s.ensures (left_back w.out-is (writes_none _) (search rules)))
      | then-is_ok+in-Free w ↦
          rw w.s-is
          (admit_free a.s call a.relay a.time ok found _ _ _ _ _ _ _ _ (passed ∙ w.if-is_ok.true) w.in-Free.is w.index-i-in-Free.ensures w.via_for-via.ensures
          w.new_member.ensures w.empty.ensures w.empty-in-Free.ensures w.with.ensures w.with-s-in-Free.ensures (left_back w.out-is w.admit_events.ensures (search rules)))
      | then-is_ok+in-Full w ↦ rw w.s-is (admit_full a.s call a.relay a.time ok found w.in-Full.is (left_back w.out-is (writes_none _) (search rules)))
      | else-is_ok w ↦ rw w.s-is (admit_refused a.s call a.relay a.time ok found (passed ∙ w.if-is_ok.false) (left_back w.out-is (writes_none _) (search rules)))
    ]))
