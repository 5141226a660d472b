-- The running values of a reception as the code has them (`Rx`), frame by frame. Nothing here has to be believed: `crates/rx/proofs` shows that they follow `Reading`.
use Rattle.std.specs.Prelude.{ℕ, ◌+◌, Bool, false, not, cond, ◌||◌, Some, None}
use Rattle.bits.specs.Mask.{has_bit, with_bit}
use Rattle.frames.specs.declared.Rx.{Rx}
use Rattle.frames.specs.declared.Frame.{Frame}

abbrev pub first_rx : Rx
first_rx = record { word = 1; frame = 0; sender = None; more = false; heard = 0; unkept = 0 }

-- on to the next frame: a piece not kept is not heard
abbrev pub next_rx : Rx → Frame → Rx
next_rx x f =
    record {
      word = x.word + f.size;
      frame = x.frame + 1;
      sender = x.sender;
      more = x.more;
      heard = cond (not (has_bit x.unkept x.frame)) (with_bit x.heard x.frame) x.heard;
      unkept = x.unkept;
    }

-- past a lost frame, which is one word
abbrev pub passed_rx : Rx → Rx
passed_rx x =
    record { word = x.word + 1; frame = x.frame + 1; sender = x.sender; more = x.more; heard = x.heard; unkept = x.unkept }

-- what a report tells, where it is no forwarded one: its slot, and whether more is to come
abbrev pub report_rx : Rx → Bool → ℕ → Bool → Rx
report_rx x forwarded slot pending =
    cond forwarded x
    (record { word = x.word; frame = x.frame; sender = Some slot; more = x.more || pending; heard = x.heard; unkept = x.unkept })
