-- The end of a sending as the code takes it: what is read of the boat whose reply is waited for is one truth value. Law `done_is` (proofs/Laws.antt) says
-- that it comes to `done_by`.
use Rattle.std.specs.Prelude.{ℕ, Bool, false, cond, ◌&&◌, eqb, Float, Option, Some, None}
use Rattle.level.specs.Levels.{is_heard}
use Rattle.net.specs.declared.Station.{Station}
use Rattle.net.specs.declared.Settings.{Settings}
use Rattle.net.specs.declared.Turn.{Turn}
use Rattle.net.specs.declared.Turn.TheVariants.{Idle, Sending, Waiting}
use Rattle.net.specs.declared.Wait.{Wait}
use Rattle.net.specs.State.{member_at}
use Rattle.net.specs.Net.{plus, is_member, wait_of}

-- the boat is heard, and answered its last poll
abbrev pub is_sure : Station → Option ℕ → Bool
is_sure s None = false
is_sure s (Some slot) = is_member s.used slot && is_heard (member_at s slot).snrup && eqb (member_at s slot).missed 0

abbrev pub deadline_for : Settings → Bool → Float → Option Float
deadline_for g sure t = Some (plus (plus (plus t g.turnaround) (cond sure g.detect g.maxburst)) g.replyslack)

abbrev pub done_for : Turn → Wait → Settings → Bool → Float → Wait
done_for Idle w g sure t = w
done_for Sending w g sure t = wait_of Idle w.deadline
done_for (Waiting r) w g sure t = wait_of (Waiting r) (deadline_for g sure t)
