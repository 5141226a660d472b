-- The running values of `ncs_rx` of ncs.rs, frame by frame: the definitions' (Reading) and the code's (Rx).
use Rattle.std.specs.Prelude.{ℕ, Bool, List, ◌++◌, Option}
use Rattle.net.specs.declared.Station.{Station}
use Rattle.net.specs.Net.{Said}

-- The station and the store as they are, the events so far, the number of the next frame; the frames heard and kept, the pieces not kept,
-- the slot that the last report names (those of boats relayed by the polled boat apart), whether a report told of more to come.
-- `seen`: the members as each frame was read, masks of slots, the last frame's last.
pub record Reading : Type 0 where
  pub station : Station
  pub store : List ℕ
  pub words : List ℕ
  pub frame : ℕ
  pub heard : ℕ
  pub unkept : ℕ
  pub sender : Option ℕ
  pub more : Bool
  pub seen : List ℕ

abbrev pub on_station : Reading → Station → Reading
on_station x s =
    record { station = s; store = x.store; words = x.words; frame = x.frame; heard = x.heard; unkept = x.unkept; sender = x.sender; more = x.more; seen = x.seen }

abbrev pub also_said : Reading → Said → Reading
also_said x d =
    record { station = d.station; store = x.store; words = x.words ++ d.words; frame = x.frame; heard = x.heard; unkept = x.unkept; sender = x.sender; more = x.more; seen = x.seen }
