-- What a control frame does by its kind, reports apart. Nothing here has to be believed: law `read_kind` shows that it is `read_frame`.
use Rattle.std.specs.Prelude.{ℕ, Bool, cond, ◌&&◌, List, [], eqb}
use Rattle.roster.specs.declared.Member.{Member}
use Rattle.roster.specs.Members.{is_willing}
use Rattle.net.specs.declared.Station.{Station}
use Rattle.net.specs.Net.{Said, said}
use Rattle.frames.specs.declared.Air.{Air}
use Rattle.frames.specs.Code.Kinds.{Kind, Nothing, Piece, Checkin, Report, Overheard, Kids}
use Rattle.frames.specs.Control.{checkin_frame, overheard_frame, kids_frame}

abbrev pub control_says : Kind → Air → ℕ → ℕ → List ℕ → Station → Said
control_says Nothing a slot len p s = said s []
control_says Piece a slot len p s = said s []
control_says Checkin a slot len p s = checkin_frame a len p s
control_says Report a slot len p s = said s []
control_says Overheard a slot len p s = overheard_frame a len p slot s
control_says Kids a slot len p s = kids_frame a len p slot s

-- the relay of a frame's newcomers, of the frame's own boat m
abbrev pub relay_by : Bool → Member → ℕ → ℕ
relay_by here m slot = cond (here && eqb m.via 63 && is_willing m) slot 63
