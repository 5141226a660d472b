-- Assumes nothing.
use Rattle.stream.proofs.Takes.{put_is}
use Rattle.stream.proofs.table.put.Goals as goal

pub returns : goal.returns
returns c =
    let j = c.join_in-after in
    let p = c.requires in
    put_is _ _ _ _ _ p.c_bound.1 c.args.piece.in_frame p.end_bound _ _ _ j.ensures.cell j.ensures.bytes c.landed_at-landed.ensures
