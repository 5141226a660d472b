use Rattle.driver.proofs.Asked.{start_bad, start_done}
use Rattle.driver.proofs.command.start.Goals as goal

pub returns-then-has_nan : goal.returns-then-has_nan
returns-then-has_nan c =
    let a = c.args in
    start_bad a.s.now a.memory.now _ _ _ _ _ c.as_slice-words.ensures c.payload-p.ensures c.flags_of.ensures c.in-Some.is c.has_nan.ensures _ c.if-has_nan.true c.malformed-then-has_nan.ensures

pub returns : goal.returns
returns c =
    let a = c.args in
    start_done a.s.now a.memory.now _ _ _ _ _ c.as_slice-words.ensures c.payload-p.ensures c.flags_of.ensures c.in-Some.is c.has_nan.ensures _ _ _ _ c.if-has_nan.false
    c.lent_cells.ensures c.store_of-z.ensures.0 c.given-g.ensures c.start.ensures
