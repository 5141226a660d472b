-- Assumes nothing.
use native.Mathlib.Omega.{arith}
use lib.ListN.{drop}
use Rattle.frames.proofs.Laws.{bytes_read}
use borrow.Author.Tests.{not-false}
use Rattle.frames.proofs.pieces.take.Goals as goal

pub returns : goal.returns
returns c =
    rw (
      not-false _ c.if-not-p.false,
      ← bytes_read (drop c.args.payload.now.at
          c.args.payload.now.words.now) c.args.payload.now.len c.payload-bytes.result (omega (arith, c.type_inv.payload.1.1.0))
          (rw c.from-n.ensures at c.payload-bytes.ensures),
    )
    (rw c.from-n.ensures at c.offer.ensures)
