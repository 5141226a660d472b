-- Assumes nothing.
use mathlib.Core.Path.{sym, ◌∙◌}
use lib.ListN.{drop}
use Rattle.words.proofs.Read.{byte_in}
use Rattle.frames.proofs.Entries.{byte_past}
use Rattle.frames.proofs.payload.Payload.byte.Goals as goal

pub returns-then-j-from : goal.returns-then-j-from
returns-then-j-from c =
    c.payload_byte.ensures ∙ byte_in (drop c.args.self.now.at c.args.self.now.words.now) c.args.self.now.len c.args.j (rw c.from.ensures at c.if-j-from.true)

pub returns : goal.returns
returns c =
    sym (byte_past (drop 2 (drop c.args.self.now.at c.args.self.now.words.now)) c.args.self.now.len c.args.j (rw c.from.ensures at c.if-j-from.false))
