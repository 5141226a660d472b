-- Assumes nothing.
use mathlib.Core.Path.{refl, sym, ◌∙◌}
use lib.ListN.{drop}
use Rattle.frames.specs.Code.Frames.{frame_of}
use Rattle.frames.proofs.Laws.{frame_read}
use Rattle.frames.proofs.frame_at.Goals as goal

pub returns-in-End : goal.returns-in-End
unfolding frame_of
returns-in-End c = rw (← c.peek.ensures, c.in-End.is)

pub returns-in-Bad : goal.returns-in-Bad
unfolding frame_of
returns-in-Bad c = rw (← c.peek.ensures, c.in-Bad.is)

pub returns-in-Lost : goal.returns-in-Lost
unfolding frame_of
returns-in-Lost c = rw (← c.peek.ensures, c.in-Lost.is)

pub returns-in-Frame : goal.returns-in-Frame
returns-in-Frame c =
    frame_read (drop c.args.at c.args.words.now) _ _ _ _ _ _
    (sym c.peek.ensures ∙ c.in-Frame.is)
    refl refl c.words_for-size.ensures
