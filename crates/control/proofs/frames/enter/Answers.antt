use Rattle.mcode.specs.Step.{perform_of}
use Rattle.actions.proofs.Laws.{stays-as}
use Rattle.control.proofs.Laws.{stays-framed}
use borrow.Author.Tests.{lt-ltb, le-ltb}
use Rattle.control.proofs.frames.enter.Goals as goal

pub returns-then-h-s : goal.returns-then-h-s
unfolding perform_of
returns-then-h-s c = ((λ lent stack store out. rw (lt-ltb _ _ c.if-h-s.true)), stays-as _)

pub returns : goal.returns
unfolding perform_of
returns c = ((λ lent stack store out. rw (le-ltb _ _ c.if-h-s.false, c.framed.ensures)), stays-framed _ _ _ _ c.args.r _ c.requires c.framed.ensures)
