use Rattle.mcode.specs.Step.{perform_of, stack_saved}
use Rattle.actions.proofs.Laws.{stays-as}
use Rattle.control.proofs.Laws.{stays-framed}
use borrow.Author.Tests.{lt-ltb, le-ltb}
use Rattle.control.proofs.saves.save.Goals as goal

pub returns-then-r-top : goal.returns-then-r-top
unfolding perform_of stack_saved
returns-then-r-top c = ((λ lent out. rw (lt-ltb _ _ c.if-r-top.true)), stays-as _)

pub returns : goal.returns
unfolding perform_of stack_saved
returns c = ((λ lent out. rw (le-ltb _ _ c.if-r-top.false, c.framed-next.ensures, c.save_stack.ensures)), stays-framed _ _ _ _ c.args.r _ c.requires.depth_bound.1 c.framed-next.ensures)
