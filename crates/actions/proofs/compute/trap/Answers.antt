use Rattle.mcode.specs.Step.{perform_of}
use Rattle.actions.proofs.Laws.{stays-as}
use Rattle.actions.proofs.compute.trap.Goals as goal

pub returns : goal.returns
unfolding perform_of
returns c = ((λ lent to store out. rw c.nth_of.ensures), stays-as _)
