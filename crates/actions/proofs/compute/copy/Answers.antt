use Rattle.mcode.specs.Step.{perform_of}
use Rattle.actions.proofs.compute.copy.Goals as goal

pub returns : goal.returns
unfolding perform_of
returns c = ((λ lent store out. rw (← c.nth_of.ensures) (c.put_word.ensures.0 lent store out)), c.put_word.ensures.1)
