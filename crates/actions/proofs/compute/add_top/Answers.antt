use Rattle.mcode.specs.Step.{perform_of}
use Rattle.actions.proofs.Laws.{stays_at}
use Rattle.actions.proofs.compute.add_top.Goals as goal

pub returns : goal.returns
unfolding perform_of
returns c = ((λ lent store out. rw (c.replace.ensures.0, c.replace.ensures.1, c.nth_of.ensures)), stays_at _ _ _ _ c.requires.2 c.replace.ensures.0)
