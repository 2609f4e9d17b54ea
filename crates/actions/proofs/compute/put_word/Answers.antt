use Rattle.mcode.specs.Step.{perform_of}
use Rattle.actions.proofs.Laws.{stays_at}
use Rattle.actions.proofs.compute.put_word.Goals as goal

pub returns : goal.returns
unfolding perform_of
returns c = ((λ lent store out. rw c.gone.ensures), stays_at _ _ _ _ c.requires.1 c.gone.ensures)
