use Rattle.mcode.specs.Step.{perform_of}
use Rattle.actions.proofs.Laws.{stays_at}
use Rattle.actions.proofs.pairs.put_pair.Goals as goal

pub returns : goal.returns
unfolding perform_of
returns c = ((λ lent store out. rw (c.place.ensures.0, c.place.ensures.1)), stays_at _ _ _ _ c.requires.1 c.place.ensures.0)
