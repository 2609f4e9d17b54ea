use Rattle.mcode.specs.Step.{perform_of}
use Rattle.actions.proofs.pairs.load_pair.Goals as goal

pub returns : goal.returns
unfolding perform_of
returns c = ((λ lent out. c.fetch.ensures.0 out), c.fetch.ensures.1)
