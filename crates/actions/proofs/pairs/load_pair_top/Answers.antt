use Rattle.mcode.specs.Step.{perform_of}
use Rattle.actions.proofs.pairs.load_pair_top.Goals as goal

pub returns : goal.returns
unfolding perform_of
returns c = ((λ lent out. rw (c.plus-a.ensures, c.nth_of.ensures) at (c.fetch.ensures.0 out)), c.fetch.ensures.1)
