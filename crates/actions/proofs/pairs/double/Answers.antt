use Rattle.mcode.specs.Step.{perform_of}
use Rattle.actions.proofs.Laws.{stays_at}
use Rattle.actions.proofs.pairs.double.Goals as goal

pub returns : goal.returns
unfolding perform_of
returns c = ((λ lent store out. rw (c.place.ensures.0, c.place.ensures.1, c.low_of-low.ensures, c.high_of-high.ensures, c.double_sums-n.ensures, c.paired-y.ensures, c.paired-x.ensures, c.nth_of-4.ensures, c.nth_of-3.ensures, c.nth_of-2.ensures, c.nth_of.ensures)), stays_at _ _ _ _ c.requires.4 c.place.ensures.0)
