use Rattle.std.proofs.Common.{eq-eqb, ne_eqb}
use Rattle.mcode.specs.Step.{perform_of}
use Rattle.actions.proofs.Laws.{stays_at}
use Rattle.actions.proofs.jumps.jump_zero.Goals as goal

pub returns-then-nth_of-eq0 : goal.returns-then-nth_of-eq0
unfolding perform_of
returns-then-nth_of-eq0 c = ((λ lent store out. rw (← c.nth_of.ensures, eq-eqb _ _ c.if-nth_of-eq0.true, c.take.ensures.0, c.take.ensures.1)), stays_at _ _ _ _ c.requires.2 c.take.ensures.0)

pub returns-else-nth_of-eq0 : goal.returns-else-nth_of-eq0
unfolding perform_of
returns-else-nth_of-eq0 c = ((λ lent store out. rw (← c.nth_of.ensures, ne_eqb _ _ c.if-nth_of-eq0.false, c.take-else-nth_of-eq0.ensures.0, c.take-else-nth_of-eq0.ensures.1)), stays_at _ _ _ _ c.requires.3 c.take-else-nth_of-eq0.ensures.0)
