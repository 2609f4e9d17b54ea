use Rattle.std.proofs.Common.{lt-ltb, le-ltb}
use Rattle.mcode.specs.Step.{perform_of}
use Rattle.actions.proofs.Laws.{stays_at, stays-as}
use Rattle.actions.proofs.channels.write.Goals as goal

pub returns-then-c-gt15 : goal.returns-then-c-gt15
unfolding perform_of
returns-then-c-gt15 c = ((λ lent store. rw (← c.nth_of-c.ensures, lt-ltb _ _ c.if-c-gt15.true)), stays-as _)

pub returns : goal.returns
unfolding perform_of
returns c = ((λ lent store. rw (← c.nth_of-c.ensures, ← c.nth_of.ensures, le-ltb _ _ c.if-c-gt15.false, c.take.ensures.0, c.take.ensures.1)), stays_at _ _ _ _ c.requires.3 c.take.ensures.0)
