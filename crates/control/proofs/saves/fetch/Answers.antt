use Rattle.mcode.specs.Step.{perform_of, stack_fetched}
use Rattle.actions.proofs.Laws.{stays-as}
use Rattle.control.proofs.Laws.{stays-framed, mark-in}
use borrow.Author.Tests.{ne_eqb, lt-ltb, le-ltb, eq-eqb}
use Rattle.control.proofs.saves.fetch.Goals as goal

pub returns-then-s-n : goal.returns-then-s-n
unfolding perform_of stack_fetched
returns-then-s-n c = ((λ lent bytes numbers words h a out. rw (mark-in h a, ← c.front_of-n.ensures, le-ltb _ _ c.if-s-n.true)), stays-as _)

pub returns-then-store-s : goal.returns-then-store-s
unfolding perform_of stack_fetched
returns-then-store-s c = ((λ lent bytes numbers words h a out. rw (mark-in h a, ← c.front_of-n.ensures, lt-ltb _ _ c.if-s-n.false, ne_eqb _ _ c.if-store-s.true)), stays-as _)

pub returns : goal.returns
unfolding perform_of stack_fetched
returns c = ((λ lent bytes numbers words h a out. rw (mark-in h a, ← c.front_of-n.ensures, lt-ltb _ _ c.if-s-n.false, eq-eqb _ _ c.if-store-s.false, c.framed.ensures, c.restore.ensures, c.nth_of-v.ensures)), stays-framed _ _ _ _ c.args.r _ c.requires.le_depth.2 c.framed.ensures)
