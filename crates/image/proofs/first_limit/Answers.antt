-- Procedure 0 of module 0 has no parameters.
use borrow.Author.Tests.{ne_eqb, eq-eqb}
use Rattle.image.proofs.first_limit.Goals as goal

pub returns-then-number-eq0 : goal.returns-then-number-eq0
returns-then-number-eq0 c = simp (eq-eqb _ _ c.if-number-eq0.true)

pub returns : goal.returns
returns c = simp (ne_eqb _ _ c.if-number-eq0.false)
