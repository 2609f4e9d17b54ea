-- The name is skipped only where bit 2 stands.
use Rattle.mcode.specs.Image.{name_at}
use borrow.Author.Tests.{ne_eqb, eq-eqb}
use Rattle.image.proofs.skip_name.Goals as goal

pub returns-then-bits-eq1 : goal.returns-then-bits-eq1
unfolding name_at
returns-then-bits-eq1 c = simp (eq-eqb _ _ c.if-bits-eq1.true) c.skip.ensures

pub returns : goal.returns
unfolding name_at
returns c = simp (ne_eqb _ _ c.if-bits-eq1.false)
