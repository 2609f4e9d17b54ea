-- The data size is read only where bit 0 stands.
use Rattle.mcode.specs.Image.{data_at}
use borrow.Author.Tests.{ne_eqb, eq-eqb}
use Rattle.image.proofs.data_size.Goals as goal

pub returns-then-bits-eq1 : goal.returns-then-bits-eq1
unfolding data_at
returns-then-bits-eq1 c = simp (eq-eqb _ _ c.if-bits-eq1.true) c.read_word.ensures

pub returns : goal.returns
unfolding data_at
returns c = simp (ne_eqb _ _ c.if-bits-eq1.false)
