-- The first module that has a place.
use Rattle.explain.proofs.Places.{found-so}
use Rattle.explain.proofs.misfit.first_misfit.Goals as goal

pub returns-then-is_some : goal.returns-then-is_some
returns-then-is_some c = found-so c.args.read.now.image.now c.args.read.now.program.now c.loop-k.k c.loop-k-test.true _ (rw (c.rules.ensures.code.0, c.rules.ensures.code.1, c.rules.ensures.program) at c.module_misfit-why.ensures)
