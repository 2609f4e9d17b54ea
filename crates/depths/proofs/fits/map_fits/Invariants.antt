use Rattle.depths.proofs.Whole.{Tested}
use Rattle.depths.proofs.fits.map_fits.Given as goal

abbrev pub invariant-loop-k : goal.invariant-loop-k
invariant-loop-k l = Tested l.image l.program l.map l.k l.at
