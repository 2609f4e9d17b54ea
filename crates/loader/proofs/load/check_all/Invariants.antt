use Rattle.mcode.specs.Depths.{KeptPast}
use Rattle.loader.proofs.Fill.{Filled}
use Rattle.loader.proofs.load.check_all.Given as goal

abbrev pub invariant-loop-k : goal.invariant-loop-k
invariant-loop-k l = record { filled : Filled l.read.image.now l.read.program.now l.k l.map; kept : KeptPast l.read.image.now l.fn.map l.map }
