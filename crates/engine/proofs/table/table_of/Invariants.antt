use Rattle.engine.proofs.Numbers.{Holds}
use Rattle.engine.proofs.table.table_of.Given as goal

abbrev pub invariant-loop-k : goal.invariant-loop-k
invariant-loop-k l = Holds l.program l.table l.k
