use Rattle.std.proofs.Common.{◌≡◌, ◌-◌}
use Rattle.control.specs.Table.{first_based, first_from}
use Rattle.control.proofs.table.find_base.Given as goal

abbrev pub invariant-loop-k : goal.invariant-loop-k
invariant-loop-k l = first_based l.table l.word ≡ first_from l.table l.word (l.count - l.k) l.k
