-- The columns are those of the opcode table and of the kinds.
use Rattle.std.proofs.Common.{refl, rules, arith}
use Rattle.mcode.specs.Opcode.{lengths, takens, lefts}
use Rattle.mcode.proofs.Rows.{row-rule}
use Rattle.depths.specs.Cases.{kind_of, kinds_from, kinds}
use Rattle.depths.proofs.Flows.{kind_at}
use Rattle.depths.proofs.kinds.row_of.Goals as goal

pub returns-clause-length : goal.returns-clause-length
unfolding lengths
returns-clause-length c = (refl, omega (arith, (row-rule c.args.op (search rules)).long))

pub returns-clause-taken : goal.returns-clause-taken
unfolding takens
returns-clause-taken c = (refl, omega (arith, (row-rule c.args.op (search rules)).taken))

pub returns-clause-left : goal.returns-clause-left
unfolding lefts
returns-clause-left c = (refl, omega (arith, (row-rule c.args.op (search rules)).left))

pub returns-clause-kind : goal.returns-clause-kind
unfolding lengths kind_of kinds_from kinds
returns-clause-kind c = kind_at c.args.op (search rules)
