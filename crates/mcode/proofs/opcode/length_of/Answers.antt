use Rattle.std.proofs.Common.{refl, rules}
use Rattle.mcode.specs.Opcode.{lengths}
use Rattle.mcode.proofs.Rows.{row-rule}
use Rattle.mcode.proofs.opcode.length_of.Goals as goal

pub returns : goal.returns
unfolding lengths
returns c = (refl, (row-rule c.args.op (search rules)).long)
