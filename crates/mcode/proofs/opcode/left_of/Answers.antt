use Rattle.std.proofs.Common.{refl, rules}
use Rattle.mcode.specs.Opcode.{lefts}
use Rattle.mcode.proofs.Rows.{row-rule}
use Rattle.mcode.proofs.opcode.left_of.Goals as goal

pub returns : goal.returns
unfolding lefts
returns c = (refl, (row-rule c.args.op (search rules)).left)
