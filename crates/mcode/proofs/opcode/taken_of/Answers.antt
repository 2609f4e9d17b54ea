use Rattle.std.proofs.Common.{refl, rules}
use Rattle.mcode.specs.Opcode.{takens}
use Rattle.mcode.proofs.Rows.{row-rule}
use Rattle.mcode.proofs.opcode.taken_of.Goals as goal

pub returns : goal.returns
unfolding takens
returns c = (refl, (row-rule c.args.op (search rules)).taken)
