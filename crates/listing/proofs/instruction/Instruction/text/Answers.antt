-- The name is written first, then the operands.
use Rattle.std.proofs.Common.{refl, arith}
use Rattle.listing.proofs.Text.{name-short}
use Rattle.listing.proofs.instruction.Instruction.text.Goals as goal

pub push_str-requires : goal.push_str-requires
push_str-requires c =
    let short = name-short _ _ _ c.args.self.now.op c.unwrap_or.ensures refl c.name_of.ensures.row in
    (omega arith, rw c.new-text.ensures (omega (arith, short)))
