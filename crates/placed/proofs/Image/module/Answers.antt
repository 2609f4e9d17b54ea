use Rattle.std.proofs.Common.{◌≡◌}
use Rattle.std.proofs.lemmas.Grind.{common_steps}
use native.Mathlib.Omega.{arith}
use Rattle.mcode.specs.Image.{begin_of}
use Rattle.mcode.proofs.Lies.{lies}
use Rattle.placed.proofs.Image.module.Goals as goal

pub invariant_of-result : goal.invariant_of-result
invariant_of-result c =
    let i = c.args.self in
    let e : c.if-k-gt0.begin ≡ begin_of i.program.now.modules c.args.k = grind (arith, common_steps) in
    record { in_range = i.in_range; lies = lies i.bytes.now i.program.now i.told c.args.k c.requires c.if-k-gt0.begin e }
