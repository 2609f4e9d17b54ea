use native.Mathlib.Omega.{arith}
use Rattle.mcode.proofs.Bits.{weight-below}
use Rattle.control.proofs.Weights.{shifted}
use Rattle.control.proofs.lines.without.Goals as goal

pub overflow_sub-result : goal.overflow_sub-result
overflow_sub-result c = omega (arith, shifted c.args.i c.requires.0, weight-below c.args.requests c.args.i c.requires.1)

pub returns : goal.returns
returns c = rw (shifted c.args.i c.requires.0)
