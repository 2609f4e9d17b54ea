use native.Mathlib.Omega.{arith}
use Rattle.control.proofs.frames.in_module.Goals as goal

pub overflow_add-start : goal.overflow_add-start
overflow_add-start c = omega (arith, c.number-start.type_inv, c.ranges.at)

pub returns : goal.returns
returns c = rw (← c.number-start.ensures, ← c.number-base.ensures) c.settled.ensures
