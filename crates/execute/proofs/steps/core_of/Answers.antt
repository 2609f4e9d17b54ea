use Rattle.control.proofs.Laws.{from_start, after-start}
use native.Mathlib.Omega.{arith}
use Rattle.execute.proofs.steps.core_of.Goals as goal

pub number-start-requires : goal.number-start-requires
number-start-requires c = (c.requires, omega arith, omega arith)

pub number-requires : goal.number-requires
number-requires c = (c.requires, omega arith, omega arith)

pub returns : goal.returns
returns c = (rw (from_start), record { few = c.requires; start = c.number-start.ensures; g = c.number.ensures; own = after-start _ _ })
