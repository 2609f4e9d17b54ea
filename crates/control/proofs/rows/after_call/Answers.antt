use mathlib.Core.Path.{refl}
use native.Mathlib.Omega.{arith}
use borrow.Author.Tests.{ne_eqb, eq-eqb}
use Rattle.control.proofs.rows.after_call.Goals as goal

pub returns-then-op-eq240 : goal.returns-then-op-eq240
returns-then-op-eq240 c = (rw (eq-eqb _ _ c.if-op-eq240.true) refl, omega arith, omega arith)

pub returns-else-op-eq240 : goal.returns-else-op-eq240
returns-else-op-eq240 c = (rw (ne_eqb _ _ c.if-op-eq240.false) refl, omega arith, omega arith)
