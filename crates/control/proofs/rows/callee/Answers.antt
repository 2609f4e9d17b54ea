use borrow.Author.Tests.{ne_eqb, eq-eqb}
use Rattle.control.proofs.rows.callee.Goals as goal

pub operand-requires : goal.operand-requires
operand-requires c = c.requires.1 c.if-op-eq240.true

pub returns-then-op-eq240 : goal.returns-then-op-eq240
returns-then-op-eq240 c = rw (eq-eqb _ _ c.if-op-eq240.true) c.operand.ensures.0

pub returns-else-op-eq240 : goal.returns-else-op-eq240
returns-else-op-eq240 c = rw (ne_eqb _ _ c.if-op-eq240.false)
