use mathlib.Core.Path.{refl}
use Rattle.mcode.specs.Decode.{decode_of, row2, loads}
use Rattle.mcode.specs.Opcode.{takens, lefts, lengths}
use Rattle.actions.specs.Core.{instruction}
use Rattle.rows_low.proofs.Laws.{past, fourth-op, not_there, short2}
use native.Mathlib.Omega.{arith}
use Rattle.rows_low.proofs.row2.Goals as goal

pub load-requires : goal.load-requires
load-requires c = omega (arith, short2 _ c.requires.op_value c.if-op-gt35.true, c.requires.ready)

pub returns-then-op-gt35 : goal.returns-then-op-gt35
unfolding instruction decode_of row2 loads
returns-then-op-gt35 c = ((λ lent h out. rw (c.requires.op_value, past _ 0o42 _ c.if-op-gt35.true (omega arith), past _ 0o43 _ c.if-op-gt35.true (omega arith), not_there _ 0o40 0 _ c.if-op-gt35.true (omega arith), not_there _ 0o40 1 _ c.if-op-gt35.true (omega arith)) (rw c.plus.ensures at (c.load.ensures.0 lent out))), c.load.ensures.1)

pub operand-requires : goal.operand-requires
unfolding takens lefts lengths
operand-requires c = omega (arith, rw c.in-32.is at c.requires.ready)

pub load-requires-in-32 : goal.load-requires-in-32
unfolding takens lefts lengths
load-requires-in-32 c = omega (arith, rw c.in-32.is at c.requires.ready)

pub operand-requires-in-33 : goal.operand-requires-in-33
unfolding takens lefts lengths
operand-requires-in-33 c = omega (arith, rw c.in-33.is at c.requires.ready)

pub load_pair-requires : goal.load_pair-requires
unfolding takens lefts lengths
load_pair-requires c = omega (arith, rw c.in-33.is at c.requires.ready, c.requires.store_len_bound)

pub operand-requires-in-34 : goal.operand-requires-in-34
unfolding takens lefts lengths
operand-requires-in-34 c = omega (arith, rw c.in-34.is at c.requires.ready)

pub base_of-requires : goal.base_of-requires
base_of-requires c = rw c.operand-in-34.ensures.0 (c.requires.r_bound (rw c.in-34.is refl))

pub operand-requires-in-34-2 : goal.operand-requires-in-34-2
unfolding takens lefts lengths
operand-requires-in-34-2 c = omega (arith, rw c.in-34.is at c.requires.ready)

pub load-requires-in-34 : goal.load-requires-in-34
unfolding takens lefts lengths
load-requires-in-34 c = omega (arith, rw c.in-34.is at c.requires.ready)

pub operand-requires-in_default : goal.operand-requires-in_default
unfolding takens lefts lengths
operand-requires-in_default c = omega (arith, rw (fourth-op _ 0o40 (omega (arith, c.requires.op_value)) c.if-op-gt35.false c.in_default.in_default-own.rest.0.0.1 c.in_default.in_default-own.rest.0.1 c.in_default.in_default-own.rest.1) at c.requires.ready)

pub base_of-requires-in_default : goal.base_of-requires-in_default
base_of-requires-in_default c = rw c.operand-in_default.ensures.0 (c.requires.r_bound (rw (fourth-op _ 0o40 (omega (arith, c.requires.op_value)) c.if-op-gt35.false c.in_default.in_default-own.rest.0.0.1 c.in_default.in_default-own.rest.0.1 c.in_default.in_default-own.rest.1) refl))

pub operand-requires-in_default-2 : goal.operand-requires-in_default-2
unfolding takens lefts lengths
operand-requires-in_default-2 c = omega (arith, rw (fourth-op _ 0o40 (omega (arith, c.requires.op_value)) c.if-op-gt35.false c.in_default.in_default-own.rest.0.0.1 c.in_default.in_default-own.rest.0.1 c.in_default.in_default-own.rest.1) at c.requires.ready)

pub load_pair-requires-in_default : goal.load_pair-requires-in_default
unfolding takens lefts lengths
load_pair-requires-in_default c = omega (arith, rw (fourth-op _ 0o40 (omega (arith, c.requires.op_value)) c.if-op-gt35.false c.in_default.in_default-own.rest.0.0.1 c.in_default.in_default-own.rest.0.1 c.in_default.in_default-own.rest.1) at c.requires.ready, c.requires.store_len_bound)

pub returns-in-32 : goal.returns-in-32
unfolding instruction decode_of row2 loads
returns-in-32 c = ((λ lent h out. rw c.in-32.is (rw (c.plus-in-32.ensures, c.operand.ensures.0) at (c.load-in-32.ensures.0 lent out))), c.load-in-32.ensures.1)

pub returns-in-33 : goal.returns-in-33
unfolding instruction decode_of row2 loads
returns-in-33 c = ((λ lent h out. rw c.in-33.is (rw (c.plus-in-33.ensures, c.operand-in-33.ensures.0) at (c.load_pair.ensures.0 lent out))), c.load_pair.ensures.1)

pub returns-in-34 : goal.returns-in-34
unfolding instruction decode_of row2 loads
returns-in-34 c = ((λ lent h out. rw (c.in-34.is, h.named _ (c.requires.r_bound (rw c.in-34.is refl))) (rw (c.plus-in-34.ensures, c.base_of.ensures, c.operand-in-34-2.ensures.0, c.operand-in-34.ensures.0) at (c.load-in-34.ensures.0 lent out))), c.load-in-34.ensures.1)

pub returns-in_default : goal.returns-in_default
unfolding instruction decode_of row2 loads
returns-in_default c = ((λ lent h out. rw (fourth-op _ 0o40 (omega (arith, c.requires.op_value)) c.if-op-gt35.false c.in_default.in_default-own.rest.0.0.1 c.in_default.in_default-own.rest.0.1 c.in_default.in_default-own.rest.1, h.named _ (c.requires.r_bound (rw (fourth-op _ 0o40 (omega (arith, c.requires.op_value)) c.if-op-gt35.false c.in_default.in_default-own.rest.0.0.1 c.in_default.in_default-own.rest.0.1 c.in_default.in_default-own.rest.1) refl))) (rw (c.plus-in_default.ensures, c.base_of-in_default.ensures, c.operand-in_default-2.ensures.0, c.operand-in_default.ensures.0) at (c.load_pair-in_default.ensures.0 lent out))), c.load_pair-in_default.ensures.1)
