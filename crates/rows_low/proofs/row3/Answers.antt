use mathlib.Core.Path.{refl}
use Rattle.mcode.specs.Decode.{decode_of, row3, stores}
use Rattle.mcode.specs.Opcode.{takens, lefts, lengths}
use Rattle.actions.specs.Core.{instruction}
use Rattle.rows_low.proofs.Laws.{past, fourth-op, not_there, short3}
use native.Mathlib.Omega.{arith}
use Rattle.rows_low.proofs.row3.Goals as goal

pub save-requires : goal.save-requires
save-requires c = omega (arith, short3 _ c.requires.op_value c.if-op-gt51.true, c.requires.ready)

pub returns-then-op-gt51 : goal.returns-then-op-gt51
unfolding instruction decode_of row3 stores
returns-then-op-gt51 c = ((λ lent h out. rw (c.requires.op_value, past _ 0o62 _ c.if-op-gt51.true (omega arith), past _ 0o63 _ c.if-op-gt51.true (omega arith), not_there _ 0o60 0 _ c.if-op-gt51.true (omega arith), not_there _ 0o60 1 _ c.if-op-gt51.true (omega arith)) (rw c.plus.ensures at (c.save.ensures.0 lent out))), c.save.ensures.1)

pub operand-requires : goal.operand-requires
unfolding takens lefts lengths
operand-requires c = omega (arith, rw c.in-48.is at c.requires.ready)

pub save-requires-in-48 : goal.save-requires-in-48
unfolding takens lefts lengths
save-requires-in-48 c = omega (arith, rw c.in-48.is at c.requires.ready)

pub operand-requires-in-49 : goal.operand-requires-in-49
unfolding takens lefts lengths
operand-requires-in-49 c = omega (arith, rw c.in-49.is at c.requires.ready)

pub save_pair-requires : goal.save_pair-requires
unfolding takens lefts lengths
save_pair-requires c = omega (arith, rw c.in-49.is at c.requires.ready, c.requires.store_len_bound)

pub operand-requires-in-50 : goal.operand-requires-in-50
unfolding takens lefts lengths
operand-requires-in-50 c = omega (arith, rw c.in-50.is at c.requires.ready)

pub base_of-requires : goal.base_of-requires
base_of-requires c = rw c.operand-in-50.ensures.0 (c.requires.r_bound (rw c.in-50.is refl))

pub operand-requires-in-50-2 : goal.operand-requires-in-50-2
unfolding takens lefts lengths
operand-requires-in-50-2 c = omega (arith, rw c.in-50.is at c.requires.ready)

pub save-requires-in-50 : goal.save-requires-in-50
unfolding takens lefts lengths
save-requires-in-50 c = omega (arith, rw c.in-50.is at c.requires.ready)

pub operand-requires-in_default : goal.operand-requires-in_default
unfolding takens lefts lengths
operand-requires-in_default c = omega (arith, rw (fourth-op _ 0o60 (omega (arith, c.requires.op_value)) c.if-op-gt51.false c.in_default.in_default-own.rest.0.0.1 c.in_default.in_default-own.rest.0.1 c.in_default.in_default-own.rest.1) at c.requires.ready)

pub base_of-requires-in_default : goal.base_of-requires-in_default
base_of-requires-in_default c = rw c.operand-in_default.ensures.0 (c.requires.r_bound (rw (fourth-op _ 0o60 (omega (arith, c.requires.op_value)) c.if-op-gt51.false c.in_default.in_default-own.rest.0.0.1 c.in_default.in_default-own.rest.0.1 c.in_default.in_default-own.rest.1) refl))

pub operand-requires-in_default-2 : goal.operand-requires-in_default-2
unfolding takens lefts lengths
operand-requires-in_default-2 c = omega (arith, rw (fourth-op _ 0o60 (omega (arith, c.requires.op_value)) c.if-op-gt51.false c.in_default.in_default-own.rest.0.0.1 c.in_default.in_default-own.rest.0.1 c.in_default.in_default-own.rest.1) at c.requires.ready)

pub save_pair-requires-in_default : goal.save_pair-requires-in_default
unfolding takens lefts lengths
save_pair-requires-in_default c = omega (arith, rw (fourth-op _ 0o60 (omega (arith, c.requires.op_value)) c.if-op-gt51.false c.in_default.in_default-own.rest.0.0.1 c.in_default.in_default-own.rest.0.1 c.in_default.in_default-own.rest.1) at c.requires.ready, c.requires.store_len_bound)

pub returns-in-48 : goal.returns-in-48
unfolding instruction decode_of row3 stores
returns-in-48 c = ((λ lent h out. rw c.in-48.is (rw (c.plus-in-48.ensures, c.operand.ensures.0) at (c.save-in-48.ensures.0 lent out))), c.save-in-48.ensures.1)

pub returns-in-49 : goal.returns-in-49
unfolding instruction decode_of row3 stores
returns-in-49 c = ((λ lent h out. rw c.in-49.is (rw (c.plus-in-49.ensures, c.operand-in-49.ensures.0) at (c.save_pair.ensures.0 lent out))), c.save_pair.ensures.1)

pub returns-in-50 : goal.returns-in-50
unfolding instruction decode_of row3 stores
returns-in-50 c = ((λ lent h out. rw (c.in-50.is, h.named _ (c.requires.r_bound (rw c.in-50.is refl))) (rw (c.plus-in-50.ensures, c.base_of.ensures, c.operand-in-50-2.ensures.0, c.operand-in-50.ensures.0) at (c.save-in-50.ensures.0 lent out))), c.save-in-50.ensures.1)

pub returns-in_default : goal.returns-in_default
unfolding instruction decode_of row3 stores
returns-in_default c = ((λ lent h out. rw (fourth-op _ 0o60 (omega (arith, c.requires.op_value)) c.if-op-gt51.false c.in_default.in_default-own.rest.0.0.1 c.in_default.in_default-own.rest.0.1 c.in_default.in_default-own.rest.1, h.named _ (c.requires.r_bound (rw (fourth-op _ 0o60 (omega (arith, c.requires.op_value)) c.if-op-gt51.false c.in_default.in_default-own.rest.0.0.1 c.in_default.in_default-own.rest.0.1 c.in_default.in_default-own.rest.1) refl))) (rw (c.plus-in_default.ensures, c.base_of-in_default.ensures, c.operand-in_default-2.ensures.0, c.operand-in_default.ensures.0) at (c.save_pair-in_default.ensures.0 lent out))), c.save_pair-in_default.ensures.1)
