use Rattle.mcode.specs.Decode.{decode_of, stores}
use Rattle.mcode.specs.Opcode.{takens, lefts, lengths}
use Rattle.actions.specs.Core.{instruction}
use Rattle.rows_low.proofs.Laws.{after_two, not_there, short5}
use native.Mathlib.Omega.{arith}
use Rattle.rows_low.proofs.row5.Goals as goal

pub operand-requires : goal.operand-requires
unfolding takens lefts lengths
operand-requires c = omega (arith, rw c.if-op-eq80.true at c.requires.ready)

pub save-requires : goal.save-requires
unfolding takens lefts lengths
save-requires c = omega (arith, rw c.if-op-eq80.true at c.requires.ready)

pub returns-then-op-eq80 : goal.returns-then-op-eq80
unfolding instruction decode_of stores
returns-then-op-eq80 c = ((λ lent numbers h out. rw (c.if-op-eq80.true, h.own) (rw (c.plus.ensures, c.operand.ensures.0) at (c.save.ensures.0 lent out))), c.save.ensures.1)

pub operand-requires-then-op-eq81 : goal.operand-requires-then-op-eq81
unfolding takens lefts lengths
operand-requires-then-op-eq81 c = omega (arith, rw c.if-op-eq81.true at c.requires.ready)

pub save_pair-requires : goal.save_pair-requires
unfolding takens lefts lengths
save_pair-requires c = omega (arith, rw c.if-op-eq81.true at c.requires.ready, c.requires.store_len_bound)

pub returns-then-op-eq81 : goal.returns-then-op-eq81
unfolding instruction decode_of stores
returns-then-op-eq81 c = ((λ lent numbers h out. rw (c.if-op-eq81.true, h.own) (rw (c.plus-then-op-eq81.ensures, c.operand-then-op-eq81.ensures.0) at (c.save_pair.ensures.0 lent out))), c.save_pair.ensures.1)

pub save-requires-2 : goal.save-requires-2
save-requires-2 c = omega (arith, short5 _ c.requires.op_value (after_two _ 0o120 (omega (arith, c.requires.op_value)) c.if-op-eq80.false c.if-op-eq81.false), c.requires.ready)

pub returns : goal.returns
unfolding instruction decode_of stores
returns c = ((λ lent numbers h out. rw (c.requires.op_value, not_there _ 0o120 0 _ (after_two _ 0o120 (omega (arith, c.requires.op_value)) c.if-op-eq80.false c.if-op-eq81.false) (omega arith), not_there _ 0o120 1 _ (after_two _ 0o120 (omega (arith, c.requires.op_value)) c.if-op-eq80.false c.if-op-eq81.false) (omega arith), h.own) (rw c.plus-2.ensures at (c.save-2.ensures.0 lent out))), c.save-2.ensures.1)
