use Rattle.mcode.specs.Decode.{decode_of, loads}
use Rattle.mcode.specs.Opcode.{takens, lefts, lengths}
use Rattle.actions.specs.Core.{instruction}
use Rattle.rows_low.proofs.Laws.{after_two, not_there, short4}
use native.Mathlib.Omega.{arith}
use Rattle.rows_low.proofs.row4.Goals as goal

pub operand-requires : goal.operand-requires
unfolding takens lefts lengths
operand-requires c = omega (arith, rw c.if-op-eq64.true at c.requires.ready)

pub load-requires : goal.load-requires
unfolding takens lefts lengths
load-requires c = omega (arith, rw c.if-op-eq64.true at c.requires.ready)

pub returns-then-op-eq64 : goal.returns-then-op-eq64
unfolding instruction decode_of loads
returns-then-op-eq64 c = ((λ lent numbers h out. rw (c.if-op-eq64.true, h.own) (rw (c.plus.ensures, c.operand.ensures.0) at (c.load.ensures.0 lent out))), c.load.ensures.1)

pub operand-requires-then-op-eq65 : goal.operand-requires-then-op-eq65
unfolding takens lefts lengths
operand-requires-then-op-eq65 c = omega (arith, rw c.if-op-eq65.true at c.requires.ready)

pub load_pair-requires : goal.load_pair-requires
unfolding takens lefts lengths
load_pair-requires c = omega (arith, rw c.if-op-eq65.true at c.requires.ready, c.requires.store_len_bound)

pub returns-then-op-eq65 : goal.returns-then-op-eq65
unfolding instruction decode_of loads
returns-then-op-eq65 c = ((λ lent numbers h out. rw (c.if-op-eq65.true, h.own) (rw (c.plus-then-op-eq65.ensures, c.operand-then-op-eq65.ensures.0) at (c.load_pair.ensures.0 lent out))), c.load_pair.ensures.1)

pub load-requires-2 : goal.load-requires-2
load-requires-2 c = omega (arith, short4 _ c.requires.op_value (after_two _ 0o100 (omega (arith, c.requires.op_value)) c.if-op-eq64.false c.if-op-eq65.false), c.requires.ready)

pub returns : goal.returns
unfolding instruction decode_of loads
returns c = ((λ lent numbers h out. rw (c.requires.op_value, not_there _ 0o100 0 _ (after_two _ 0o100 (omega (arith, c.requires.op_value)) c.if-op-eq64.false c.if-op-eq65.false) (omega arith), not_there _ 0o100 1 _ (after_two _ 0o100 (omega (arith, c.requires.op_value)) c.if-op-eq64.false c.if-op-eq65.false) (omega arith), h.own) (rw c.plus-2.ensures at (c.load-2.ensures.0 lent out))), c.load-2.ensures.1)
