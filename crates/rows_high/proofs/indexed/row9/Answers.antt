use Rattle.rows_high.proofs.Laws.{is222, is226}
use Rattle.mcode.specs.Opcode.{takens, lefts, lengths}
use Rattle.mcode.specs.Decode.{decode_of, row9}
use Rattle.actions.specs.Core.{instruction}
use native.Mathlib.Omega.{arith}
use Rattle.rows_high.proofs.indexed.row9.Goals as goal

pub operand-requires : goal.operand-requires
unfolding takens lefts lengths
operand-requires c = omega (arith, rw c.in-144.is at c.requires.ready)

pub save_below-requires : goal.save_below-requires
unfolding takens lefts lengths
save_below-requires c = omega (arith, rw c.in-144.is at c.requires.ready)

pub operand-requires-in-145 : goal.operand-requires-in-145
unfolding takens lefts lengths
operand-requires-in-145 c = omega (arith, rw c.in-145.is at c.requires.ready)

pub save_pair_below-requires : goal.save_pair_below-requires
unfolding takens lefts lengths
save_pair_below-requires c = omega (arith, rw c.in-145.is at c.requires.ready, c.requires.store_len_bound)

pub save_pair_below-requires-in_default : goal.save_pair_below-requires-in_default
unfolding takens lefts lengths
save_pair_below-requires-in_default c = omega (arith, rw (is222 c.args.op c.requires.op_value c.if-op-lt147.true c.in_default.in_default-own.rest) at c.requires.ready, c.requires.store_len_bound)

pub returns-in-144 : goal.returns-in-144
unfolding instruction decode_of row9
returns-in-144 c = ((λ lent out. rw c.in-144.is (rw c.operand.ensures.0 at (c.save_below.ensures.0 lent out))), c.save_below.ensures.1)

pub returns-in-145 : goal.returns-in-145
unfolding instruction decode_of row9
returns-in-145 c = ((λ lent out. rw c.in-145.is (rw c.operand-in-145.ensures.0 at (c.save_pair_below.ensures.0 lent out))), c.save_pair_below.ensures.1)

pub returns-in_default : goal.returns-in_default
unfolding instruction decode_of row9
returns-in_default c = ((λ lent out. rw (is222 c.args.op c.requires.op_value c.if-op-lt147.true c.in_default.in_default-own.rest) (c.save_pair_below-in_default.ensures.0 lent out)), c.save_pair_below-in_default.ensures.1)

pub save_byte-requires : goal.save_byte-requires
unfolding takens lefts lengths
save_byte-requires c = omega (arith, rw c.in-149.is at c.requires.ready)

pub save_indexed-requires : goal.save_indexed-requires
unfolding takens lefts lengths
save_indexed-requires c = omega (arith, rw (is226 c.args.op c.ranges.op.fits c.requires.op_value c.requires.bound c.if-op-lt147.false c.in_default-op.in_default-op-own.rest) at c.requires.ready)

pub returns-in-149 : goal.returns-in-149
unfolding instruction decode_of row9
returns-in-149 c = ((λ lent out. rw c.in-149.is (c.save_byte.ensures.0 lent out)), c.save_byte.ensures.1)

pub returns-in_default-op : goal.returns-in_default-op
unfolding instruction decode_of row9
returns-in_default-op c = ((λ lent out. rw (is226 c.args.op c.ranges.op.fits c.requires.op_value c.requires.bound c.if-op-lt147.false c.in_default-op.in_default-op-own.rest) (c.save_indexed.ensures.0 lent out)), c.save_indexed.ensures.1)
