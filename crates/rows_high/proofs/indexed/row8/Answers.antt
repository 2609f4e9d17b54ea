use Rattle.rows_high.proofs.Laws.{is202, is206, to211}
use Rattle.rows_high.proofs.Families.{family-double}
use Rattle.mcode.specs.Opcode.{takens, lefts, lengths}
use Rattle.mcode.specs.Decode.{decode_of, row8}
use Rattle.actions.specs.Core.{instruction}
use native.Mathlib.Omega.{arith}
use Rattle.rows_high.proofs.indexed.row8.Goals as goal

pub operand-requires : goal.operand-requires
unfolding takens lefts lengths
operand-requires c = omega (arith, rw c.in-128.is at c.requires.ready)

pub load_top-requires : goal.load_top-requires
unfolding takens lefts lengths
load_top-requires c = omega (arith, rw c.in-128.is at c.requires.ready)

pub operand-requires-in-129 : goal.operand-requires-in-129
unfolding takens lefts lengths
operand-requires-in-129 c = omega (arith, rw c.in-129.is at c.requires.ready)

pub load_pair_top-requires : goal.load_pair_top-requires
unfolding takens lefts lengths
load_pair_top-requires c = omega (arith, rw c.in-129.is at c.requires.ready, c.requires.store_len_bound)

pub load_pair_top-requires-in_default : goal.load_pair_top-requires-in_default
unfolding takens lefts lengths
load_pair_top-requires-in_default c = omega (arith, rw (is202 c.args.op c.requires.op_value c.if-op-lt131.true c.in_default.in_default-own.rest) at c.requires.ready, c.requires.store_len_bound)

pub returns-in-128 : goal.returns-in-128
unfolding instruction decode_of row8
returns-in-128 c = ((λ lent out. rw c.in-128.is (rw c.operand.ensures.0 at (c.load_top.ensures.0 lent out))), c.load_top.ensures.1)

pub returns-in-129 : goal.returns-in-129
unfolding instruction decode_of row8
returns-in-129 c = ((λ lent out. rw c.in-129.is (rw c.operand-in-129.ensures.0 at (c.load_pair_top.ensures.0 lent out))), c.load_pair_top.ensures.1)

pub returns-in_default : goal.returns-in_default
unfolding instruction decode_of row8
returns-in_default c = ((λ lent out. rw (is202 c.args.op c.requires.op_value c.if-op-lt131.true c.in_default.in_default-own.rest) (c.load_pair_top-in_default.ensures.0 lent out)), c.load_pair_top-in_default.ensures.1)

pub load_byte-requires : goal.load_byte-requires
unfolding takens lefts lengths
load_byte-requires c = omega (arith, rw c.in-133.is at c.requires.ready)

pub load_indexed-requires : goal.load_indexed-requires
unfolding takens lefts lengths
load_indexed-requires c = omega (arith, rw (is206 c.args.op c.ranges.op.fits c.requires.op_value c.requires.bound c.if-op-lt131.false c.if-op-lt136.true c.in_default-op.in_default-op-own.rest) at c.requires.ready)

pub returns-in-133 : goal.returns-in-133
unfolding instruction decode_of row8
returns-in-133 c = ((λ lent out. rw c.in-133.is (c.load_byte.ensures.0 lent out)), c.load_byte.ensures.1)

pub returns-in_default-op : goal.returns-in_default-op
unfolding instruction decode_of row8
returns-in_default-op c = ((λ lent out. rw (is206 c.args.op c.ranges.op.fits c.requires.op_value c.requires.bound c.if-op-lt131.false c.if-op-lt136.true c.in_default-op.in_default-op-own.rest) (c.load_indexed.ensures.0 lent out)), c.load_indexed.ensures.1)

pub double-requires : goal.double-requires
double-requires c = let l = to211 c.args.op c.ranges.op.fits c.requires.op_value c.requires.bound c.if-op-lt136.false in
    (c.if-op-lt136.false, l, omega (arith, (family-double _ c.if-op-lt136.false l).takes, c.requires.ready), omega (arith, c.requires.ready), omega (arith, c.requires.ready))

pub returns : goal.returns
unfolding instruction
returns c = ((λ lent out. rw (family-double _ c.if-op-lt136.false (to211 c.args.op c.ranges.op.fits c.requires.op_value c.requires.bound c.if-op-lt136.false)).decodes (c.double.ensures.0 lent _ out)), c.double.ensures.1)
