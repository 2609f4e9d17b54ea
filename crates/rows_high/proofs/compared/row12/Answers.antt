use Rattle.rows_high.proofs.Laws.{is306, is317, from_zero}
use Rattle.rows_high.proofs.Families.{family-signed, by_two}
use Rattle.mcode.specs.Opcode.{takens, lefts, lengths}
use Rattle.mcode.specs.Decode.{decode_of, row12}
use Rattle.mcode.specs.Step.{perform_of}
use Rattle.mcode.specs.Word.{one_of, two_of, three_of}
use Rattle.actions.specs.Core.{instruction}
use native.Mathlib.Omega.{arith}
use Rattle.rows_high.proofs.compared.row12.Goals as goal

pub trap-requires : goal.trap-requires
unfolding takens lefts lengths
trap-requires c = omega (arith, rw c.in-196.is at c.requires.stacked)

pub nth_of-requires : goal.nth_of-requires
unfolding takens lefts lengths
nth_of-requires c = omega (arith, rw c.in-197.is at c.requires.stacked)

pub nth_of-requires-in-197 : goal.nth_of-requires-in-197
unfolding takens lefts lengths
nth_of-requires-in-197 c = omega (arith, rw c.in-197.is at c.requires.stacked)

pub nth_of-requires-in-197-2 : goal.nth_of-requires-in-197-2
unfolding takens lefts lengths
nth_of-requires-in-197-2 c = omega (arith, rw c.in-197.is at c.requires.stacked)

pub computed-requires : goal.computed-requires
unfolding takens lefts lengths
computed-requires c = omega (arith, rw c.in-197.is at c.requires.stacked)

pub nth_of-requires-in_default : goal.nth_of-requires-in_default
unfolding takens lefts lengths
nth_of-requires-in_default c = omega (arith, rw (is306 c.args.op c.ranges.op.fits c.requires.op_value c.requires.bound c.if-op-lt200.true c.in_default.in_default-own.rest) at c.requires.stacked)

pub nth_of-requires-in_default-2 : goal.nth_of-requires-in_default-2
unfolding takens lefts lengths
nth_of-requires-in_default-2 c = omega (arith, rw (is306 c.args.op c.ranges.op.fits c.requires.op_value c.requires.bound c.if-op-lt200.true c.in_default.in_default-own.rest) at c.requires.stacked)

pub computed-requires-in_default : goal.computed-requires-in_default
unfolding takens lefts lengths
computed-requires-in_default c = omega (arith, rw (is306 c.args.op c.ranges.op.fits c.requires.op_value c.requires.bound c.if-op-lt200.true c.in_default.in_default-own.rest) at c.requires.stacked)

pub returns-in-196 : goal.returns-in-196
unfolding instruction decode_of row12 perform_of one_of two_of three_of
returns-in-196 c = ((λ lent o store out. rw c.in-196.is (c.trap.ensures.0 lent 0 store out)), c.trap.ensures.1)

pub returns-in-197 : goal.returns-in-197
unfolding instruction decode_of row12 perform_of one_of two_of three_of
returns-in-197 c = ((λ lent o store out. rw c.in-197.is (rw (c.within.ensures, c.nth_of-in-197-2.ensures, c.nth_of-in-197.ensures, c.nth_of.ensures) at (c.computed.ensures.0 store out))), c.computed.ensures.1)

pub returns-in_default : goal.returns-in_default
unfolding instruction decode_of row12 perform_of one_of two_of three_of
returns-in_default c = ((λ lent o store out. rw (is306 c.args.op c.ranges.op.fits c.requires.op_value c.requires.bound c.if-op-lt200.true c.in_default.in_default-own.rest) (rw (c.within-in_default.ensures, from_zero c.nth_of-in_default.result, c.nth_of-in_default-2.ensures, c.nth_of-in_default.ensures) at (c.computed-in_default.ensures.0 store out))), c.computed-in_default.ensures.1)

pub nth_of-requires-then-op-lt206 : goal.nth_of-requires-then-op-lt206
nth_of-requires-then-op-lt206 c = omega (arith, (family-signed c.args.op c.if-op-lt200.false (omega (arith, c.if-op-lt206.true))).takes, c.requires.stacked.deep, c.requires.stacked.most)

pub nth_of-requires-then-op-lt206-2 : goal.nth_of-requires-then-op-lt206-2
nth_of-requires-then-op-lt206-2 c = omega (arith, (family-signed c.args.op c.if-op-lt200.false (omega (arith, c.if-op-lt206.true))).takes, c.requires.stacked.deep, c.requires.stacked.most)

pub computed-requires-then-op-lt206 : goal.computed-requires-then-op-lt206
computed-requires-then-op-lt206 c = omega (arith, (family-signed c.args.op c.if-op-lt200.false (omega (arith, c.if-op-lt206.true))).takes, c.requires.stacked.deep, c.requires.stacked.most, c.requires.stacked.own)

pub returns-then-op-lt206 : goal.returns-then-op-lt206
returns-then-op-lt206 c = ((λ lent o store out. by_two _ _ _ _ (family-signed c.args.op c.if-op-lt200.false (omega (arith, c.if-op-lt206.true))) c.compared_signed.ensures c.nth_of-then-op-lt206.ensures c.nth_of-then-op-lt206-2.ensures (c.computed-then-op-lt206.ensures.0 store out) lent o), c.computed-then-op-lt206.ensures.1)

pub nth_of-requires-in-206 : goal.nth_of-requires-in-206
unfolding takens lefts lengths
nth_of-requires-in-206 c = omega (arith, rw c.in-206.is at c.requires.stacked)

pub computed-requires-in-206 : goal.computed-requires-in-206
unfolding takens lefts lengths
computed-requires-in-206 c = omega (arith, rw c.in-206.is at c.requires.stacked)

pub nth_of-requires-in_default-op : goal.nth_of-requires-in_default-op
unfolding takens lefts lengths
nth_of-requires-in_default-op c = omega (arith, rw (is317 c.args.op c.ranges.op.fits c.requires.op_value c.requires.bound c.if-op-lt206.false c.in_default-op.in_default-op-own.rest) at c.requires.stacked)

pub computed-requires-in_default-op : goal.computed-requires-in_default-op
unfolding takens lefts lengths
computed-requires-in_default-op c = omega (arith, rw (is317 c.args.op c.ranges.op.fits c.requires.op_value c.requires.bound c.if-op-lt206.false c.in_default-op.in_default-op-own.rest) at c.requires.stacked)

pub returns-in-206 : goal.returns-in-206
unfolding instruction decode_of row12 perform_of one_of two_of three_of
returns-in-206 c = ((λ lent o store out. rw c.in-206.is (rw (c.abs.ensures, c.nth_of-in-206.ensures) at (c.computed-in-206.ensures.0 store out))), c.computed-in-206.ensures.1)

pub returns-in_default-op : goal.returns-in_default-op
unfolding instruction decode_of row12 perform_of one_of two_of three_of
returns-in_default-op c = ((λ lent o store out. rw (is317 c.args.op c.ranges.op.fits c.requires.op_value c.requires.bound c.if-op-lt206.false c.in_default-op.in_default-op-own.rest) (rw (c.neg.ensures, c.nth_of-in_default-op.ensures) at (c.computed-in_default-op.ensures.0 store out))), c.computed-in_default-op.ensures.1)
