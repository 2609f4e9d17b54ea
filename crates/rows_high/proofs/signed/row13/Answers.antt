use Rattle.rows_high.proofs.Laws.{is336, next-own}
use Rattle.rows_high.proofs.Families.{family-bitwise, by_two}
use Rattle.mcode.specs.Opcode.{takens, lefts, lengths}
use Rattle.mcode.specs.Decode.{decode_of, row13}
use Rattle.mcode.specs.Step.{perform_of}
use Rattle.mcode.specs.Word.{one_of, two_of}
use Rattle.actions.specs.Core.{instruction}
use Rattle.actions.proofs.Laws.{stays_at}
use native.Mathlib.Omega.{arith}
use Rattle.rows_high.proofs.signed.row13.Goals as goal

pub nth_of-requires : goal.nth_of-requires
nth_of-requires c = omega (arith, (family-bitwise c.args.op (omega (arith, c.requires.op_value)) (omega (arith, c.if-op-lt211.true))).takes, c.requires.stacked.deep, c.requires.stacked.most)

pub nth_of-requires-then-op-lt211 : goal.nth_of-requires-then-op-lt211
nth_of-requires-then-op-lt211 c = omega (arith, (family-bitwise c.args.op (omega (arith, c.requires.op_value)) (omega (arith, c.if-op-lt211.true))).takes, c.requires.stacked.deep, c.requires.stacked.most)

pub computed-requires : goal.computed-requires
computed-requires c = omega (arith, (family-bitwise c.args.op (omega (arith, c.requires.op_value)) (omega (arith, c.if-op-lt211.true))).takes, c.requires.stacked.deep, c.requires.stacked.most, c.requires.stacked.own)

pub returns-then-op-lt211 : goal.returns-then-op-lt211
returns-then-op-lt211 c = ((λ lent o store out. by_two _ _ _ _ (family-bitwise c.args.op (omega (arith, c.requires.op_value)) (omega (arith, c.if-op-lt211.true))) c.bitwise.ensures c.nth_of.ensures c.nth_of-then-op-lt211.ensures (c.computed.ensures.0 store out) lent o), c.computed.ensures.1)

pub nth_of-requires-in-211 : goal.nth_of-requires-in-211
unfolding takens lefts lengths
nth_of-requires-in-211 c = omega (arith, rw c.in-211.is at c.requires.stacked)

pub replace-requires : goal.replace-requires
unfolding takens lefts lengths
replace-requires c = omega (arith, rw c.in-211.is at c.requires.stacked)

pub nth_of-requires-in-215 : goal.nth_of-requires-in-215
unfolding takens lefts lengths
nth_of-requires-in-215 c = omega (arith, rw c.in-215.is at c.requires.stacked)

pub replace-requires-in-215 : goal.replace-requires-in-215
unfolding takens lefts lengths
replace-requires-in-215 c = omega (arith, rw c.in-215.is at c.requires.stacked)

pub nth_of-requires-in-216 : goal.nth_of-requires-in-216
unfolding takens lefts lengths
nth_of-requires-in-216 c = omega (arith, rw c.in-216.is at c.requires.stacked)

pub nth_of-requires-in-216-2 : goal.nth_of-requires-in-216-2
unfolding takens lefts lengths
nth_of-requires-in-216-2 c = omega (arith, rw c.in-216.is at c.requires.stacked)

pub computed-requires-in-216 : goal.computed-requires-in-216
unfolding takens lefts lengths
computed-requires-in-216 c = omega (arith, rw c.in-216.is at c.requires.stacked)

pub nth_of-requires-in-217 : goal.nth_of-requires-in-217
unfolding takens lefts lengths
nth_of-requires-in-217 c = omega (arith, rw c.in-217.is at c.requires.stacked)

pub nth_of-requires-in-217-2 : goal.nth_of-requires-in-217-2
unfolding takens lefts lengths
nth_of-requires-in-217-2 c = omega (arith, rw c.in-217.is at c.requires.stacked)

pub computed-requires-in-217 : goal.computed-requires-in-217
unfolding takens lefts lengths
computed-requires-in-217 c = omega (arith, rw c.in-217.is at c.requires.stacked)

pub nth_of-requires-in-218 : goal.nth_of-requires-in-218
unfolding takens lefts lengths
nth_of-requires-in-218 c = omega (arith, rw c.in-218.is at c.requires.stacked)

pub nth_of-requires-in-218-2 : goal.nth_of-requires-in-218-2
unfolding takens lefts lengths
nth_of-requires-in-218-2 c = omega (arith, rw c.in-218.is at c.requires.stacked)

pub computed-requires-in-218 : goal.computed-requires-in-218
unfolding takens lefts lengths
computed-requires-in-218 c = omega (arith, rw c.in-218.is at c.requires.stacked)

pub nth_of-requires-in-219 : goal.nth_of-requires-in-219
unfolding takens lefts lengths
nth_of-requires-in-219 c = omega (arith, rw c.in-219.is at c.requires.stacked)

pub nth_of-requires-in-219-2 : goal.nth_of-requires-in-219-2
unfolding takens lefts lengths
nth_of-requires-in-219-2 c = omega (arith, rw c.in-219.is at c.requires.stacked)

pub computed-requires-in-219 : goal.computed-requires-in-219
unfolding takens lefts lengths
computed-requires-in-219 c = omega (arith, rw c.in-219.is at c.requires.stacked)

pub returns-in-211 : goal.returns-in-211
unfolding instruction decode_of row13 perform_of one_of two_of
returns-in-211 c = ((λ lent o store out. rw (c.in-211.is, c.replace.ensures.0, c.replace.ensures.1, c.nth_of-in-211.ensures)), stays_at _ _ _ _ (next-own c.requires.stacked.own) c.replace.ensures.0)

pub returns-in-215 : goal.returns-in-215
unfolding instruction decode_of row13 perform_of one_of two_of
returns-in-215 c = ((λ lent o store out. rw (c.in-215.is, c.replace-in-215.ensures.0, c.replace-in-215.ensures.1, c.truth.ensures, c.nth_of-in-215.ensures)), stays_at _ _ _ _ (next-own c.requires.stacked.own) c.replace-in-215.ensures.0)

pub returns-in-216 : goal.returns-in-216
unfolding instruction decode_of row13 perform_of one_of two_of
returns-in-216 c = ((λ lent o store out. rw c.in-216.is (rw (c.add.ensures, c.nth_of-in-216-2.ensures, c.nth_of-in-216.ensures) at (c.computed-in-216.ensures.0 store out))), c.computed-in-216.ensures.1)

pub returns-in-217 : goal.returns-in-217
unfolding instruction decode_of row13 perform_of one_of two_of
returns-in-217 c = ((λ lent o store out. rw c.in-217.is (rw (c.sub.ensures, c.nth_of-in-217-2.ensures, c.nth_of-in-217.ensures) at (c.computed-in-217.ensures.0 store out))), c.computed-in-217.ensures.1)

pub returns-in-218 : goal.returns-in-218
unfolding instruction decode_of row13 perform_of one_of two_of
returns-in-218 c = ((λ lent o store out. rw c.in-218.is (rw (c.mul.ensures, c.nth_of-in-218-2.ensures, c.nth_of-in-218.ensures) at (c.computed-in-218.ensures.0 store out))), c.computed-in-218.ensures.1)

pub returns-in-219 : goal.returns-in-219
unfolding instruction decode_of row13 perform_of one_of two_of
returns-in-219 c = ((λ lent o store out. rw c.in-219.is (rw (c.div.ensures, c.nth_of-in-219-2.ensures, c.nth_of-in-219.ensures) at (c.computed-in-219.ensures.0 store out))), c.computed-in-219.ensures.1)

pub returns-in_default : goal.returns-in_default
unfolding instruction decode_of row13 perform_of one_of two_of
returns-in_default c = ((λ lent o store out. rw (is336 c.args.op c.ranges.op.fits c.requires.op_value c.requires.bound c.if-op-lt211.false c.in_default.in_default-own.rest) (c.nothing.ensures.0 lent _ store out)), c.nothing.ensures.1)
