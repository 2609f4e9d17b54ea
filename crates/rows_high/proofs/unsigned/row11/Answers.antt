use Rattle.rows_high.proofs.Laws.{next-own, is265, is273, is277}
use Rattle.rows_high.proofs.Families.{family-sums, by_two}
use Rattle.mcode.specs.Opcode.{takens, lefts, lengths}
use Rattle.mcode.specs.Decode.{decode_of, row11}
use Rattle.mcode.specs.Step.{perform_of}
use Rattle.mcode.specs.Word.{two_of}
use Rattle.actions.specs.Core.{instruction}
use native.Mathlib.Omega.{arith}
use Rattle.actions.proofs.Laws.{stays_at}
use Rattle.rows_high.proofs.unsigned.row11.Goals as goal

pub nth_of-requires : goal.nth_of-requires
nth_of-requires c = omega (arith, (family-sums c.args.op c.if-op-gt183.true (omega (arith, c.if-op-lt187.true))).takes, c.requires.stacked.deep, c.requires.stacked.most)

pub nth_of-requires-then-op-gt183 : goal.nth_of-requires-then-op-gt183
nth_of-requires-then-op-gt183 c = omega (arith, (family-sums c.args.op c.if-op-gt183.true (omega (arith, c.if-op-lt187.true))).takes, c.requires.stacked.deep, c.requires.stacked.most)

pub computed-requires : goal.computed-requires
computed-requires c = omega (arith, (family-sums c.args.op c.if-op-gt183.true (omega (arith, c.if-op-lt187.true))).takes, c.requires.stacked.deep, c.requires.stacked.most, c.requires.stacked.own)

pub returns-then-op-gt183 : goal.returns-then-op-gt183
returns-then-op-gt183 c = ((λ lent bytes numbers words h a o out. by_two _ _ _ _ (family-sums c.args.op c.if-op-gt183.true (omega (arith, c.if-op-lt187.true))) c.sums.ensures c.nth_of.ensures c.nth_of-then-op-gt183.ensures (c.computed.ensures.0 c.args.store.now out) lent o), c.computed.ensures.1)

pub fetch-requires : goal.fetch-requires
unfolding takens
fetch-requires c = record { roomy = c.requires.roomy; le_depth = (omega (arith, rw c.in-176.is at c.requires.stacked.deep), c.requires.stacked.most, omega (arith, c.requires.stacked.own), c.requires.pc_in_bounds.0, c.requires.pc_in_bounds.1 c.in-176.is) }

pub copy-requires : goal.copy-requires
unfolding takens lefts lengths
copy-requires c = omega (arith, rw (is265 c.args.op c.ranges.op.fits c.requires.op_value c.requires.bound c.if-op-gt183.false c.in_default.in_default-own.rest) at c.requires.stacked)

pub returns-in-176 : goal.returns-in-176
unfolding instruction decode_of row11
returns-in-176 c = ((λ lent bytes numbers words h a o out. rw c.in-176.is (c.fetch.ensures.0 lent bytes numbers words h a out)), c.fetch.ensures.1)

pub returns-in-178 : goal.returns-in-178
unfolding instruction decode_of row11
returns-in-178 c = ((λ lent bytes numbers words h a o out. rw c.in-178.is (c.save.ensures.0 lent out)), c.save.ensures.1)

pub returns-in_default : goal.returns-in_default
unfolding instruction decode_of row11 perform_of two_of
returns-in_default c = ((λ lent bytes numbers words h a o out. rw (is265 c.args.op c.ranges.op.fits c.requires.op_value c.requires.bound c.if-op-gt183.false c.in_default.in_default-own.rest) (c.copy.ensures.0 lent c.args.store.now out)), c.copy.ensures.1)

pub nth_of-requires-then-op-eq188 : goal.nth_of-requires-then-op-eq188
unfolding takens lefts lengths
nth_of-requires-then-op-eq188 c = omega (arith, rw c.if-op-eq188.true at c.requires.stacked)

pub nth_of-requires-then-op-eq188-2 : goal.nth_of-requires-then-op-eq188-2
unfolding takens lefts lengths
nth_of-requires-then-op-eq188-2 c = omega (arith, rw c.if-op-eq188.true at c.requires.stacked)

pub computed-requires-then-op-eq188 : goal.computed-requires-then-op-eq188
unfolding takens lefts lengths
computed-requires-then-op-eq188 c = omega (arith, rw c.if-op-eq188.true at c.requires.stacked)

pub nth_of-requires-else-op-eq188 : goal.nth_of-requires-else-op-eq188
unfolding takens lefts lengths
nth_of-requires-else-op-eq188 c = omega (arith, rw (is273 c.args.op c.if-op-lt187.false c.if-op-lt189.true c.if-op-eq188.false) at c.requires.stacked)

pub nth_of-requires-else-op-eq188-2 : goal.nth_of-requires-else-op-eq188-2
unfolding takens lefts lengths
nth_of-requires-else-op-eq188-2 c = omega (arith, rw (is273 c.args.op c.if-op-lt187.false c.if-op-lt189.true c.if-op-eq188.false) at c.requires.stacked)

pub computed-requires-else-op-eq188 : goal.computed-requires-else-op-eq188
unfolding takens lefts lengths
computed-requires-else-op-eq188 c = omega (arith, rw (is273 c.args.op c.if-op-lt187.false c.if-op-lt189.true c.if-op-eq188.false) at c.requires.stacked)

pub returns-then-op-eq188 : goal.returns-then-op-eq188
unfolding instruction decode_of row11 perform_of two_of
returns-then-op-eq188 c = ((λ lent bytes numbers words h a o out. rw c.if-op-eq188.true (rw (c.rem.ensures, c.nth_of-then-op-eq188-2.ensures, c.nth_of-then-op-eq188.ensures) at (c.computed-then-op-eq188.ensures.0 c.args.store.now out))), c.computed-then-op-eq188.ensures.1)

pub returns-else-op-eq188 : goal.returns-else-op-eq188
unfolding instruction decode_of row11 perform_of two_of
returns-else-op-eq188 c = ((λ lent bytes numbers words h a o out. rw (is273 c.args.op c.if-op-lt187.false c.if-op-lt189.true c.if-op-eq188.false) (rw (c.div.ensures, c.nth_of-else-op-eq188-2.ensures, c.nth_of-else-op-eq188.ensures) at (c.computed-else-op-eq188.ensures.0 c.args.store.now out))), c.computed-else-op-eq188.ensures.1)

pub nth_of-requires-in-189 : goal.nth_of-requires-in-189
unfolding takens lefts lengths
nth_of-requires-in-189 c = omega (arith, rw c.in-189.is at c.requires.stacked)

pub nth_of-requires-in-189-2 : goal.nth_of-requires-in-189-2
unfolding takens lefts lengths
nth_of-requires-in-189-2 c = omega (arith, rw c.in-189.is at c.requires.stacked)

pub replace-requires : goal.replace-requires
unfolding takens lefts lengths
replace-requires c = omega (arith, rw c.in-189.is at c.requires.stacked)

pub nth_of-requires-in-190 : goal.nth_of-requires-in-190
unfolding takens lefts lengths
nth_of-requires-in-190 c = omega (arith, rw c.in-190.is at c.requires.stacked)

pub nth_of-requires-in-190-2 : goal.nth_of-requires-in-190-2
unfolding takens lefts lengths
nth_of-requires-in-190-2 c = omega (arith, rw c.in-190.is at c.requires.stacked)

pub replace-requires-in-190 : goal.replace-requires-in-190
unfolding takens lefts lengths
replace-requires-in-190 c = omega (arith, rw c.in-190.is at c.requires.stacked)

pub nth_of-requires-in_default-op : goal.nth_of-requires-in_default-op
unfolding takens lefts lengths
nth_of-requires-in_default-op c = omega (arith, rw (is277 c.args.op c.ranges.op.fits c.requires.op_value c.requires.bound c.if-op-lt189.false c.in_default-op.in_default-op-own.rest) at c.requires.stacked)

pub nth_of-requires-in_default-op-2 : goal.nth_of-requires-in_default-op-2
unfolding takens lefts lengths
nth_of-requires-in_default-op-2 c = omega (arith, rw (is277 c.args.op c.ranges.op.fits c.requires.op_value c.requires.bound c.if-op-lt189.false c.in_default-op.in_default-op-own.rest) at c.requires.stacked)

pub replace-requires-in_default-op : goal.replace-requires-in_default-op
unfolding takens lefts lengths
replace-requires-in_default-op c = omega (arith, rw (is277 c.args.op c.ranges.op.fits c.requires.op_value c.requires.bound c.if-op-lt189.false c.in_default-op.in_default-op-own.rest) at c.requires.stacked)

pub returns-in-189 : goal.returns-in-189
unfolding instruction decode_of row11 perform_of two_of
returns-in-189 c = ((λ lent bytes numbers words h a o out. rw (c.in-189.is, c.replace.ensures.0, c.replace.ensures.1, c.rotate.ensures, c.nth_of-in-189-2.ensures, c.nth_of-in-189.ensures)), stays_at _ _ _ _ (next-own c.requires.stacked.own) c.replace.ensures.0)

pub returns-in-190 : goal.returns-in-190
unfolding instruction decode_of row11 perform_of two_of
returns-in-190 c = ((λ lent bytes numbers words h a o out. rw (c.in-190.is, c.replace-in-190.ensures.0, c.replace-in-190.ensures.1, c.shl.ensures, c.nth_of-in-190-2.ensures, c.nth_of-in-190.ensures)), stays_at _ _ _ _ (next-own c.requires.stacked.own) c.replace-in-190.ensures.0)

pub returns-in_default-op : goal.returns-in_default-op
unfolding instruction decode_of row11 perform_of two_of
returns-in_default-op c = ((λ lent bytes numbers words h a o out. rw ((is277 c.args.op c.ranges.op.fits c.requires.op_value c.requires.bound c.if-op-lt189.false c.in_default-op.in_default-op-own.rest), c.replace-in_default-op.ensures.0, c.replace-in_default-op.ensures.1, c.shr.ensures, c.nth_of-in_default-op-2.ensures, c.nth_of-in_default-op.ensures)), stays_at _ _ _ _ (next-own c.requires.stacked.own) c.replace-in_default-op.ensures.0)
