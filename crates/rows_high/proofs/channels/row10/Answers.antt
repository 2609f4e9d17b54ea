use Rattle.rows_high.proofs.Laws.{is245, takes_none}
use Rattle.rows_high.proofs.Families.{family-compared, inside, by_two}
use Rattle.mcode.specs.Opcode.{takens, lefts, lengths}
use Rattle.mcode.specs.Decode.{decode_of, row10}
use Rattle.mcode.specs.Step.{perform_of}
use Rattle.mcode.specs.Word.{three_of}
use Rattle.actions.specs.Core.{instruction}
use Rattle.control.proofs.Laws.{anchored-on}
use mathlib.Core.Path.{sym, ◌∙◌}
use native.Mathlib.Omega.{arith}
use Rattle.rows_high.proofs.channels.row10.Goals as goal

pub write-requires : goal.write-requires
unfolding takens lefts lengths
write-requires c = omega (arith, rw c.if-op-eq161.true at c.requires.ready, c.requires.start_bound)

pub returns-then-op-eq161 : goal.returns-then-op-eq161
unfolding instruction decode_of row10 perform_of three_of
returns-then-op-eq161 c = ((λ lent h. rw c.if-op-eq161.true (c.write.ensures.0 lent _)), takes_none c.args.op c.args.r c.args.stack.now c.write.result c.args.taken.now (λ z. omega (arith, c.if-op-eq161.true, z)), anchored-on c.requires.anchored c.write.ensures.1)

pub nth_of-requires : goal.nth_of-requires
nth_of-requires c = omega (arith, (family-compared c.args.op (inside c.args.op (sym c.compares.ensures ∙ c.if-compares.true)).0 (inside c.args.op (sym c.compares.ensures ∙ c.if-compares.true)).1).takes, c.requires.ready.deep, c.requires.ready.most)

pub nth_of-requires-then-compares : goal.nth_of-requires-then-compares
nth_of-requires-then-compares c = omega (arith, (family-compared c.args.op (inside c.args.op (sym c.compares.ensures ∙ c.if-compares.true)).0 (inside c.args.op (sym c.compares.ensures ∙ c.if-compares.true)).1).takes, c.requires.ready.deep, c.requires.ready.most)

pub compared-requires : goal.compared-requires
compared-requires c = inside c.args.op (sym c.compares.ensures ∙ c.if-compares.true)

pub computed-requires : goal.computed-requires
computed-requires c = omega (arith, (family-compared c.args.op (inside c.args.op (sym c.compares.ensures ∙ c.if-compares.true)).0 (inside c.args.op (sym c.compares.ensures ∙ c.if-compares.true)).1).takes, c.requires.ready.deep, c.requires.ready.most, c.requires.ready.own)

pub returns-then-compares : goal.returns-then-compares
returns-then-compares c = ((λ lent h. by_two _ _ _ _ (family-compared c.args.op (inside c.args.op (sym c.compares.ensures ∙ c.if-compares.true)).0 (inside c.args.op (sym c.compares.ensures ∙ c.if-compares.true)).1) c.compared.ensures c.nth_of.ensures c.nth_of-then-compares.ensures (c.computed.ensures.0 c.args.store.now c.args.outputs.now) lent _), takes_none c.args.op c.args.r c.args.stack.now c.computed.result c.args.taken.now (λ z. omega (arith, (inside c.args.op (sym c.compares.ensures ∙ c.if-compares.true)).0, z)), anchored-on c.requires.anchored c.computed.ensures.1)

pub operand-requires : goal.operand-requires
unfolding takens lefts lengths
operand-requires c = omega (arith, rw c.if-op-eq174.true at c.requires.ready)

pub transfer-requires : goal.transfer-requires
unfolding takens lefts lengths
transfer-requires c = record { mapped = c.requires.mapped; framed = c.requires.framed; anchored = c.requires.anchored; lt_depth = omega (arith, rw c.if-op-eq174.true at c.requires.ready, c.requires.start_bound) }

pub returns-then-op-eq174 : goal.returns-then-op-eq174
unfolding instruction decode_of row10 perform_of three_of
returns-then-op-eq174 c = ((λ lent h. rw (c.if-op-eq174.true, ← c.operand.ensures.0) (c.transfer.ensures.0 lent _ _ h _)), takes_none c.args.op c.args.r c.args.stack.now c.transfer.result c.args.taken.now (λ z. omega (arith, c.if-op-eq174.true, z)), c.transfer.ensures.1)

pub read-requires : goal.read-requires
unfolding takens lefts lengths
read-requires c = omega (arith, rw c.if-op-eq160.true at c.requires.ready, c.requires.start_bound)

pub returns-then-op-eq160 : goal.returns-then-op-eq160
unfolding instruction decode_of row10 perform_of three_of
returns-then-op-eq160 c = ((λ lent h. rw c.if-op-eq160.true (c.read.ensures.1 lent h.inputs _)), rw c.if-op-eq160.true c.read.ensures.0, anchored-on c.requires.anchored c.read.ensures.2)

pub nth_of-requires-2 : goal.nth_of-requires-2
unfolding takens lefts lengths
nth_of-requires-2 c = omega (arith, rw (is245 c.args.op c.ranges.op.fits c.requires.op_value c.requires.bound (sym c.compares.ensures ∙ c.if-compares.false) (((tt, c.if-op-eq160.false), c.if-op-eq161.false), c.if-op-eq174.false)) at c.requires.ready)

pub nth_of-requires-3 : goal.nth_of-requires-3
unfolding takens lefts lengths
nth_of-requires-3 c = omega (arith, rw (is245 c.args.op c.ranges.op.fits c.requires.op_value c.requires.bound (sym c.compares.ensures ∙ c.if-compares.false) (((tt, c.if-op-eq160.false), c.if-op-eq161.false), c.if-op-eq174.false)) at c.requires.ready)

pub nth_of-requires-4 : goal.nth_of-requires-4
unfolding takens lefts lengths
nth_of-requires-4 c = omega (arith, rw (is245 c.args.op c.ranges.op.fits c.requires.op_value c.requires.bound (sym c.compares.ensures ∙ c.if-compares.false) (((tt, c.if-op-eq160.false), c.if-op-eq161.false), c.if-op-eq174.false)) at c.requires.ready)

pub computed-requires-2 : goal.computed-requires-2
unfolding takens lefts lengths
computed-requires-2 c = omega (arith, rw (is245 c.args.op c.ranges.op.fits c.requires.op_value c.requires.bound (sym c.compares.ensures ∙ c.if-compares.false) (((tt, c.if-op-eq160.false), c.if-op-eq161.false), c.if-op-eq174.false)) at c.requires.ready)

pub returns : goal.returns
unfolding instruction decode_of row10 perform_of three_of
returns c = ((λ lent h. rw (is245 c.args.op c.ranges.op.fits c.requires.op_value c.requires.bound (sym c.compares.ensures ∙ c.if-compares.false) (((tt, c.if-op-eq160.false), c.if-op-eq161.false), c.if-op-eq174.false)) (rw (c.within.ensures, c.nth_of-4.ensures, c.nth_of-3.ensures, c.nth_of-2.ensures) at (c.computed-2.ensures.0 c.args.store.now c.args.outputs.now))), takes_none c.args.op c.args.r c.args.stack.now c.computed-2.result c.args.taken.now c.if-op-eq160.false, anchored-on c.requires.anchored c.computed-2.ensures.1)
