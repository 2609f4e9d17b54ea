use mathlib.Core.Logic.{inl}
use Rattle.mcode.specs.Opcode.{lengths, takens, lefts}
use Rattle.mcode.specs.Decode.{decode_of, row14}
use Rattle.actions.specs.Core.{performed, instruction}
use Rattle.control.proofs.Laws.{anchored-on}
use Rattle.control.proofs.Decoded.{follow_one, is353, is356}
use native.Mathlib.Omega.{arith}
use Rattle.control.proofs.rows.row14.Goals as goal

pub return_from-requires : goal.return_from-requires
return_from-requires c = let k = c.requires.controls (λ e. omega (arith, c.if-op-eq236.true, e)) in record { mapped = k.1; framed = k.0.framed; anchored = c.requires.anchored; start_bound = omega (arith, k.0.ready.own, k.0.ready.near) }

pub returns-then-op-eq236 : goal.returns-then-op-eq236
unfolding performed instruction decode_of row14
returns-then-op-eq236 c = ((λ lent words h out. rw c.if-op-eq236.true (c.return_from.ensures.0 lent _ words h _ _ out)), c.return_from.ensures.1)

pub operand-requires : goal.operand-requires
unfolding takens lefts lengths
operand-requires c = let k = c.requires.controls (λ e. omega (arith, c.in-237.is, e)) in omega (arith, rw c.in-237.is at k.0.ready)

pub operand-requires-in-237 : goal.operand-requires-in-237
unfolding takens lefts lengths
operand-requires-in-237 c = let k = c.requires.controls (λ e. omega (arith, c.in-237.is, e)) in omega (arith, rw c.in-237.is at k.0.ready)

pub overflow_add-r : goal.overflow_add-r
overflow_add-r c = let k = c.requires.controls (λ e. omega (arith, c.in-237.is, e)) in omega (arith, k.0.ready.near)

pub call_external-requires : goal.call_external-requires
unfolding takens lefts lengths
call_external-requires c =
    let k = c.requires.controls (λ e. omega (arith, c.in-237.is, e)) in
    let f = k.0.far c.in-237.is in
    record { entered = k.0.entered; framed = k.0.framed; anchored = c.requires.anchored; k_bound = rw (c.operand.ensures.0, c.operand-in-237.ensures.0) (f.0, f.1, omega (arith, k.0.ready.own), omega (arith, rw c.in-237.is at k.0.inside, k.0.ready.own)) }

pub operand-requires-in_default : goal.operand-requires-in_default
unfolding takens lefts lengths
operand-requires-in_default c = let k = c.requires.controls (λ e. omega (arith, c.if-op-gt236.true, e)) in omega (arith, rw (is356 _ c.requires.op_value k.2 c.if-op-gt236.true c.in_default.in_default-own.rest) at k.0.ready)

pub overflow_add-r-in_default : goal.overflow_add-r-in_default
overflow_add-r-in_default c = let k = c.requires.controls (λ e. omega (arith, c.if-op-gt236.true, e)) in omega (arith, k.0.ready.near)

pub call_linked-requires : goal.call_linked-requires
unfolding takens lefts lengths
call_linked-requires c =
    let k = c.requires.controls (λ e. omega (arith, c.if-op-gt236.true, e)) in
    let q = is356 _ c.requires.op_value k.2 c.if-op-gt236.true c.in_default.in_default-own.rest in
    record { entered = k.0.entered; framed = k.0.framed; n_bound = rw c.operand-in_default.ensures.0 (k.0.near (inl q), omega (arith, k.0.ready.own, k.0.ready.near), omega (arith, k.0.ready.own), omega (arith, k.0.inside, k.0.ready.own), omega (arith, rw q at k.0.ready)) }

pub returns-in-237 : goal.returns-in-237
unfolding performed instruction decode_of row14
returns-in-237 c = ((λ lent words h out. rw (c.in-237.is, ← c.operand.ensures.0, ← c.operand-in-237.ensures.0) (c.call_external.ensures.0 lent _ words h _ out)), c.call_external.ensures.1)

pub returns-in_default : goal.returns-in_default
unfolding performed instruction decode_of row14
returns-in_default c = let k = c.requires.controls (λ e. omega (arith, c.if-op-gt236.true, e)) in ((λ lent words h out. rw (is356 _ c.requires.op_value k.2 c.if-op-gt236.true c.in_default.in_default-own.rest, ← c.operand-in_default.ensures.0) (c.call_linked.ensures.0 lent _ words h out)), anchored-on c.requires.anchored c.call_linked.ensures.1)

pub operand-requires-in-232 : goal.operand-requires-in-232
unfolding takens lefts lengths
operand-requires-in-232 c = let k = c.requires.controls (λ e. omega (arith, c.in-232.is, e)) in omega (arith, rw c.in-232.is at k.0.ready)

pub overflow_add-r-in-232 : goal.overflow_add-r-in-232
overflow_add-r-in-232 c = let k = c.requires.controls (λ e. omega (arith, c.in-232.is, e)) in omega (arith, k.0.ready.near)

pub follow-requires : goal.follow-requires
unfolding takens lefts lengths
follow-requires c = let k = c.requires.controls (λ e. omega (arith, c.in-232.is, e)) in omega (arith, rw c.in-232.is at k.0.ready)

pub overflow_add-r-in-233 : goal.overflow_add-r-in-233
overflow_add-r-in-233 c = let k = c.requires.controls (λ e. omega (arith, c.in-233.is, e)) in omega (arith, k.0.ready.near)

pub load-requires : goal.load-requires
unfolding takens lefts lengths
load-requires c = let k = c.requires.controls (λ e. omega (arith, c.in-233.is, e)) in omega (arith, rw c.in-233.is at k.0.ready)

pub operand-requires-in_default-op : goal.operand-requires-in_default-op
unfolding takens lefts lengths
operand-requires-in_default-op c = let k = c.requires.controls c.in_default-op.in_default-op-own.rest.0.0.1 in omega (arith, rw (is353 _ c.requires.op_value k.2 c.if-op-gt236.false c.if-op-eq236.false c.in_default-op.in_default-op-own.rest) at k.0.ready)

pub overflow_add-r-in_default-op : goal.overflow_add-r-in_default-op
overflow_add-r-in_default-op c = let k = c.requires.controls c.in_default-op.in_default-op-own.rest.0.0.1 in omega (arith, k.0.ready.near)

pub enter-requires : goal.enter-requires
enter-requires c = omega (arith, c.requires.anchored.own)

pub returns-in-224 : goal.returns-in-224
unfolding performed instruction decode_of row14
returns-in-224 c = ((λ lent words h out. rw (c.in-224.is)), c.requires.anchored)

pub returns-in-232 : goal.returns-in-232
unfolding performed instruction decode_of row14
returns-in-232 c = ((λ lent words h out. rw (c.in-232.is, ← c.operand-in-232.ensures.0) (c.follow.ensures.0 lent out)), anchored-on c.requires.anchored c.follow.ensures.1)

pub returns-in-233 : goal.returns-in-233
unfolding performed instruction decode_of row14
returns-in-233 c = ((λ lent words h out. rw (c.in-233.is, follow_one lent) (c.load.ensures.0 lent out)), anchored-on c.requires.anchored c.load.ensures.1)

pub returns-in_default-op : goal.returns-in_default-op
unfolding performed instruction decode_of row14
returns-in_default-op c = let k = c.requires.controls c.in_default-op.in_default-op-own.rest.0.0.1 in ((λ lent words h out. rw (is353 _ c.requires.op_value k.2 c.if-op-gt236.false c.if-op-eq236.false c.in_default-op.in_default-op-own.rest, ← c.operand-in_default-op.ensures.0) (c.enter.ensures.0 lent _ _ out)), anchored-on c.requires.anchored c.enter.ensures.1)
