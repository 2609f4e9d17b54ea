use native.Mathlib.Nat.{add-zero}
use Rattle.mcode.specs.Decode.{decode_of, row1}
use Rattle.mcode.specs.Depths.{target}
use Rattle.mcode.specs.Opcode.{takens, lefts, lengths}
use Rattle.actions.specs.Core.{instruction}
use native.Mathlib.Omega.{arith}
use borrow.Author.Tests.{ne_eqb}
use mathlib.Core.Path.{refl}
use Rattle.rows_low.proofs.Laws.{past}
use Rattle.rows_low.proofs.row1.Goals as goal

pub returns-then-op-lt20 : goal.returns-then-op-lt20
returns-then-op-lt20 c = ((λ lent h store out. c.operands.ensures.0 lent store out), c.operands.ensures.1)

pub operand-requires : goal.operand-requires
unfolding takens lefts lengths
operand-requires c = omega (arith, rw c.in-20.is at c.requires.ready)

pub put_word-requires : goal.put_word-requires
unfolding takens lefts lengths
put_word-requires c = omega (arith, rw c.in-20.is at c.requires.ready)

pub operand-requires-in-21 : goal.operand-requires-in-21
unfolding takens lefts lengths
operand-requires-in-21 c = omega (arith, rw c.in-21.is at c.requires.ready)

pub put_word-requires-in-21 : goal.put_word-requires-in-21
unfolding takens lefts lengths
put_word-requires-in-21 c = omega (arith, rw c.in-21.is at c.requires.ready)

pub operand-requires-in-22 : goal.operand-requires-in-22
unfolding takens lefts lengths
operand-requires-in-22 c = omega (arith, rw c.in-22.is at c.requires.ready)

pub add_top-requires : goal.add_top-requires
unfolding takens lefts lengths
add_top-requires c = omega (arith, rw c.in-22.is at c.requires.ready)

pub operand-requires-in-23 : goal.operand-requires-in-23
unfolding takens lefts lengths
operand-requires-in-23 c = omega (arith, rw c.in-23.is at c.requires.ready)

pub base_of-requires : goal.base_of-requires
base_of-requires c = rw c.operand-in-23.ensures.0 (c.requires.r_bound (rw c.in-23.is refl))

pub operand-requires-in-23-2 : goal.operand-requires-in-23-2
unfolding takens lefts lengths
operand-requires-in-23-2 c = omega (arith, rw c.in-23.is at c.requires.ready)

pub put_word-requires-in-23 : goal.put_word-requires-in-23
unfolding takens lefts lengths
put_word-requires-in-23 c = omega (arith, rw c.in-23.is at c.requires.ready)

pub operand_word-requires : goal.operand_word-requires
unfolding takens lefts lengths
operand_word-requires c = omega (arith, rw c.in-24.is at c.requires.ready)

pub jump_zero-requires : goal.jump_zero-requires
unfolding takens lefts lengths
jump_zero-requires c = let h = c.forward.ensures.1 in omega (arith, rw c.in-24.is at c.requires.ready)

pub operand_word-requires-in-25 : goal.operand_word-requires-in-25
unfolding takens lefts lengths
operand_word-requires-in-25 c = omega (arith, rw c.in-25.is at c.requires.ready)

pub jump-requires : goal.jump-requires
jump-requires c = c.forward-in-25.ensures.1

pub operand-requires-in-26 : goal.operand-requires-in-26
unfolding takens lefts lengths
operand-requires-in-26 c = omega (arith, rw c.in-26.is at c.requires.ready)

pub jump_zero-requires-in-26 : goal.jump_zero-requires-in-26
unfolding takens lefts lengths
jump_zero-requires-in-26 c = let h = c.forward-in-26.ensures.1 in omega (arith, rw c.in-26.is at c.requires.ready)

pub operand-requires-in-27 : goal.operand-requires-in-27
unfolding takens lefts lengths
operand-requires-in-27 c = omega (arith, rw c.in-27.is at c.requires.ready)

pub jump-requires-in-27 : goal.jump-requires-in-27
jump-requires-in-27 c = c.forward-in-27.ensures.1

pub operand-requires-in-28 : goal.operand-requires-in-28
unfolding takens lefts lengths
operand-requires-in-28 c = omega (arith, rw c.in-28.is at c.requires.ready)

pub jump_zero-requires-in-28 : goal.jump_zero-requires-in-28
unfolding takens lefts lengths
jump_zero-requires-in-28 c = let h = c.back.ensures.1 in omega (arith, rw c.in-28.is at c.requires.ready)

pub operand-requires-in-29 : goal.operand-requires-in-29
unfolding takens lefts lengths
operand-requires-in-29 c = omega (arith, rw c.in-29.is at c.requires.ready)

pub jump-requires-in-29 : goal.jump-requires-in-29
jump-requires-in-29 c = c.back-in-29.ensures.1

pub operand-requires-in-30 : goal.operand-requires-in-30
unfolding takens lefts lengths
operand-requires-in-30 c = omega (arith, rw c.in-30.is at c.requires.ready)

pub jump_or-requires : goal.jump_or-requires
unfolding takens lefts lengths
jump_or-requires c = let h = c.forward-in-30.ensures.1 in omega (arith, rw c.in-30.is at c.requires.ready)

pub operand-requires-in-31 : goal.operand-requires-in-31
unfolding takens lefts lengths
operand-requires-in-31 c = omega (arith, rw c.in-31.is at c.requires.ready)

pub jump_and-requires : goal.jump_and-requires
unfolding takens lefts lengths
jump_and-requires c = let h = c.forward-in-31.ensures.1 in omega (arith, rw c.in-31.is at c.requires.ready)

pub returns-in-20 : goal.returns-in-20
unfolding instruction decode_of row1 target
returns-in-20 c = ((λ lent h store out. rw c.in-20.is (rw (c.plus.ensures, c.operand.ensures.0) at (c.put_word.ensures.0 lent store out))), c.put_word.ensures.1)

pub returns-in-21 : goal.returns-in-21
unfolding instruction decode_of row1 target
returns-in-21 c = ((λ lent h store out. rw (c.in-21.is, h.own) (rw (c.plus-in-21.ensures, c.operand-in-21.ensures.0) at (c.put_word-in-21.ensures.0 lent store out))), c.put_word-in-21.ensures.1)

pub returns-in-22 : goal.returns-in-22
unfolding instruction decode_of row1 target
returns-in-22 c = ((λ lent h store out. rw c.in-22.is (rw c.operand-in-22.ensures.0 at (c.add_top.ensures.0 lent store out))), c.add_top.ensures.1)

pub returns-in-23 : goal.returns-in-23
unfolding instruction decode_of row1 target
returns-in-23 c = ((λ lent h store out. rw (c.in-23.is, h.named _ (c.requires.r_bound (rw c.in-23.is refl))) (rw (c.plus-in-23.ensures, c.base_of.ensures, c.operand-in-23-2.ensures.0, c.operand-in-23.ensures.0) at (c.put_word-in-23.ensures.0 lent store out))), c.put_word-in-23.ensures.1)

pub returns-in-24 : goal.returns-in-24
unfolding instruction decode_of row1 target
returns-in-24 c = ((λ lent h store out. rw (c.in-24.is, ← c.operand_word.ensures, ← c.forward.ensures.0) (c.jump_zero.ensures.0 lent store out)), c.jump_zero.ensures.1)

pub returns-in-25 : goal.returns-in-25
unfolding instruction decode_of row1 target
returns-in-25 c = ((λ lent h store out. rw (c.in-25.is, ← c.operand_word-in-25.ensures, ← c.forward-in-25.ensures.0) (c.jump.ensures.0 lent _ _ store out)), c.jump.ensures.1)

pub returns-in-26 : goal.returns-in-26
unfolding instruction decode_of row1 target
returns-in-26 c = ((λ lent h store out. rw (c.in-26.is, ← c.operand-in-26.ensures.0, ← c.forward-in-26.ensures.0) (c.jump_zero-in-26.ensures.0 lent store out)), c.jump_zero-in-26.ensures.1)

pub returns-in-27 : goal.returns-in-27
unfolding instruction decode_of row1 target
returns-in-27 c = ((λ lent h store out. rw (c.in-27.is, ← c.operand-in-27.ensures.0, ← c.forward-in-27.ensures.0) (c.jump-in-27.ensures.0 lent _ _ store out)), c.jump-in-27.ensures.1)

pub returns-in-28 : goal.returns-in-28
unfolding instruction decode_of row1 target
returns-in-28 c = ((λ lent h store out. rw (c.in-28.is, ← c.operand-in-28.ensures.0, ← c.back.ensures.0) (c.jump_zero-in-28.ensures.0 lent store out)), c.jump_zero-in-28.ensures.1)

pub returns-in-29 : goal.returns-in-29
unfolding instruction decode_of row1 target
returns-in-29 c = ((λ lent h store out. rw (c.in-29.is, ← c.operand-in-29.ensures.0, ← c.back-in-29.ensures.0) (c.jump-in-29.ensures.0 lent _ _ store out)), c.jump-in-29.ensures.1)

pub returns-in-30 : goal.returns-in-30
unfolding instruction decode_of row1 target
returns-in-30 c = ((λ lent h store out. rw (c.in-30.is, ← c.operand-in-30.ensures.0, ← c.forward-in-30.ensures.0) (c.jump_or.ensures.0 lent store out)), c.jump_or.ensures.1)

pub returns-in-31 : goal.returns-in-31
unfolding instruction decode_of row1 target
returns-in-31 c = ((λ lent h store out. rw (c.in-31.is, ← c.operand-in-31.ensures.0, ← c.forward-in-31.ensures.0) (c.jump_and.ensures.0 lent store out)), c.jump_and.ensures.1)

pub returns-in_default : goal.returns-in_default
unfolding instruction decode_of row1 target
returns-in_default c = ((λ lent h store out. rw (c.requires.op_value, past _ 0o20 0o23 c.if-op-lt20.false (omega arith), past _ 0o22 0o23 c.if-op-lt20.false (omega arith), past _ 0o23 0o23 c.if-op-lt20.false (omega arith), ne_eqb _ _ c.in_default.in_default-own.rest.0.0.0.0.0.0.0.0.0.0.0.1, ne_eqb _ _ c.in_default.in_default-own.rest.0.0.0.0.0.0.0.0.0.0.1, ne_eqb _ _ c.in_default.in_default-own.rest.0.0.0.0.0.0.0.0.0.1, ne_eqb _ _ c.in_default.in_default-own.rest.0.0.0.0.0.0.0.0.1, ne_eqb _ _ c.in_default.in_default-own.rest.0.0.0.0.0.0.0.1, ne_eqb _ _ c.in_default.in_default-own.rest.0.0.0.0.0.0.1, ne_eqb _ _ c.in_default.in_default-own.rest.0.0.0.0.0.1, ne_eqb _ _ c.in_default.in_default-own.rest.0.0.0.0.1, ne_eqb _ _ c.in_default.in_default-own.rest.0.0.0.1, ne_eqb _ _ c.in_default.in_default-own.rest.0.0.1, ne_eqb _ _ c.in_default.in_default-own.rest.0.1, ne_eqb _ _ c.in_default.in_default-own.rest.1, add-zero) (c.nothing.ensures.0 lent _ store out)), c.nothing.ensures.1)
