use native.Mathlib.Nat.{add-zero}
use Rattle.mcode.specs.Decode.{decode_of, row1}
use Rattle.mcode.specs.Opcode.{takens, lefts, lengths}
use Rattle.actions.specs.Core.{instruction}
use native.Mathlib.Omega.{arith}
use Rattle.rows_low.proofs.Laws.{is021}
use Rattle.rows_low.proofs.operands.Goals as goal

pub operand-requires : goal.operand-requires
unfolding takens lefts lengths
operand-requires c = omega (arith, rw c.in-16.is at c.requires.ready)

pub put_word-requires : goal.put_word-requires
unfolding takens lefts lengths
put_word-requires c = omega (arith, rw c.in-16.is at c.requires.ready)

pub operand_word-requires : goal.operand_word-requires
unfolding takens lefts lengths
operand_word-requires c = omega (arith, rw c.in-18.is at c.requires.ready)

pub put_word-requires-in-18 : goal.put_word-requires-in-18
unfolding takens lefts lengths
put_word-requires-in-18 c = omega (arith, rw c.in-18.is at c.requires.ready)

pub operand_word-requires-in-19 : goal.operand_word-requires-in-19
unfolding takens lefts lengths
operand_word-requires-in-19 c = omega (arith, rw c.in-19.is at c.requires.ready)

pub operand_word-requires-in-19-2 : goal.operand_word-requires-in-19-2
unfolding takens lefts lengths
operand_word-requires-in-19-2 c = omega (arith, rw c.in-19.is at c.requires.ready)

pub put_pair-requires : goal.put_pair-requires
unfolding takens lefts lengths
put_pair-requires c = omega (arith, rw c.in-19.is at c.requires.ready)

pub returns-in-16 : goal.returns-in-16
unfolding instruction decode_of row1
returns-in-16 c = ((λ lent store out. rw c.in-16.is (rw c.operand.ensures.0 at (c.put_word.ensures.0 lent store out))), c.put_word.ensures.1)

pub returns-in-18 : goal.returns-in-18
unfolding instruction decode_of row1
returns-in-18 c = ((λ lent store out. rw c.in-18.is (rw c.operand_word.ensures at (c.put_word-in-18.ensures.0 lent store out))), c.put_word-in-18.ensures.1)

pub returns-in-19 : goal.returns-in-19
unfolding instruction decode_of row1
returns-in-19 c = ((λ lent store out. rw c.in-19.is (rw (c.operand_word-in-19.ensures, c.operand_word-in-19-2.ensures) at (c.put_pair.ensures.0 lent store out))), c.put_pair.ensures.1)

pub returns-in_default : goal.returns-in_default
unfolding instruction decode_of row1
returns-in_default c = ((λ lent store out. rw (is021 _ c.requires.op_value c.in_default.in_default-own.rest.0.0.1 c.in_default.in_default-own.rest.0.1 c.in_default.in_default-own.rest.1, add-zero) (c.nothing.ensures.0 lent _ store out)), c.nothing.ensures.1)
