-- Both bytes of a word are there (3), and their sum fits 16 bits.
use Prim.Native.Nat.{◌+◌}
use lib.ListN.{length}
use Rattle.mcode.specs.Image.{word_at}
use native.Mathlib.Omega.{arith}
use borrow.Author.Tests.{lt-ltb, le-ltb}
use Rattle.image.proofs.read_word.Goals as goal

pub returns-then-s-at : goal.returns-then-s-at
unfolding word_at
returns-then-s-at c = simp (le-ltb (c.args.at + 1) (length c.args.s.now) (omega arith))

pub returns-then-s-at-2 : goal.returns-then-s-at-2
unfolding word_at
returns-then-s-at-2 c = simp (le-ltb _ _ c.if-s-at-2.true)

pub overflow_cast-h : goal.overflow_cast-h
overflow_cast-h c = omega (arith, c.type_inv.s c.args.at)

pub overflow_cast-l : goal.overflow_cast-l
overflow_cast-l c = omega (arith, c.type_inv.s (c.args.at + 1))

pub overflow_mul-result : goal.overflow_mul-result
overflow_mul-result c = omega (arith, c.type_inv.s c.args.at)

pub overflow_add-result : goal.overflow_add-result
overflow_add-result c = omega (arith, c.type_inv.s c.args.at, c.type_inv.s (c.args.at + 1))

pub returns : goal.returns
unfolding word_at
returns c = simp (lt-ltb _ _ c.if-s-at-2.false)
