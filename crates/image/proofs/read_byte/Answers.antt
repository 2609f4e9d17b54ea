-- A byte is there (3) and is what byte_at says.
use Rattle.mcode.specs.Image.{byte_at}
use native.Mathlib.Omega.{arith}
use borrow.Author.Tests.{lt-ltb, le-ltb}
use Rattle.image.proofs.read_byte.Goals as goal

pub overflow_cast-result : goal.overflow_cast-result
overflow_cast-result c = omega (arith, c.type_inv.s c.args.at)

pub returns-then-at-s : goal.returns-then-at-s
unfolding byte_at
returns-then-at-s c = simp (lt-ltb _ _ c.if-at-s.true)

pub returns : goal.returns
unfolding byte_at
returns c = simp (le-ltb _ _ c.if-at-s.false)
