-- The bit map byte is below 8, or the refusal is 5.
use mathlib.Core.Path.{sym}
use Rattle.mcode.specs.Image.{bits_at}
use borrow.Author.Tests.{lt-ltb, le-ltb}
use Rattle.std.proofs.lemmas.Result.{err_from_is_err_and}
use Rattle.image.proofs.read_bits.Goals as goal

pub returns-in_err-v : goal.returns-in_err-v
unfolding bits_at
returns-in_err-v c = let p = err_from_is_err_and c.from_residual.result c.from_residual.ensures.1 in rw (p.1, p.2) (simp (sym c.in_err-v.ensures))

pub returns-then-v-lt8 : goal.returns-then-v-lt8
unfolding bits_at
returns-then-v-lt8 c = simp (sym c.in_ok-v.ensures, lt-ltb _ _ c.if-v-lt8.true)

pub returns : goal.returns
unfolding bits_at
returns c = simp (sym c.in_ok-v.ensures, le-ltb _ _ c.if-v-lt8.false)
