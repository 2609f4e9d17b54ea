-- The code length is 1 to 32,767.
use mathlib.Core.Path.{sym}
use Rattle.mcode.specs.Image.{length_at}
use borrow.Author.Tests.{le-leb, lt-leb}
use Rattle.std.proofs.lemmas.Result.{err_from_is_err_and}
use Rattle.image.proofs.code_length.Goals as goal

pub returns-in_err-v : goal.returns-in_err-v
unfolding length_at
returns-in_err-v c = let p = err_from_is_err_and c.from_residual.result c.from_residual.ensures.1 in rw (p.1, p.2) (simp (sym c.in_err-v.ensures))

pub returns-then-v-lt1 : goal.returns-then-v-lt1
unfolding length_at
returns-then-v-lt1 c = simp (sym c.in_ok-v.ensures, lt-leb _ _ c.if-v-lt1.true)

pub returns-then-v-le32767 : goal.returns-then-v-le32767
unfolding length_at
returns-then-v-le32767 c = simp (sym c.in_ok-v.ensures, le-leb _ _ c.if-v-lt1.false, le-leb _ _ c.if-v-le32767.true)

pub returns : goal.returns
unfolding length_at
returns c = simp (sym c.in_ok-v.ensures, le-leb _ _ c.if-v-lt1.false, lt-leb _ _ c.if-v-le32767.false)
