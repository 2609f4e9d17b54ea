-- A byte up to its limit, or the refusal is 6.
use mathlib.Core.Path.{sym}
use Rattle.mcode.specs.Image.{limited_at}
use borrow.Author.Tests.{le-leb, lt-leb}
use Rattle.std.proofs.lemmas.Result.{err_from_is_err_and}
use Rattle.image.proofs.limited.Goals as goal

pub returns-in_err-v : goal.returns-in_err-v
unfolding limited_at
returns-in_err-v c = let p = err_from_is_err_and c.from_residual.result c.from_residual.ensures.1 in rw (p.1, p.2) (simp (sym c.in_err-v.ensures))

pub returns-then-v-limit : goal.returns-then-v-limit
unfolding limited_at
returns-then-v-limit c = simp (sym c.in_ok-v.ensures, le-leb _ _ c.if-v-limit.true)

pub returns : goal.returns
unfolding limited_at
returns c = simp (sym c.in_ok-v.ensures, lt-leb _ _ c.if-v-limit.false)
