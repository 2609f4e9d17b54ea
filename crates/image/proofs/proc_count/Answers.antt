-- The procedure count is read only where bit 1 stands, and is not 0.
use mathlib.Core.Path.{sym}
use Rattle.mcode.specs.Image.{count_at}
use borrow.Author.Tests.{ne_eqb, le-leb, lt-leb, eq-eqb}
use Rattle.std.proofs.lemmas.Result.{err_from_is_err_and}
use Rattle.image.proofs.proc_count.Goals as goal

pub returns-in_err-v : goal.returns-in_err-v
unfolding count_at
returns-in_err-v c = let p = err_from_is_err_and c.from_residual.result c.from_residual.ensures.1 in rw (p.1, p.2) (simp (eq-eqb _ _ c.if-bits-eq1.true, sym c.in_err-v.ensures))

pub returns-then-v-ge1 : goal.returns-then-v-ge1
unfolding count_at
returns-then-v-ge1 c = simp (eq-eqb _ _ c.if-bits-eq1.true, sym c.in_ok-v.ensures, le-leb _ _ c.if-v-ge1.true)

pub returns-then-bits-eq1 : goal.returns-then-bits-eq1
unfolding count_at
returns-then-bits-eq1 c = simp (eq-eqb _ _ c.if-bits-eq1.true, sym c.in_ok-v.ensures, lt-leb _ _ c.if-v-ge1.false)

pub returns : goal.returns
unfolding count_at
returns c = simp (ne_eqb _ _ c.if-bits-eq1.false)
