-- The code length, the records and the code, in this order.
use mathlib.Core.Path.{sym, ap, ◌∙◌}
use Rattle.mcode.specs.Image.{body_at, records_at}
use Rattle.std.proofs.lemmas.Result.{err_from_is_err_and}
use Rattle.image.proofs.read_body.Goals as goal

pub returns-in_err-length : goal.returns-in_err-length
unfolding body_at
returns-in_err-length c = let p = err_from_is_err_and c.from_residual.result c.from_residual.ensures.1 in rw (p.1, p.2) (simp (sym c.in_err-length.ensures))

pub returns-in_err-code : goal.returns-in_err-code
unfolding body_at
returns-in_err-code c = let p = err_from_is_err_and c.from_residual-in_err-code.result c.from_residual-in_err-code.ensures.1 in rw (p.1, p.2) (simp (sym c.in_ok-length.ensures, ap (λ l. records_at c.args.s.now c.in_ok-length.length l c.args.procs c.in_ok-length.table) (sym c.first_limit.ensures) ∙ sym c.in_err-code.ensures))

pub returns-in_err-next : goal.returns-in_err-next
unfolding body_at
returns-in_err-next c = let p = err_from_is_err_and c.from_residual-in_err-next.result c.from_residual-in_err-next.ensures.1 in rw (p.1, p.2) (simp (sym c.in_ok-length.ensures, ap (λ l. records_at c.args.s.now c.in_ok-length.length l c.args.procs c.in_ok-length.table) (sym c.first_limit.ensures) ∙ sym c.in_ok-code.ensures, sym c.in_err-next.ensures))

pub returns : goal.returns
unfolding body_at
returns c = simp (sym c.in_ok-length.ensures, ap (λ l. records_at c.args.s.now c.in_ok-length.length l c.args.procs c.in_ok-length.table) (sym c.first_limit.ensures) ∙ sym c.in_ok-code.ensures, sym c.in_ok-next.ensures)
