use mathlib.Core.Path.{sym, ◌∙◌}
use Rattle.std.proofs.lemmas.Result.{err_from_is_err_and}
use Rattle.loader.proofs.Begin.{read_told, store-fits-so, refused-so, small-so, begun-so}
use Rattle.loader.proofs.start.start.Goals as goal

pub returns-in_err-program : goal.returns-in_err-program
returns-in_err-program c = let p = err_from_is_err_and c.from_residual.result c.from_residual.ensures.1 in rw (p.1, p.2) (refused-so _ _ _ c.in_err-program.ensures)

pub returns-then-not-store_fits : goal.returns-then-not-store_fits
returns-then-not-store_fits c = small-so _ _ _ c.in_ok-program.ensures (sym c.store_fits.ensures ∙ c.if-not-store_fits.true)

pub invariant_of-read : goal.invariant_of-read
invariant_of-read c = record { told = read_told _ _ c.in_ok-program.ensures }

pub begin-requires : goal.begin-requires
begin-requires c = store-fits-so _ _ (sym c.store_fits.ensures ∙ c.if-not-store_fits.false)

pub returns : goal.returns
returns c = rw (c.begin.ensures.0, c.begin.ensures.1) (begun-so _ _ _ c.in_ok-program.ensures (sym c.store_fits.ensures ∙ c.if-not-store_fits.false))
