-- The parts of a module, in the paper's order.
use mathlib.Core.Path.{sym}
use Rattle.mcode.specs.Image.{module_at}
use Rattle.std.proofs.lemmas.Result.{err_from_is_err_and}
use Rattle.image.proofs.read_module.Goals as goal

pub returns-in_err-bits : goal.returns-in_err-bits
unfolding module_at
returns-in_err-bits c = let p = err_from_is_err_and c.from_residual.result c.from_residual.ensures.1 in rw (p.1, p.2) (simp (sym c.in_err-bits.ensures))

pub returns-in_err-size : goal.returns-in_err-size
unfolding module_at
returns-in_err-size c = let p = err_from_is_err_and c.from_residual-in_err-size.result c.from_residual-in_err-size.ensures.1 in rw (p.1, p.2) (simp (sym c.in_ok-bits.ensures, sym c.in_err-size.ensures))

pub returns-in_err-procs : goal.returns-in_err-procs
unfolding module_at
returns-in_err-procs c = let p = err_from_is_err_and c.from_residual-in_err-procs.result c.from_residual-in_err-procs.ensures.1 in rw (p.1, p.2) (simp (sym c.in_ok-bits.ensures, sym c.in_ok-size.ensures, sym c.in_err-procs.ensures))

pub returns-in_err-a4 : goal.returns-in_err-a4
unfolding module_at
returns-in_err-a4 c = let p = err_from_is_err_and c.from_residual-in_err-a4.result c.from_residual-in_err-a4.ensures.1 in rw (p.1, p.2) (simp (sym c.in_ok-bits.ensures, sym c.in_ok-size.ensures, sym c.in_ok-procs.ensures, sym c.in_err-a4.ensures))

pub returns : goal.returns
unfolding module_at
returns c = simp (sym c.in_ok-bits.ensures, sym c.in_ok-size.ensures, sym c.in_ok-procs.ensures, sym c.in_ok-a4.ensures) c.read_body.ensures
