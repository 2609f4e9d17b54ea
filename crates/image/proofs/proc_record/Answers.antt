-- A procedure record: entry, parameters and results, each judged as it is read.
use mathlib.Core.Path.{sym}
use Rattle.mcode.specs.Image.{record_at}
use borrow.Author.Tests.{lt-ltb, le-ltb}
use Rattle.std.proofs.lemmas.Result.{err_from_is_err_and}
use Rattle.image.proofs.proc_record.Goals as goal

pub returns-in_err-entry : goal.returns-in_err-entry
unfolding record_at
returns-in_err-entry c = let p = err_from_is_err_and c.from_residual.result c.from_residual.ensures.1 in rw (p.1, p.2) (simp (sym c.in_err-entry.ensures))

pub returns-then-length-entry : goal.returns-then-length-entry
unfolding record_at
returns-then-length-entry c = simp (sym c.in_ok-entry.ensures, le-ltb _ _ c.if-length-entry.true)

pub returns-in_err-then : goal.returns-in_err-then
unfolding record_at
returns-in_err-then c = let p = err_from_is_err_and c.from_residual-in_err-then.result c.from_residual-in_err-then.ensures.1 in rw (p.1, p.2) (simp (sym c.in_ok-entry.ensures, lt-ltb _ _ c.if-length-entry.false, sym c.in_err-then.ensures))

pub returns : goal.returns
unfolding record_at
returns c = simp (sym c.in_ok-entry.ensures, lt-ltb _ _ c.if-length-entry.false, sym c.in_ok-then.ensures) c.limited-2.ensures
