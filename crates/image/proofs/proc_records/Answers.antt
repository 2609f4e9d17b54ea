-- The procedure records; the loop keeps that those left give the answer of all.
use Rattle.std.proofs.Common.{◌≡◌, ◌-◌, ◌∙◌, refl, sym, arith}
use Rattle.mcode.specs.Image.{records_at}
use Rattle.image.proofs.Laws.{first-record, more-records, unread-record}
use Rattle.std.proofs.lemmas.Result.{err_from_is_err_and}
use Rattle.image.proofs.proc_records.Goals as goal

pub loop-init : goal.loop-init
loop-init c = first-record _ _ _ _ _

pub loop-preserved : goal.loop-preserved
loop-preserved c = c.loop.invariant ∙ more-records _ _ _ _ _ _ _ _ (omega arith) (sym c.in_ok-next.ensures)

pub returns-in_err-next : goal.returns-in_err-next
returns-in_err-next c = let p = err_from_is_err_and c.from_residual.result c.from_residual.ensures.1 in rw (p.1, p.2) (sym (c.loop.invariant ∙ unread-record _ _ _ _ _ _ _ (omega arith) (sym c.in_err-next.ensures)))

pub returns : goal.returns
unfolding records_at
returns c = sym (c.loop.invariant ∙ (let q : c.args.n - c.loop.counter ≡ 0 = omega arith in rw q refl))
