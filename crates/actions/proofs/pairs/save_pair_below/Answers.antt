use Rattle.std.proofs.lemmas.Result.{err_from_is_err_and}
use Rattle.std.proofs.Common.{sym}
use Rattle.mcode.specs.Step.{perform_of}
use Rattle.actions.proofs.Laws.{picked, refused, stays_at, stays_err}
use Rattle.actions.proofs.pairs.save_pair_below.Goals as goal

pub returns : goal.returns
unfolding perform_of
returns c =
    let e = picked _ _ _ _ (rw (c.plus-a.ensures, c.nth_of.ensures) at (sym c.in_ok-write.ensures.0)) in
    ((λ lent out. rw (c.take.ensures.0, c.take.ensures.1, c.write.ensures.1, c.plus-a.ensures, c.nth_of.ensures, e.0, ← c.nth_of-2.ensures, ← c.nth_of-3.ensures)), stays_at _ _ _ _ c.requires.3 c.take.ensures.0)

pub returns-in_err-write : goal.returns-in_err-write
unfolding perform_of
returns-in_err-write c =
    let p = err_from_is_err_and c.from_residual.result c.from_residual.ensures.1 in
    let e = refused _ _ _ _ (rw (c.plus-a.ensures, c.nth_of.ensures) at (sym c.in_err-write.ensures.0)) in
    ((λ lent out. rw (p.1, p.2, c.write.ensures.1, c.plus-a.ensures, c.nth_of.ensures, e.0, e.1)), stays_err _ _ _ p.1)
