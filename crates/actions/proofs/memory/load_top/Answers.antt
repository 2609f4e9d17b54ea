use Rattle.std.proofs.lemmas.Result.{err_from_is_err_and}
use Rattle.std.proofs.Common.{sym}
use Rattle.mcode.specs.Step.{perform_of}
use Rattle.actions.proofs.Laws.{picked, refused, stays_at, stays_err}
use Rattle.actions.proofs.memory.load_top.Goals as goal

pub returns : goal.returns
unfolding perform_of
returns c =
    let e = picked _ _ _ _ (sym c.in_ok-word_at.ensures) in
    ((λ lent out. rw (← c.nth_of.ensures, e.0, e.1, c.replace.ensures.0, c.replace.ensures.1)), stays_at _ _ _ _ c.requires.2 c.replace.ensures.0)

pub returns-in_err-word_at : goal.returns-in_err-word_at
unfolding perform_of
returns-in_err-word_at c =
    let p = err_from_is_err_and c.from_residual.result c.from_residual.ensures.1 in
    let e = refused _ _ _ _ (sym c.in_err-word_at.ensures) in
    ((λ lent out. rw (p.1, p.2, ← c.nth_of.ensures, e.0, e.1)), stays_err _ _ _ p.1)
