use native.Mathlib.Nat.{sub-zero}
use Rattle.std.proofs.Common.{refl, sym, ◌∙◌, arith}
use Rattle.std.proofs.lemmas.Result.{err_from_is_err_and}
use Rattle.mcode.specs.Step.{perform_of}
use Rattle.actions.proofs.Laws.{stays_err}
use Rattle.control.proofs.Chain.{chain-on, chain-off, chain-end}
use Rattle.control.proofs.frames.follow.Goals as goal

pub loop-i-init : goal.loop-i-init
loop-i-init c = (omega arith, rw sub-zero refl)

pub returns-in_err-a : goal.returns-in_err-a
unfolding perform_of
returns-in_err-a c =
    let p = err_from_is_err_and c.from_residual.result c.from_residual.ensures.1 in
    ((λ lent out. rw (p.1, p.2, c.loop-i.invariant.1 ∙ chain-off _ _ _ _ _ c.loop-i-test.true (sym c.in_err-a.ensures))), stays_err _ _ _ p.1)

pub loop-i-preserved : goal.loop-i-preserved
loop-i-preserved c = (omega arith, c.loop-i.invariant.1 ∙ chain-on _ _ _ _ _ c.loop-i-test.true (sym c.in_ok-a.ensures))

pub returns : goal.returns
unfolding perform_of
returns c = ((λ lent out. rw (c.loop-i.invariant.1 ∙ chain-end _ _ _ _ c.loop-i-test.false) (c.put_word.ensures.0 lent _ out)), c.put_word.ensures.1)
