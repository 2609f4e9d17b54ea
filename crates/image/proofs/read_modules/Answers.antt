-- The modules; the loop keeps that those left give the answer of all, and bounds the sum of the bases.
use Rattle.std.proofs.Common.{sym, ◌∙◌, arith}
use Rattle.image.proofs.Laws.{more-modules, unread-module, last-module, bytes_after, first-module}
use Rattle.std.proofs.lemmas.Result.{err_from_is_err_and}
use Rattle.image.proofs.read_modules.Goals as goal

pub loop-i-init : goal.loop-i-init
loop-i-init c = (omega arith, rw c.no_module-modules.ensures (first-module _ _ _ _ _))

pub overflow_add-base-in-loop-i : goal.overflow_add-base-in-loop-i
overflow_add-base-in-loop-i c = omega arith

pub loop-i-preserved : goal.loop-i-preserved
loop-i-preserved c = (omega arith, c.loop-i.invariant.1 ∙ more-modules _ _ _ _ _ _ _ _ (omega arith) (sym c.in_ok-module.ensures))

pub returns-in_err-module : goal.returns-in_err-module
returns-in_err-module c = let p = err_from_is_err_and c.from_residual.result c.from_residual.ensures.1 in rw (p.1, p.2) (sym (c.loop-i.invariant.1 ∙ unread-module _ _ _ _ _ _ _ (omega arith) (sym c.in_err-module.ensures)))

pub returns-then-at-s : goal.returns-then-at-s
returns-then-at-s c = sym (c.loop-i.invariant.1 ∙ last-module _ _ _ _ _ _ (omega arith) (omega arith) c.if-at-s.true)

pub returns : goal.returns
returns c = sym (c.loop-i.invariant.1 ∙ bytes_after _ _ _ _ _ _ (omega arith) c.if-at-s.false)
