use Rattle.mcode.specs.Step.{perform_of, call}
use Rattle.actions.proofs.Laws.{stays-as}
use Rattle.control.proofs.Laws.{stays-framed, from_start, after-start}
use native.Mathlib.Omega.{arith}
use borrow.Author.Tests.{lt-ltb, le-ltb}
use Rattle.control.proofs.calls.call.Goals as goal

pub returns-then-h-s : goal.returns-then-h-s
unfolding perform_of call
returns-then-h-s c = ((λ lent marks words h stack out. rw (lt-ltb _ _ c.if-h-s.true)), stays-as _)

pub overflow_sub-to : goal.overflow_sub-to
overflow_sub-to c = omega (arith, c.requires.n_bound)

pub overflow_cast-to : goal.overflow_cast-to
overflow_cast-to c = omega (arith, c.requires.n_bound)

pub overflow_add-r : goal.overflow_add-r
overflow_add-r c = omega (arith, c.requires.n_bound, c.entry_of-entry.type_inv)

pub returns : goal.returns
unfolding perform_of call
returns c = (
  (λ lent marks words h stack out. rw (le-ltb _ _ c.if-h-s.false, h.image, h.tabled.modules c.args.r.unit (omega (arith, c.requires.entered.few, c.requires.framed.loaded)), ← c.entry_of-entry.ensures, c.framed.ensures, c.write_frame.ensures, from_start)),
  stays-framed _ _ _ _ c.args.r _ (after-start _ _) c.framed.ensures,
)
