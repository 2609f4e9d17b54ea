use Rattle.mcode.specs.Step.{perform_of, call}
use Rattle.control.proofs.Laws.{based, anchored-in, from_start}
use native.Mathlib.Omega.{arith}
use borrow.Author.Tests.{lt-ltb, le-ltb}
use Rattle.control.proofs.calls.call_external.Goals as goal

pub returns-then-h-s : goal.returns-then-h-s
unfolding perform_of call
returns-then-h-s c = ((λ lent marks words h stack out. rw (lt-ltb _ _ c.if-h-s.true)), c.requires.anchored)

pub overflow_add-t : goal.overflow_add-t
overflow_add-t c = omega (arith, c.if-h-s.false, c.struct_known-2-1.given)

pub returns : goal.returns
unfolding perform_of call
returns c = (
  (λ lent marks words h stack out. rw (le-ltb _ _ c.if-h-s.false, h.image, h.tabled.modules c.args.k (omega (arith, c.requires.entered.few, c.requires.k_bound.0)), (based h.tabled c.requires.anchored).own, ← c.entry_of-entry.ensures, c.in_module.ensures, c.write_external.ensures, from_start)),
  anchored-in _ c.args.k _ _ _ c.args.r _ (omega (arith, c.requires.entered.few, c.requires.k_bound.0)) c.in_module.ensures,
)
