use native.Mathlib.Nat.{sub-zero}
use mathlib.Core.Path.{refl, sym, ◌∙◌}
use Rattle.control.proofs.Find.{first-here, first_on, first-none}
use native.Mathlib.Omega.{arith}
use Rattle.control.proofs.table.find_base.Goals as goal

pub loop-k-init : goal.loop-k-init
loop-k-init c = rw sub-zero refl

pub number-requires : goal.number-requires
number-requires c = omega (arith, c.requires, c.loop-k-test.true)

pub returns-then-number-word : goal.returns-then-number-word
returns-then-number-word c = sym (c.loop-k.invariant ∙ first-here _ _ _ _ c.loop-k-test.true (sym c.number.ensures ∙ c.if-number-word.true))

pub loop-k-preserved : goal.loop-k-preserved
loop-k-preserved c = c.loop-k.invariant ∙ first_on _ _ _ _ c.loop-k-test.true (λ e. c.if-number-word.false (c.number.ensures ∙ e))

pub returns : goal.returns
returns c = sym (c.loop-k.invariant ∙ first-none _ _ _ _ (omega arith) c.loop-k-test.false)
