use native.Mathlib.Nat.{sub-zero}
use Rattle.std.proofs.Common.{refl, sym, ◌∙◌, add-zero}
use Rattle.control.proofs.Words.{saved-on, saved-all}
use Rattle.control.proofs.saves.save_words.Goals as goal

pub loop-i-init : goal.loop-i-init
loop-i-init c = rw (add-zero, sub-zero) refl

pub loop-i-preserved : goal.loop-i-preserved
loop-i-preserved c = c.loop-i.invariant ∙ saved-on _ _ _ _ _ c.loop-i-test.true

pub returns : goal.returns
returns c = sym (c.loop-i.invariant ∙ saved-all _ _ _ _ _ c.loop-i-test.false)
