use mathlib.Core.Path.{sym, ◌∙◌}
use Rattle.mcode.specs.Step.{back_to}
use Rattle.actions.proofs.Laws.{stays-as}
use Rattle.control.proofs.Laws.{stays-framed, from_start, after-start}
use Rattle.control.proofs.Find.{standing-in}
use native.Mathlib.Omega.{arith}
use Rattle.control.proofs.frames.back_here.Goals as goal

pub overflow_add-r : goal.overflow_add-r
overflow_add-r c = omega (arith, c.requires.depth_bound.2, c.ranges.at)

pub returns-then-not-stands : goal.returns-then-not-stands
unfolding back_to
returns-then-not-stands c = ((λ lent bytes words h stack out. rw (standing-in h _ _ _, sym c.stands.ensures ∙ c.if-not-stands.true)), stays-as _)

pub returns : goal.returns
unfolding back_to
returns c = ((λ lent bytes words h stack out. rw (standing-in h _ _ _, sym c.stands.ensures ∙ c.if-not-stands.false, c.framed.ensures, from_start)), stays-framed _ _ _ _ c.args.r _ (after-start _ _) c.framed.ensures)
