use mathlib.Core.Path.{sym, ◌∙◌}
use Rattle.mcode.specs.Step.{back_to}
use Rattle.control.proofs.Laws.{anchored-in, from_start}
use Rattle.control.proofs.Find.{find-stands, find, stands-few}
use Rattle.control.proofs.frames.back_there.Goals as goal

pub in_module-requires : goal.in_module-requires
in_module-requires c = stands-few _ _ _ _ _ c.requires.mapped (sym c.stands.ensures ∙ c.if-not-stands.false)

pub returns-then-not-stands : goal.returns-then-not-stands
unfolding back_to
returns-then-not-stands c =
    let f = rw c.find_base-k.ensures at (sym c.stands.ensures ∙ c.if-not-stands.true) in
    ((λ lent bytes words h stack out. rw (find-stands h _ _ _ ∙ f)), c.requires.anchored)

pub returns : goal.returns
unfolding back_to
returns c =
    let e = sym c.stands.ensures ∙ c.if-not-stands.false in
    let f = rw c.find_base-k.ensures at e in
    ((λ lent bytes words h stack out. rw (find-stands h _ _ _ ∙ f, find h _ _ _ f, ← c.find_base-k.ensures, c.in_module.ensures, from_start)), anchored-in _ c.find_base-k.result _ _ _ c.args.r _ (stands-few _ _ _ _ _ c.requires.mapped e) c.in_module.ensures)
