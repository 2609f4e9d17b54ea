-- STORE and LODFW by the marks that they leave, where they are permitted.
use Rattle.std.proofs.Common.{sym, refl, ap, ◌∙◌}
use Rattle.mcode.specs.Depths.{permits}
use Rattle.mcode.specs.declared.Flow.TheVariants.{To}
use Rattle.mcode.proofs.Marks.{leaves-stored, leaves-fetched}
use Rattle.depths.proofs.Flows.{saved-fetch}
use Rattle.depths.proofs.rules.moved.Goals as goal

pub returns-then-not-permitted : goal.returns-then-not-permitted
returns-then-not-permitted c = λ e. rw (sym c.permitted.ensures ∙ c.if-not-permitted.true) refl

pub store_mark-requires : goal.store_mark-requires
store_mark-requires c = (c.requires.1, ap (permits c.args.k) (sym c.if-op-eq178.true) ∙ sym c.permitted.ensures ∙ c.if-not-permitted.false)

pub returns-then-op-eq178 : goal.returns-then-op-eq178
returns-then-op-eq178 c = λ e. rw (sym c.permitted.ensures ∙ c.if-not-permitted.false, c.if-op-eq178.true) (ap (To c.args.n) (c.store_mark.ensures ∙ sym (leaves-stored c.args.k e)))

pub fetch_mark-requires : goal.fetch_mark-requires
fetch_mark-requires c = ap (permits c.args.k) (sym (saved-fetch c.args.op c.requires.0 c.if-op-eq178.false)) ∙ sym c.permitted.ensures ∙ c.if-not-permitted.false

pub returns : goal.returns
returns c = λ e. rw (sym c.permitted.ensures ∙ c.if-not-permitted.false, saved-fetch c.args.op c.requires.0 c.if-op-eq178.false) (ap (To c.args.n) (c.fetch_mark.ensures ∙ sym (leaves-fetched c.args.k e)))
