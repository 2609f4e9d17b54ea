use Rattle.std.proofs.Common.{sym, ◌∙◌}
use Rattle.words.proofs.signed.within.Goals as goal

pub returns-then-is_at_most-2 : goal.returns-then-is_at_most-2
returns-then-is_at_most-2 c = rw (sym c.is_at_most.ensures ∙ c.if-is_at_most.true, sym c.is_at_most-then-is_at_most.ensures ∙ c.if-is_at_most-2.true)

pub returns-else-is_at_most-2 : goal.returns-else-is_at_most-2
returns-else-is_at_most-2 c = rw (sym c.is_at_most.ensures ∙ c.if-is_at_most.true, sym c.is_at_most-then-is_at_most.ensures ∙ c.if-is_at_most-2.false)

pub returns-else-is_at_most : goal.returns-else-is_at_most
returns-else-is_at_most c = rw (sym c.is_at_most.ensures ∙ c.if-is_at_most.false)
