use Rattle.std.proofs.Common.{eq-eqb, ne_eqb}
use Rattle.words.proofs.signed.div.Goals as goal

pub returns-then-a-eq0 : goal.returns-then-a-eq0
returns-then-a-eq0 c = rw (eq-eqb _ _ c.if-a-eq0.true)

pub quotient-requires : goal.quotient-requires
quotient-requires c = (c.if-a-eq0.false, λ e f. c.if-a-eq65535.false f)

pub quotient-requires-else-c-eq32768 : goal.quotient-requires-else-c-eq32768
quotient-requires-else-c-eq32768 c = (c.if-a-eq0.false, λ e f. c.if-c-eq32768.false e)

pub returns-then-a-eq65535 : goal.returns-then-a-eq65535
returns-then-a-eq65535 c = rw (c.if-c-eq32768.true, c.if-a-eq65535.true)

pub returns-else-a-eq65535 : goal.returns-else-a-eq65535
returns-else-a-eq65535 c = rw (ne_eqb _ _ c.if-a-eq0.false) c.quotient.ensures

pub returns-else-c-eq32768 : goal.returns-else-c-eq32768
returns-else-c-eq32768 c = rw (ne_eqb _ _ c.if-a-eq0.false) c.quotient-else-c-eq32768.ensures
