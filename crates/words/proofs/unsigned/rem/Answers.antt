use Rattle.std.proofs.Common.{eq-eqb, ne_eqb}
use Rattle.words.proofs.unsigned.rem.Goals as goal

pub returns-then-a-eq0 : goal.returns-then-a-eq0
returns-then-a-eq0 c = rw (eq-eqb _ _ c.if-a-eq0.true)

pub returns-else-a-eq0 : goal.returns-else-a-eq0
returns-else-a-eq0 c = rw (ne_eqb _ _ c.if-a-eq0.false)
