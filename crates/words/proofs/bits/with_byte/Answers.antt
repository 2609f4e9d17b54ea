use Rattle.std.proofs.Common.{eq-eqb, ne_eqb}
use Rattle.words.proofs.bits.with_byte.Goals as goal

pub returns-then-i-eq0 : goal.returns-then-i-eq0
returns-then-i-eq0 c = rw (eq-eqb _ _ c.if-i-eq0.true)

pub returns-else-i-eq0 : goal.returns-else-i-eq0
returns-else-i-eq0 c = rw (ne_eqb _ _ c.if-i-eq0.false)
