use Rattle.std.proofs.Common.{le-ltb, lt-ltb, eq-eqb, ne_eqb}
use Rattle.words.proofs.sides.answers_of.Goals as goal

pub returns-then-c-a : goal.returns-then-c-a
returns-then-c-a c = rw (lt-ltb _ _ c.if-c-a.true)

pub returns-then-c-a-2 : goal.returns-then-c-a-2
returns-then-c-a-2 c = rw (le-ltb _ _ c.if-c-a.false, eq-eqb _ _ c.if-c-a-2.true)

pub returns-else-c-a-2 : goal.returns-else-c-a-2
returns-else-c-a-2 c = rw (le-ltb _ _ c.if-c-a.false, ne_eqb _ _ c.if-c-a-2.false)
