use Rattle.std.proofs.Common.{le-leb}
use borrow.Author.Tests.{lt-leb}
use Rattle.words.proofs.unsigned.within.Goals as goal

pub returns-then-e-low : goal.returns-then-e-low
returns-then-e-low c = rw (lt-leb _ _ c.if-e-low.true)

pub returns-then-high-e : goal.returns-then-high-e
returns-then-high-e c = rw (le-leb _ _ c.if-e-low.false, lt-leb _ _ c.if-high-e.true)

pub returns-else-high-e : goal.returns-else-high-e
returns-else-high-e c = rw (le-leb _ _ c.if-e-low.false, le-leb _ _ c.if-high-e.false)
