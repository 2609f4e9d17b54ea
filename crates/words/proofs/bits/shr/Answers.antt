use Rattle.std.proofs.Common.{le-ltb, lt-ltb}
use Rattle.words.proofs.bits.shr.Goals as goal

pub returns-then-a-lt16 : goal.returns-then-a-lt16
returns-then-a-lt16 c = rw (lt-ltb _ _ c.if-a-lt16.true)

pub returns-else-a-lt16 : goal.returns-else-a-lt16
returns-else-a-lt16 c = rw (le-ltb _ _ c.if-a-lt16.false)
