use Rattle.words.proofs.Numbers.{low_signed}
use Rattle.std.proofs.Common.{le-ltb, lt-ltb}
use Rattle.words.proofs.signed.abs.Goals as goal

pub returns-then-a-lt32768 : goal.returns-then-a-lt32768
returns-then-a-lt32768 c = rw (low_signed c.args.a c.if-a-lt32768.true, lt-ltb c.args.a 32768 c.if-a-lt32768.true)

pub returns-else-a-lt32768 : goal.returns-else-a-lt32768
returns-else-a-lt32768 c = rw (le-ltb _ 32768 c.if-a-lt32768.false) (rw (le-ltb _ 32768 c.if-a-lt32768.false) at c.neg.ensures)
