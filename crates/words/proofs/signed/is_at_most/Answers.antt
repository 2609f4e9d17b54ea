use Rattle.words.proofs.Numbers.{held16}
use Rattle.words.proofs.signed.is_at_most.Goals as goal

pub returns : goal.returns
returns c = rw (c.signed_of.ensures, c.signed_of-2.ensures, held16 c.args.c c.ranges.c.fits, held16 c.args.a c.ranges.a.fits)
