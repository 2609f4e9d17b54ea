use Rattle.words.proofs.Families.{signed_word}
use Rattle.words.proofs.sides.compared_signed.Goals as goal

pub returns : goal.returns
returns c = rw (c.answer_of.ensures, c.raised-2.ensures, c.raised.ensures)
    (signed_word _ _ c.ranges.c.fits c.ranges.a.fits _ c.requires.0 c.requires.1)
