use Rattle.words.proofs.Families.{sums_word}
use Rattle.words.proofs.unsigned.sums.Goals as goal

pub returns : goal.returns
returns c = rw (c.settled.ensures, c.chosen_wide-2.ensures, c.chosen_wide.ensures, c.mul-z.ensures, c.sub-y.ensures, c.add-x.ensures)
    (sums_word _ _ c.ranges.c.fits c.ranges.a.fits _ c.requires.0 c.requires.1)
