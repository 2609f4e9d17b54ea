use Rattle.words.proofs.Families.{bits-word}
use Rattle.words.proofs.bits.bitwise.Goals as goal

pub returns : goal.returns
returns c = rw (c.chosen-2.ensures, c.chosen.ensures) (bits-word _ _ _ c.requires.0 c.requires.1)
