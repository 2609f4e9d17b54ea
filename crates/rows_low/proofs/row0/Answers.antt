use Rattle.mcode.specs.Decode.{decode_of}
use Rattle.actions.specs.Core.{instruction}
use Rattle.rows_low.proofs.row0.Goals as goal

pub returns : goal.returns
unfolding instruction decode_of
returns c = ((λ lent o store out. rw c.requires.0 (c.put_word.ensures.0 lent store out)), c.put_word.ensures.1)
