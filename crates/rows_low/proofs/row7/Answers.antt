use Rattle.mcode.specs.Decode.{decode_of}
use Rattle.actions.specs.Core.{instruction}
use Rattle.rows_low.proofs.row7.Goals as goal

pub returns : goal.returns
unfolding instruction decode_of
returns c = ((λ lent o out. rw c.requires.0 (c.save_below.ensures.0 lent out)), c.save_below.ensures.1)
