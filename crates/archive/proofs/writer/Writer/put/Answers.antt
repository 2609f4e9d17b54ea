use Rattle.std.proofs.Common.{refl}
use Rattle.archive.proofs.writer.Writer.put.Goals as goal

pub returns : goal.returns
returns c = (refl, record { next-is = refl; after_is = c.copy.ensures })
