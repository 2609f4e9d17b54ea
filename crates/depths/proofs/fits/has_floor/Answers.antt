-- A mark lies above the floor by at most 16, and nothing else does.
use Rattle.std.proofs.Common.{arith}
use Rattle.depths.proofs.Bools.{same-floor}
use Rattle.depths.proofs.fits.has_floor.Goals as goal

pub returns : goal.returns
returns c = same-floor c.args.mark c.args.floor c.requires (omega arith)
