use Rattle.std.proofs.Common.{w16, to_z}
use mir.ValLaws.{to_z-of_z, to_z-Fits}
use Rattle.words.proofs.Numbers.{signed_high}
use Rattle.words.proofs.signed.signed_of.Goals as goal

pub overflow_sub-result-else-x-lt32768 : goal.overflow_sub-result-else-x-lt32768
overflow_sub-result-else-x-lt32768 c = rw (signed_high c.args.x c.if-x-lt32768.false c.ranges.x.fits) (to_z-Fits w16 c.args.x c.ranges.x)

pub returns-else-x-lt32768 : goal.returns-else-x-lt32768
returns-else-x-lt32768 c = rw (signed_high c.args.x c.if-x-lt32768.false c.ranges.x.fits) (to_z-of_z w16 (to_z w16 c.args.x) (to_z-Fits w16 c.args.x c.ranges.x))
