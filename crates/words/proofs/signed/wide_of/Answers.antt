use Rattle.std.proofs.Common.{◌<◌, arith}
use lib.Signed.{mag}
use Rattle.words.proofs.Numbers.{fits32, same16, small16, small32}
use Rattle.words.proofs.signed.wide_of.Goals as goal

pub overflow_cast-result : goal.overflow_cast-result
overflow_cast-result c =
    let h : mag c.signed_of.result < 32768 = rw c.signed_of.ensures (small16 c.args.x c.ranges.x.fits) in
    rw (same16 c.signed_of.result h) (fits32 c.signed_of.result (omega arith))

pub returns : goal.returns
returns c =
    let h : mag c.signed_of.result < 32768 = rw c.signed_of.ensures (small16 c.args.x c.ranges.x.fits) in
    rw (same16 c.signed_of.result h, small32 c.signed_of.result h) (c.signed_of.ensures, h)
