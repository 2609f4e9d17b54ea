use Rattle.std.proofs.Common.{◌<◌, pos, ◌-ℤ◌, neg_ℤ, w16, to_z, lt-ltb}
use lib.Signed.{mag}
use Rattle.words.proofs.Numbers.{same16, held16, neg-fits, opposite}
use Rattle.words.proofs.signed.neg.Goals as goal

pub overflow_sub-signed_of : goal.overflow_sub-signed_of
overflow_sub-signed_of c = rw (c.signed_of.ensures, held16 c.args.a c.ranges.a.fits) (record { sfits = neg-fits c.args.a c.ranges.a.fits c.if-a-eq32768.false })

pub returns-then-a-eq32768 : goal.returns-then-a-eq32768
returns-then-a-eq32768 c = rw c.if-a-eq32768.true

pub returns-else-a-eq32768 : goal.returns-else-a-eq32768
returns-else-a-eq32768 c =
    let z = to_z w16 c.args.a in
    let h = neg-fits c.args.a c.ranges.a.fits c.if-a-eq32768.false in
    let k : mag (neg_ℤ z) < 32768 = rw (opposite z) at h in
    rw (c.bits_of.ensures, c.signed_of.ensures, held16 c.args.a c.ranges.a.fits, same16 (pos 0 -ℤ z) h, opposite z, lt-ltb _ _ k)
