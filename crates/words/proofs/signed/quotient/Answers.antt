use lib.Signed.{quot_z}
use Rattle.std.proofs.Common.{w16, to_z, lt-ltb}
use Rattle.words.proofs.Numbers.{same16, held16, small16, quot_fits, nonzero16}
use Rattle.words.proofs.signed.quotient.Goals as goal

pub nonzero_div-signed_of : goal.nonzero_div-signed_of
nonzero_div-signed_of c =
    let x = c.ranges.c.fits in
    let y = c.ranges.a.fits in (
      rw c.signed_of-2.ensures (nonzero16 c.args.a c.requires.0 y),
      rw (c.signed_of.ensures, c.signed_of-2.ensures, held16 c.args.c x, held16 c.args.a y) (record { sfits = quot_fits c.args.c c.args.a x y (small16 c.args.c x) c.requires.1 }),
    )

pub returns : goal.returns
returns c =
    let x = c.ranges.c.fits in
    let y = c.ranges.a.fits in
    let q = quot_fits c.args.c c.args.a x y (small16 c.args.c x) c.requires.1 in
    rw (c.bits_of.ensures, c.signed_of.ensures, c.signed_of-2.ensures, held16 c.args.c x, held16 c.args.a y, same16 (quot_z (to_z w16 c.args.c) (to_z w16 c.args.a)) q, lt-ltb _ _ q)
