use Rattle.std.proofs.Common.{◌*ℤ◌}
use Rattle.words.proofs.Numbers.{in32, mul-mag}
use Rattle.words.proofs.signed.mul.Goals as goal

pub overflow_mul-wide_of : goal.overflow_mul-wide_of
overflow_mul-wide_of c = (in32 ◌*ℤ◌ mul-mag c.wide_of.result c.wide_of-2.result c.wide_of.ensures.1 c.wide_of-2.ensures.1).0

pub returns : goal.returns
returns c =
    let x = c.wide_of.ensures in
    let y = c.wide_of-2.ensures in
    rw (c.settled.ensures, (in32 ◌*ℤ◌ mul-mag c.wide_of.result c.wide_of-2.result x.1 y.1).1, x.0, y.0)
