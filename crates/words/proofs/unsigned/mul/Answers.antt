use Rattle.std.proofs.Common.{◌*◌, ◌<◌, ◌≤◌, mul-le-mul, arith}
use Rattle.words.proofs.unsigned.mul.Goals as goal

pub overflow_mul-result : goal.overflow_mul-result
overflow_mul-result c =
    let x : c.args.c < 65536 = c.ranges.c.fits in
    let y : c.args.a < 65536 = c.ranges.a.fits in
    let p : c.args.c * c.args.a ≤ 65535 * 65535 = mul-le-mul {n₂ = 65535} {m₂ = 65535} (omega arith) (omega arith) in
    record { fits = omega arith }
