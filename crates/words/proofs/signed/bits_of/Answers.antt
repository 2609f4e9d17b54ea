use Rattle.std.proofs.Common.{arith, w16}
use mir.ValLaws.{to_z-of_z}
use Rattle.words.proofs.Numbers.{same16, bits-high, bits-low}
use Rattle.words.proofs.signed.bits_of.Goals as goal

pub overflow_cast-result : goal.overflow_cast-result
overflow_cast-result c =
    let e = to_z-of_z w16 c.args.z c.ranges.z in
    let h = bits-high c.args.z (rw e at c.if-z-ge0.true) c.ranges.z.sfits in
    rw e (h.0, h.1)

pub overflow_sub-result : goal.overflow_sub-result
overflow_sub-result c =
    let e = to_z-of_z w16 c.args.z c.ranges.z in
    let h = bits-low c.args.z (rw e at c.if-z-ge0.false) c.ranges.z.sfits in
    rw e (record { sfits = h.0 })

pub overflow_cast-result-else-z-ge0 : goal.overflow_cast-result-else-z-ge0
overflow_cast-result-else-z-ge0 c =
    let e = to_z-of_z w16 c.args.z c.ranges.z in
    let h = bits-low c.args.z (rw e at c.if-z-ge0.false) c.ranges.z.sfits in
    rw (e, same16 _ h.0) (h.1, record { fits = omega (arith, h.2) })

pub overflow_sub-result-else-z-ge0 : goal.overflow_sub-result-else-z-ge0
overflow_sub-result-else-z-ge0 c =
    let e = to_z-of_z w16 c.args.z c.ranges.z in
    let h = bits-low c.args.z (rw e at c.if-z-ge0.false) c.ranges.z.sfits in
    rw (e, same16 _ h.0) (omega (arith, h.2))

pub returns-then-z-ge0 : goal.returns-then-z-ge0
returns-then-z-ge0 c =
    let e = to_z-of_z w16 c.args.z c.ranges.z in
    rw e (bits-high c.args.z (rw e at c.if-z-ge0.true) c.ranges.z.sfits).2

pub returns-else-z-ge0 : goal.returns-else-z-ge0
returns-else-z-ge0 c =
    let e = to_z-of_z w16 c.args.z c.ranges.z in
    let h = bits-low c.args.z (rw e at c.if-z-ge0.false) c.ranges.z.sfits in
    rw (e, same16 _ h.0) h.3
