use Rattle.std.proofs.Common.{w32, lt-ltb}
use mir.ValLaws.{to_z-of_z}
use Rattle.words.proofs.Numbers.{same16, low, high, mid}
use Rattle.words.proofs.signed.settled.Goals as goal

pub returns-then-z-ltminus32768 : goal.returns-then-z-ltminus32768
returns-then-z-ltminus32768 c = rw (low c.args.z (rw (to_z-of_z w32 c.args.z c.ranges.z) at c.if-z-ltminus32768.true))

pub returns-then-z-gt32767 : goal.returns-then-z-gt32767
returns-then-z-gt32767 c = rw (high c.args.z (rw (to_z-of_z w32 c.args.z c.ranges.z) at c.if-z-gt32767.true))

pub overflow_cast-z : goal.overflow_cast-z
overflow_cast-z c =
    let e = to_z-of_z w32 c.args.z c.ranges.z in
    rw e (record { sfits = mid c.args.z (rw e at c.if-z-ltminus32768.false) (rw e at c.if-z-gt32767.false) })

pub returns : goal.returns
returns c =
    let e = to_z-of_z w32 c.args.z c.ranges.z in
    let h = mid c.args.z (rw e at c.if-z-ltminus32768.false) (rw e at c.if-z-gt32767.false) in
    rw (c.bits_of.ensures, e, same16 c.args.z h, lt-ltb _ _ h)
