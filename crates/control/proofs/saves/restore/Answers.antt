use Rattle.std.proofs.Common.{◌≡◌, ◌+◌, ◌-◌, refl, arith}
use Rattle.mcode.specs.Step.{restored}
use Rattle.control.proofs.Words.{restored-up}
use Rattle.control.proofs.saves.restore.Goals as goal

pub loop-n-init : goal.loop-n-init
unfolding restored
loop-n-init c = refl

pub loop-n-preserved : goal.loop-n-preserved
loop-n-preserved c =
    let b = c.loop-n.invariant in
    rw b (restored-up _ _ _ _ _ c.loop-n-test.true)

pub returns : goal.returns
returns c =
    let n : c.loop-n.n ≡ c.args.k = omega arith in
    let z : c.args.a + (c.args.k - c.args.k) ≡ c.args.a = omega arith in
    rw (n, z) at c.loop-n.invariant
