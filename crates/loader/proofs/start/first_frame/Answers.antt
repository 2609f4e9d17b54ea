use mathlib.Core.Path.{◌≡◌}
use Prim.Native.Nat.{◌+◌}
use native.Mathlib.Omega.{arith}
use Rattle.mcode.specs.Step.{written}
use Rattle.loader.proofs.start.first_frame.Goals as goal

pub returns : goal.returns
unfolding written
returns c =
    let z = c.args.end in
    let p : z + 8 + 1 ≡ z + 9 = omega arith in
    let q : z + 9 + 1 ≡ z + 10 = omega arith in
    rw (p, q)
