use mathlib.Core.Path.{◌≡◌}
use Prim.Native.Nat.{◌+◌, ◌*◌}
use native.Mathlib.Omega.{arith}
use Rattle.mcode.specs.Step.{written}
use Rattle.engine.proofs.table.put_module.Goals as goal

pub returns : goal.returns
unfolding written
returns c =
    let i = 6 * c.args.k in
    let p₁ : i + 1 + 1 ≡ i + 2 = omega arith in
    let p₂ : i + 2 + 1 ≡ i + 3 = omega arith in
    let p₃ : i + 3 + 1 ≡ i + 4 = omega arith in
    let p₄ : i + 4 + 1 ≡ i + 5 = omega arith in
    let p₅ : i + 5 + 1 ≡ i + 6 = omega arith in
    rw (p₁, p₂, p₃, p₄, p₅)
