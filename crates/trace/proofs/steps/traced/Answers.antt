-- What the turns left, and the rest of the budget, are one run of all the steps.
use mathlib.Core.Path.{◌≡◌}
use Prim.Native.Nat.{◌-◌, ◌+◌, ◌≤◌}
use Rattle.trace.proofs.Most.{at_most}
use Rattle.trace.proofs.Together.{goes_on, all-run}
use native.Mathlib.Omega.{arith}
use Rattle.trace.proofs.steps.traced.Goals as goal

pub more-requires : goal.more-requires
more-requires c =
    let h : c.turns-done.result.0.count ≤ c.turns-done.result.1 = at_most _ _ _ _ _ _ c.turns-done.ensures.0 in
    omega arith

pub returns-then-done-part : goal.returns-then-done-part
returns-then-done-part c =
    let d = c.turns-done.result.1 in
    let n = c.args.part.steps in
    let q : d + (n - d) ≡ n = omega (arith, c.turns-done.ensures.1) in
    let l : 1 ≤ n - d = omega arith in
    all-run _ _ _ _ _ _ _ q (goes_on _ _ _ d (n - d) _ _ _ l c.turns-done.ensures.0 c.more.ensures)

pub returns : goal.returns
returns c =
    let q : c.turns-done.result.1 ≡ c.args.part.steps = omega (arith, c.turns-done.ensures.1) in
    all-run _ _ _ _ _ _ _ q c.turns-done.ensures.0
