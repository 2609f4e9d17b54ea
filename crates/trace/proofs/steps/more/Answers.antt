-- The counts of two runs add, and their sum fits: a run does at most as many steps as its budget.
use Prim.Native.Nat.{◌≤◌}
use Rattle.trace.proofs.Most.{at_most}
use native.Mathlib.Omega.{arith}
use Rattle.trace.proofs.steps.more.Goals as goal

pub overflow_add-result : goal.overflow_add-result
overflow_add-result c =
    let h : c.run-next.result.count ≤ c.args.m = at_most _ _ _ _ _ _ c.run-next.ensures in
    omega (arith, c.requires)
