-- After each turn, what was run so far is one run of as many steps as there were turns.
use mathlib.Core.Path.{◌≡◌}
use Prim.Native.Nat.{◌≤◌}
use Rattle.trace.proofs.Most.{at_most}
use Rattle.trace.proofs.Together.{begins, goes_on, from_start, all-run}
use native.Mathlib.Omega.{arith}
use Rattle.trace.proofs.steps.turns.Goals as goal

pub loop-done-init : goal.loop-done-init
loop-done-init c = begins _ _ _ _ _ c.run-ran.ensures

pub more-next-requires : goal.more-next-requires
more-next-requires c =
    let h : c.loop-done.ran.count ≤ c.loop-done.done = at_most _ _ _ _ _ _ c.loop-done.invariant in
    omega arith

pub returns-then-ne : goal.returns-then-ne
returns-then-ne c =
    (from_start _ _ _ _ _ _ _ c.run-ran.ensures (goes_on _ _ _ c.loop-done.done 1 _ _ _ (omega arith) c.loop-done.invariant c.more-next.ensures), omega arith)

pub loop-done-preserved : goal.loop-done-preserved
loop-done-preserved c = goes_on _ _ _ c.loop-done.done 1 _ _ _ (omega arith) c.loop-done.invariant c.more-next.ensures

pub returns : goal.returns
returns c =
    let n : c.loop-done.done ≡ c.args.part.steps = omega arith in
    (all-run _ _ _ _ _ _ _ n (from_start _ _ _ _ _ _ _ c.run-ran.ensures c.loop-done.invariant), omega arith)
