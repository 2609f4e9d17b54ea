use mathlib.Core.Path.{◌≡◌}
use Prim.Native.Nat.{◌-◌}
use lib.ListN.{length}
use Rattle.walk.specs.Set.{walk_of}
use Rattle.depths.specs.Queue.{Queue, Entered}
use Rattle.walk.proofs.drain.Given as goal

abbrev pub invariant-loop-h : goal.invariant-loop-h
invariant-loop-h l =
    let A = walk_of l.code in
    Queue A l.map l.work l.h l.t × Entered A l.map A.entries × (length l.map ≡ length l.initial.map) × (length l.work ≡ length l.initial.work)

abbrev pub decreases-loop-h : goal.decreases-loop-h
decreases-loop-h l = length l.work - l.h
