use mathlib.Core.Path.{◌≡◌}
use lib.ListN.{length}
use Rattle.walk.specs.Set.{walk_of}
use Rattle.depths.specs.Queue.{Queue, Entered}
use Rattle.walk.proofs.enter.Given as goal

abbrev pub invariant-loop-i : goal.invariant-loop-i
invariant-loop-i l =
    let A = walk_of l.code in
    Queue A l.map l.work 0 l.t × Entered A l.map l.i × (length l.work ≡ length l.initial.work)
