use Rattle.std.proofs.Common.{◌≡◌, length}
use Rattle.depths.specs.Lent.{depths_of}
use Rattle.depths.specs.Queue.{AllMarks, Queue, Entered}
use Rattle.depths.proofs.enter.Given as goal

abbrev pub invariant-loop-i : goal.invariant-loop-i
invariant-loop-i l = Queue (depths_of l.rules) l.map l.work 0 l.t × Entered (depths_of l.rules) l.map l.i × (length l.work ≡ length l.initial.work) × AllMarks l.map
