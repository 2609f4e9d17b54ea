use Rattle.std.proofs.Common.{◌≡◌, ◌-◌, length}
use Rattle.depths.specs.Lent.{depths_of}
use Rattle.depths.specs.Queue.{AllMarks}
use Rattle.depths.proofs.Theory.{Going}
use Rattle.depths.proofs.drain.Given as goal

abbrev pub invariant-loop-h : goal.invariant-loop-h
invariant-loop-h l =
    Going (depths_of l.rules) l.map l.work l.h l.turn × (length l.map ≡ length l.initial.map) × (length l.work ≡ length l.initial.work) × AllMarks l.map

abbrev pub decreases-loop-h : goal.decreases-loop-h
decreases-loop-h l = length l.work - l.h
