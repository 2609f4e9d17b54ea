-- The search until the queue is empty, where the map is the fewest that fits; the loop keeps the queue, the entries and the next turn.
use Rattle.std.proofs.Common.{◌+◌, ◌∙◌}
use Rattle.depths.specs.Lent.{depths_of}
use Rattle.depths.proofs.Theory.{more-going}
use Rattle.depths.proofs.Marks.{real-entry}
use Rattle.depths.proofs.drain.Goals as goal

pub loop-h-preserved : goal.loop-h-preserved
loop-h-preserved c =
    let r = c.args.rules.now in
    let l = c.loop-h in
    let e = rw c.in-Some.is at c.expand.ensures in (
      more-going (depths_of r) (l.h + 1) l.map _ _ (real-entry r) l.invariant.0.1 _ e.0,
      c.expand.auto.map ∙ l.invariant.1,
      c.expand.auto.work ∙ l.invariant.2,
      e.1,
    )
