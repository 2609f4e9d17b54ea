use Rattle.std.proofs.Common.{◌≡◌}
use Rattle.actions.specs.Core.{cleared}
use Rattle.actions.proofs.leaf.take.Given as goal

abbrev pub invariant-loop-i : goal.invariant-loop-i
invariant-loop-i g l = l.stack ≡ cleared l.i l.r.depth l.fn.stack
