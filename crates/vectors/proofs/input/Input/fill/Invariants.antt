use Rattle.std.proofs.Common.{◌-◌, ◌≤◌}
use Rattle.vectors.proofs.input.Input.fill.Given as goal

abbrev pub invariant-loop-self : goal.invariant-loop-self
invariant-loop-self l = l.self.end ≤ 4096

abbrev pub decreases-loop-self : goal.decreases-loop-self
decreases-loop-self l = 4096 - l.self.end
