use Rattle.mcode.specs.Run.{step_tally}
use Rattle.engine.proofs.Looping.{Looping}
use Rattle.engine.proofs.steps.Stepping.steps.Given as goal

abbrev pub invariant-traps : goal.invariant-traps
invariant-traps l = Looping step_tally l.initial.self l.self

abbrev pub decreases-traps : goal.decreases-traps
decreases-traps l = l.self.left
