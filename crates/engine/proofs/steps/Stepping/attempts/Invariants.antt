use Rattle.mcode.specs.Run.{attempt_tally}
use Rattle.engine.proofs.Looping.{Looping}
use Rattle.engine.proofs.steps.Stepping.attempts.Given as goal

abbrev pub invariant-lines : goal.invariant-lines
invariant-lines l = Looping attempt_tally l.initial.self l.self

abbrev pub decreases-lines : goal.decreases-lines
decreases-lines l = l.self.left
