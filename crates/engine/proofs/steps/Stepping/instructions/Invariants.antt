use Rattle.engine.proofs.Turns.{Going, held_as}
use Rattle.engine.proofs.steps.Stepping.instructions.Given as goal

abbrev pub invariant-steps : goal.invariant-steps
invariant-steps l = Going l.n l.fn.self (held_as l.fn.self l.stack l.store l.outputs l.taken) l.budget l.r

abbrev pub decreases-steps : goal.decreases-steps
decreases-steps l = l.budget
