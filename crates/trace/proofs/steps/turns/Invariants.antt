use mathlib.Core.Path.{◌≡◌}
use Rattle.mcode.specs.Machine.{state, live}
use Rattle.mcode.specs.Run.{run_of}
use Rattle.engine.specs.Ran.{answered}
use Rattle.trace.proofs.steps.turns.Given as goal

abbrev pub invariant-loop-done : goal.invariant-loop-done
invariant-loop-done l =
    answered l.ran l.store l.outputs ≡ run_of l.loaded.image.now l.loaded.map.now l.loaded.inputs.now l.done (live (state l.initial.ran.machine l.initial.store l.initial.outputs) l.initial.ran.requests)
