use mathlib.Core.Path.{ap}
use Rattle.mcode.specs.Run.{RunLeft}
use Rattle.engine.proofs.Closed.{start-placed}
use Rattle.in_place.proofs.Whole.{load-refuses, start-refuses, run-reads, run-placed}
use Rattle.in_place.proofs.reading.reading.Goals as goal

pub returns-in-Err-clause-answer : goal.returns-in-Err-clause-answer
returns-in-Err-clause-answer c = rw c.refused_with.ensures (load-refuses _ _ _ _ _ _ _ _ c.in-Err.ensures)

pub returns-in-Err-clause-place : goal.returns-in-Err-clause-place
returns-in-Err-clause-place c = rw c.refused_with.ensures (λ _. c.in-Err.ensures)

pub returns-in-Ok-clause-answer : goal.returns-in-Ok-clause-answer
returns-in-Ok-clause-answer c = run-reads _ _ _ _ _ _ _ c.in_default.ensures _ _ c.in-Ok.ensures _ c.run.ensures

pub returns-in-Ok-clause-place : goal.returns-in-Ok-clause-place
returns-in-Ok-clause-place c = run-placed _ _ _ _ _ _ _ _ (ap (λ (r : RunLeft). r.ending) c.run.ensures)

pub returns-in-Err-start-clause-answer : goal.returns-in-Err-start-clause-answer
returns-in-Err-start-clause-answer c = rw c.refused_with-in-Err-start.ensures (start-refuses _ _ _ _ _ _ _ c.in_default.ensures _ _ c.in-Err-start.ensures)

pub returns-in-Err-start-clause-place : goal.returns-in-Err-start-clause-place
returns-in-Err-start-clause-place c = rw c.refused_with-in-Err-start.ensures (start-placed _ _ _ _ _ _ c.in-Err-start.ensures)
