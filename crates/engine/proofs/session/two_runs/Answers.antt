use Rattle.std.proofs.lemmas.Result.{err_from_is_err_and}
use Rattle.engine.proofs.Closed.{load-ends, start-ends, start-placed, both_run}
use Rattle.engine.proofs.session.two_runs.Goals as goal

pub returns-in_err-load-clause-answer : goal.returns-in_err-load-clause-answer
returns-in_err-load-clause-answer c = let p = err_from_is_err_and c.from_residual.result c.from_residual.ensures.1 in rw (p.1, p.2) (load-ends _ _ _ _ _ _ _ _ c.in_err-load.ensures)

pub returns-in_err-load-clause-place : goal.returns-in_err-load-clause-place
returns-in_err-load-clause-place c = let p = err_from_is_err_and c.from_residual.result c.from_residual.ensures.1 in rw (p.1, p.2) (λ _. c.in_err-load.ensures)

pub returns-in_err-machine-clause-answer : goal.returns-in_err-machine-clause-answer
returns-in_err-machine-clause-answer c =
    let p = err_from_is_err_and c.from_residual-in_err-machine.result c.from_residual-in_err-machine.ensures.1 in
    rw (p.1, p.2) (start-ends _ _ _ _ _ _ _ c.in_ok-load.ensures _ _ c.in_err-machine.ensures)

pub returns-in_err-machine-clause-place : goal.returns-in_err-machine-clause-place
returns-in_err-machine-clause-place c =
    let p = err_from_is_err_and c.from_residual-in_err-machine.result c.from_residual-in_err-machine.ensures.1 in
    rw (p.1, p.2) (start-placed _ _ _ _ _ _ c.in_err-machine.ensures)

pub returns-clause-answer : goal.returns-clause-answer
returns-clause-answer c = both_run _ _ _ _ _ _ _ c.in_ok-load.ensures _ _ c.in_ok-machine.ensures _ _ _ _ _ _ c.run-first.ensures c.run-second.ensures
