use mathlib.Core.Path.{refl, ◌∙◌}
use Rattle.engine.proofs.Turns.{refused-run, stopped-run}
use Rattle.loader.proofs.Early.{numbered}
use Rattle.engine.proofs.run.run.Goals as goal

pub returns-in-Ok : goal.returns-in-Ok
returns-in-Ok c = c.steps.ensures ∙ stopped-run _ _ _ _ _ (c.in-Ok.ensures.0 _ _ _ refl refl refl)

pub returns-in-Err : goal.returns-in-Err
returns-in-Err c = refused-run _ _ _ _ _ _ (c.in-Err.ensures _ _ _ refl refl refl) (numbered c.in-Err.refusal)
