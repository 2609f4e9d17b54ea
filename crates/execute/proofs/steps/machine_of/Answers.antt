use mathlib.Core.Path.{refl}
use Rattle.execute.proofs.steps.machine_of.Goals as goal

pub returns : goal.returns
returns c = refl
