use mathlib.Core.Path.{refl}
use Rattle.execute.proofs.Whole.{lends}
use Rattle.engine.proofs.Turns.{asks, listed, goes_on, stops_so}
use Rattle.engine.proofs.steps.Stepping.instructions.Goals as goal

pub turn-requires : goal.turn-requires
turn-requires c = record { asks = asks _ _ _ _ _ c.steps.invariant; bound = (listed _ _ _ _ _ c.steps.invariant, c.steps.invariant.ready.inputs, c.steps.invariant.ready.outputs) }

pub steps-preserved : goal.steps-preserved
steps-preserved c =
    goes_on _ _ _ _ _ c.steps.invariant _ _ (c.in-Ok.ensures.0 _ (lends _ c.steps.invariant.ready.prepared)) c.in-Ok.ensures.1 c.in-Ok.ensures.2
    (record { image = refl; table = refl; map = refl; inputs = refl; store = refl; outputs = refl; sized = c.turn.auto.store }) refl refl

pub returns : goal.returns
returns c =
    stops_so _ _ _ _ _ c.steps.invariant _ _ (c.in-Err.ensures.0 _ (lends _ c.steps.invariant.ready.prepared)) c.in-Err.ensures.1
    (record { image = refl; table = refl; map = refl; inputs = refl; store = refl; outputs = refl; sized = c.turn.auto.store }) c.requires.within refl refl refl
