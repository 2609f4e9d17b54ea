use mathlib.Core.Path.{◌∙◌}
use Rattle.execute.proofs.Laws.{turn_is, asks-turn}
use native.Mathlib.Omega.{arith}
use Rattle.execute.proofs.turn.Goals as goal

pub bounds-image-i : goal.bounds-image-i
bounds-image-i c = omega (arith, c.requires.asks.controls.ready.bytes, c.requires.bound.0)

pub perform-requires : goal.perform-requires
perform-requires c = rw c.chosen-op.ensures (record { asks = asks-turn c.requires.asks c.args.left; inputs_len = (c.requires.bound.1, c.requires.bound.2) })

pub returns : goal.returns
returns c = ((λ lent h. rw c.chosen-op.ensures at (c.perform.ensures.0 lent h) ∙ turn_is c.requires.asks _ _ _ c.args.left h c.requires.bound.0), rw c.chosen-op.ensures at c.perform.ensures.1, c.perform.ensures.2)
