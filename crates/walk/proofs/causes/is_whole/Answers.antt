-- A position with no cause of fault is whole.
use Rattle.std.proofs.Common.{◌≡◌, Bool, true, false, not, refl, sym, is_some, Option, Some, None}
use Rattle.mcode.specs.declared.Cause.{Cause}
use Rattle.mcode.specs.Walk.{is_nothing, whole_at}
use Rattle.walk.proofs.causes.is_whole.Goals as goal

nothing : (o : Option Cause) (b : Bool) → is_some o ≡ not b → b ≡ is_nothing o
nothing None true e = refl
nothing None false e = cc
nothing (Some cause) true e = cc
nothing (Some cause) false e = refl

pub returns : goal.returns
unfolding whole_at
returns c = rw (sym c.cause_at.ensures) (nothing c.cause_at.result c.is_none.result c.is_none.ensures)
