use Rattle.explain.specs.Reason.{PlaceOf}
use Rattle.explain.proofs.misfit.lowest.Given as goal

abbrev pub invariant-loop-p : goal.invariant-loop-p
invariant-loop-p l = PlaceOf l.rules l.k l.best
