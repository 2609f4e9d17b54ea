use Rattle.explain.specs.Reason.{PlaceOf}
use Rattle.explain.proofs.misfit.entries_met.Given as goal

abbrev pub invariant-loop-i : goal.invariant-loop-i
invariant-loop-i l = PlaceOf l.rules l.k l.best
