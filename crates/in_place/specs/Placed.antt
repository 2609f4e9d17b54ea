-- What a step in place and the loop over it answer and leave, in the definition's terms. Assumes nothing.
use Rattle.std.specs.Prelude.{ℕ, List}
use Rattle.mcode.specs.Machine.{State, state}
use Rattle.mcode.specs.Run.{RunEnd, Tally, tally}
use Rattle.mcode.specs.declared.Machine.{Machine}
use Rattle.actions.specs.Core.{Left}
use Rattle.in_place.specs.declared.step.Halt.{Halt}
use Rattle.in_place.specs.declared.run.Halted.{Halted}

abbrev pub left_at : Halt → Machine → List ℕ → List ℕ → Left
left_at q m store out = record { stop = q.stop; state = state m store out }

abbrev pub halted_at : Halted → List ℕ → List ℕ → RunEnd (Tally State)
halted_at q store out = record { stop = q.stop; count = q.count; state = tally (state q.machine store out) q.channels }
