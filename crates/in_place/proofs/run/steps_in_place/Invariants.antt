-- Before each turn: what is left to run ends as the whole run.
use Rattle.std.proofs.Common.{◌-◌, length}
use Rattle.mcode.specs.Machine.{state}
use Rattle.mcode.specs.Run.{tally}
use Rattle.in_place.proofs.Onward.{Onward}
use Rattle.in_place.proofs.run.steps_in_place.Given as goal

abbrev pub invariant-desk : goal.invariant-desk
invariant-desk l = Onward l.image l.map l.inputs (length l.initial.store) l.n (tally (state l.initial.m l.initial.store l.initial.outputs) 0) l.count (state l.m l.store l.outputs) l.taken

abbrev pub decreases-desk : goal.decreases-desk
decreases-desk l = l.n - l.count
