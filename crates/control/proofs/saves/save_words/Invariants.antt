use Rattle.std.proofs.Common.{◌≡◌, ◌+◌, ◌-◌}
use Rattle.mcode.specs.Step.{saved}
use Rattle.control.proofs.saves.save_words.Given as goal

abbrev pub invariant-loop-i : goal.invariant-loop-i
invariant-loop-i l = saved l.stack l.d l.s l.initial.store ≡ saved l.stack (l.d - l.i) (l.s + l.i) l.store
