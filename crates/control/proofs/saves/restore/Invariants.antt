use Rattle.std.proofs.Common.{◌≡◌, ◌+◌, ◌-◌}
use Rattle.mcode.specs.Step.{restored}
use Rattle.control.proofs.saves.restore.Given as goal

abbrev pub invariant-loop-n : goal.invariant-loop-n
invariant-loop-n l = l.stack ≡ restored l.store l.n (l.a + (l.k - l.n)) l.initial.stack
