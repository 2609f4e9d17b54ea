use Rattle.std.proofs.Common.{◌≡◌, ◌≤◌, ◌-◌}
use Rattle.mcode.specs.Step.{followed}
use Rattle.control.proofs.frames.follow.Given as goal

abbrev pub invariant-loop-i : goal.invariant-loop-i
invariant-loop-i l = (l.a ≤ 65535) × (followed l.store l.n l.r.l.0 ≡ followed l.store (l.n - l.i) l.a)
