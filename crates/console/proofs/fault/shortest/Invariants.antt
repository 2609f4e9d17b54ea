use Rattle.std.proofs.Common.{ℕ, ◌<◌}
use Rattle.console.specs.Faults.{PrefixRefused}
use Rattle.console.proofs.fault.shortest.Given as goal

-- no prefix shorter than those passed is refused so
abbrev pub invariant-loop-at : goal.invariant-loop-at
invariant-loop-at l = (k : ℕ) → k < l.at → PrefixRefused l.image l.number k → ⊥
