use Rattle.std.proofs.Common.{◌≡◌, ℕ, ◌<◌, length, set}
use Rattle.console.specs.Faults.{CountRefused}
use Rattle.console.proofs.fault.module_at.Given as goal

-- only byte 0 differs from the image as it was, and no lesser count is refused so
abbrev pub invariant-loop-m : goal.invariant-loop-m
invariant-loop-m l =
    ((x : ℕ) → set l.image 0 x ≡ set l.initial.image 0 x) × (length l.image ≡ length l.initial.image) × ((k : ℕ) → k < l.m → CountRefused l.initial.image l.number k → ⊥)
