-- The set of reached positions as it grows, the walk of a code, and what a scan of the set answers.
use Rattle.std.specs.Prelude.{ℕ, ◌+◌, ◌<◌, ◌≡◌, ◌⊎◌, true, false, List, length, get_or, set, Option, Some, None}
use Rattle.mcode.specs.Depths.{Analysis, unmarked}
use Rattle.mcode.specs.Walk.{walk, whole_at, Reached, Whole}
use Rattle.mcode.specs.declared.Module.{Module}
use Rattle.mcode.specs.declared.Program.{Program}
use Rattle.depths.specs.declared.code.Code.{Code}

-- what visiting position q does to the set m and to the queue w that ends at t
abbrev pub Noted : List ℕ → List ℕ → ℕ → ℕ → ℕ → List ℕ → List ℕ → Type 0
Noted m w t q t' m' w' =
    ((q < length m) × (get_or m q unmarked ≡ unmarked) × (m' ≡ set m q 0) × (w' ≡ set w t q) × (t' ≡ t + 1))
    ⊎ ((q < length m → get_or m q unmarked ≡ unmarked → ⊥) × (m' ≡ m) × (w' ≡ w) × (t' ≡ t))

-- the walk of a code
abbrev pub walk_of : Code → Analysis
walk_of c = walk c.image.now c.m

-- what a scan of module m says: nothing where it is whole, else the lowest position at fault
abbrev pub Scanned : List ℕ → Program → Module → Option ℕ → Type 0
Scanned image program m None = Whole image program m
Scanned image program m (Some p) =
    Reached image m p
    × (whole_at image program m p ≡ false)
    × ((q : ℕ) → q < p → Reached image m q → whole_at image program m q ≡ true)
