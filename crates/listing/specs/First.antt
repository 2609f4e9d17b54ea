-- The first number that passes a test.
use Rattle.std.specs.Prelude.{ℕ, zero, suc, ◌+◌, ◌-◌, ◌≤◌, ◌<◌, ◌≡◌, Bool, true, false, not, List, eqb, get_or, Option, Some, None, IfSome}
use Rattle.mcode.specs.Word.{pick}
use Rattle.mcode.specs.Image.{entry_of}
use Rattle.mcode.specs.Depths.{unmarked, entry}
use Rattle.mcode.specs.declared.Module.{Module}

-- of the n numbers from i on, the first that passes; where none does, the number after them
unfoldable pub first_from : (ℕ → Bool) → ℕ → ℕ → ℕ
first_from f zero i = i
first_from f (suc n) i = pick (f i) i (first_from f n (i + 1))

-- r is the first number from i on that passes, of n
pub record First (f : ℕ → Bool) (n i r : ℕ) : Type 0 where
  pub from : i ≤ r
  pub below : r ≤ i + n
  pub before : (k : ℕ) → i ≤ k → k < r → f k ≡ false
  pub found : r < i + n → f r ≡ true

unfoldable pub IsFirst : Type 0
IsFirst = (f : ℕ → Bool) (n i : ℕ) → First f n i (first_from f n i)

-- the number that is found, or where there is none the end
abbrev pub place_of : ℕ → Option ℕ → ℕ
place_of end None = end
place_of end (Some i) = i

-- r is the first number from `from` on and below `end` that passes
pub record Found (f : ℕ → Bool) (from end : ℕ) (r : Option ℕ) : Type 0 where
  pub first : place_of (from + (end - from)) r ≡ first_from f (end - from) from
  pub within : IfSome r (λ i. (from ≤ i) × (i < end))

-- ---- the tests

-- the two have different words at i; a word that one of them does not have counts as 0
abbrev pub differ : List ℕ → List ℕ → ℕ → Bool
differ before after i = not (eqb (get_or before i 0) (get_or after i 0))

-- position i is marked
abbrev pub is_marked : List ℕ → ℕ → Bool
is_marked marks i = not (eqb (entry marks i) unmarked)

-- procedure i of module m enters at p
abbrev pub enters : List ℕ → Module → ℕ → ℕ → Bool
enters image m p i = eqb (entry_of image m i) p
