-- The first number that passes a test: what it is, and that a search of a range finds it. Assumes nothing.
use mathlib.Core.Path.{◌≡◌, refl, sym, subst, ◌∙◌}
use mathlib.Core.Bool.{Bool, true, false, false≢true}
use Rattle.std.specs.Prelude.{Option, Some, None, MatchOption}
use Prim.Native.Nat.{ℕ, zero, suc, ◌+◌, ◌-◌, ◌≤◌, ◌<◌}
use native.Mathlib.Omega.{arith}
use native.Mathlib.Decide.{dec_lt}
use Rattle.mcode.specs.Word.{pick}
use Rattle.listing.specs.First.{first_from, First, IsFirst, Found}

module _ (f : ℕ → Bool) where
  first-zero : (i : ℕ) → First f zero i (first_from f zero i)
  unfolding first_from
  first-zero i = record { from = omega arith; below = omega arith; before = λ k a b. absurd (let z : ⊥ = omega arith in z); found = λ h. absurd (let z : ⊥ = omega arith in z) }

  here : (n i : ℕ) → f i ≡ true → First f (suc n) i i
  here n i e = record { from = omega arith; below = omega arith; before = λ k a b. absurd (let z : ⊥ = omega arith in z); found = λ h. e }

  later : (n i r : ℕ) → f i ≡ false → First f n (i + 1) r → First f (suc n) i r
  later n i r e g = record {
    from = omega (arith, g.from);
    below = omega (arith, g.below);
    before = λ k a b. split k a b (dec_lt i k);
    found = λ h. g.found (omega arith);
  }
    where
      split : (k : ℕ) → i ≤ k → k < r → Dec (i < k) → f k ≡ false
      split k a b (yes l) = g.before k (omega arith) b
      split k a b (no l) = let q : i ≡ k = omega arith in subst (λ (j : ℕ). f j ≡ false) q e

  which : (n i : ℕ) → First f n (i + 1) (first_from f n (i + 1)) → (b : Bool) → f i ≡ b → First f (suc n) i (pick b i (first_from f n (i + 1)))
  which n i g true e = here n i e
  which n i g false e = later n i _ e g

  least : (n i : ℕ) → First f n i (first_from f n i)
  unfolding first_from
  least zero i = first-zero i
  least (suc n) i = which n i (least n (i + 1)) (f i) refl

pub is-first : IsFirst
unfolding IsFirst
is-first f n i = least f n i

-- what a search of the numbers from `from` on and below `end` finds
module _ (f : ℕ → Bool) (from end at : ℕ) (first : First f (end - from) from at) where
  none-passes : ((k : ℕ) → from ≤ k → k < end → f k ≡ false) → from + (end - from) ≡ at
  none-passes none = go (dec_lt at (from + (end - from)))
    where
      go : Dec (at < from + (end - from)) → from + (end - from) ≡ at
      go (yes l) = absurd (false≢true (sym (none at first.from (omega (arith, first.from))) ∙ first.found l))
      go (no l) = omega (arith, first.below)

  first-passes : (i : ℕ) → from ≤ i → i < end → f i ≡ true → ((k : ℕ) → from ≤ k → k < i → f k ≡ false) → i ≡ at
  first-passes i a b t before = go (dec_lt i at) (dec_lt at i)
    where
      go : Dec (i < at) → Dec (at < i) → i ≡ at
      go (yes l) d = absurd (false≢true (sym (first.before i a l) ∙ t))
      go (no l) (yes m) = absurd (false≢true (sym (before at first.from m) ∙ first.found (omega arith)))
      go (no l) (no m) = omega arith

pub found : (f : ℕ → Bool) (from end : ℕ) (r : Option ℕ)
    → MatchOption r ((k : ℕ) → from ≤ k → k < end → f k ≡ false) (λ i. (from ≤ i) × (i < end) × (f i ≡ true) × ((k : ℕ) → from ≤ k → k < i → f k ≡ false))
    → Found f from end r
found f from end None none = record { first = none-passes f from end _ (least f (end - from) from) none; within = tt }
found f from end (Some i) (a, b, t, before) = record { first = first-passes f from end _ (least f (end - from) from) i a b t before; within = (a, b) }

-- none below i passes, nor does i
pub one-more : (f : ℕ → Bool) (from i : ℕ) → ((k : ℕ) → from ≤ k → k < i → f k ≡ false) → f i ≡ false → (k : ℕ) → from ≤ k → k < i + 1 → f k ≡ false
one-more f from i none e k a b = split (dec_lt k i)
  where
    split : Dec (k < i) → f k ≡ false
    split (yes l) = none k a l
    split (no l) = let q : i ≡ k = omega arith in subst (λ (j : ℕ). f j ≡ false) q e
