-- One fact about a pair of words, for all the loads and stores of pairs: where the store has the pair, both addresses are in it, and the
-- low word's address is one more, never reduced. Assumes nothing.
use mathlib.Core.Path.{◌≡◌, refl, ap, ◌∙◌}
use mathlib.Core.Bool.{Bool, true, false}
use Prim.Native.Nat.{ℕ, ◌+◌, ◌≤◌, ◌<◌}
use native.Mathlib.Omega.{arith}
use lib.Dec.{ltb}
use borrow.Author.Tests.{ltb-true, ltb-false}
use Rattle.mcode.specs.Word.{and}
use Rattle.mcode.specs.Step.{low_at, has_pair}
use Rattle.mcode.specs.Demands.{PairFact}
use Rattle.mcode.proofs.Tests.{and_both}

low-next : (a : ℕ) → a + 1 < 65536 → low_at a ≡ a + 1
low-next a h = omega arith

pub pair-fact : PairFact
unfolding PairFact
pair-fact w a = record {
  inside = inside;
  test = λ h. by-test h (ltb (a + 1) w) refl (ltb a w) refl;
  next = λ h t. let l : a < w = (inside t).0 in low-next a (omega arith);
}
  where
    inside : has_pair w a ≡ true → (a < w) × (low_at a < w)
    inside t = let (x, y) = and_both (ltb a w) (ltb (low_at a) w) t in (ltb-true a w x, ltb-true (low_at a) w y)

    neither : (t : Bool) → ltb (a + 1) w ≡ t → ltb a w ≡ false → false ≡ t
    neither true p q = absurd (let z : ⊥ = omega (arith, ltb-true (a + 1) w p, ltb-false a w q) in z)
    neither false p q = refl

    by-test : w ≤ 65535 → (t : Bool) → ltb (a + 1) w ≡ t → (u : Bool) → ltb a w ≡ u → and u (ltb (low_at a) w) ≡ t
    by-test h t p false q = neither t p q
    by-test h t p true q = ap (λ (k : ℕ). ltb k w) (low-next a (let l : a < w = ltb-true a w q in omega arith)) ∙ p
