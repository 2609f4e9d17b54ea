-- The module of a base by the lent numbers is the definition's, wherever a position can stand in it. Assumes nothing.
use mathlib.Core.Path.{◌≡◌, refl, sym, ap, ◌∙◌}
use mathlib.Core.Bool.{Bool, true, false, false≢true}
use mathlib.Core.Logic.{◌⊎◌, inl, inr}
use mathlib.Core.List.{List, [], ◌∷◌}
use Prim.Native.Nat.{ℕ, zero, suc, ◌+◌, ◌-◌, ◌*◌, ◌<◌, ◌≤◌}
use native.Mathlib.Omega.{arith}
use lib.Dec.{eqb, ltb}
use lib.ListN.{length, get_or, length-map, get_or-eq_default}
use borrow.Author.Tests.{eq-eqb, ne_eqb, ltb-true, le-ltb}
use Rattle.mcode.specs.Word.{pick, and}
use Rattle.mcode.specs.Image.{most_modules, bases_of, no_module}
use Rattle.mcode.specs.Depths.{marked}
use Rattle.mcode.specs.Step.{Lent, unit_of, unit_based, standing}
use Rattle.mcode.specs.declared.Module.{Module}
use Rattle.mcode.proofs.Tests.{and_both}
use Rattle.actions.specs.Table.{module_in, Lends}
use Rattle.control.specs.Table.{count_in, first_from, first_based, stands_in, Mapped}
use Rattle.control.proofs.Laws.{base-in}

-- the search, one module at a time
module _ (table : List ℕ) (g : ℕ) where
  pub first-here : (count k : ℕ) → k < count → get_or table (6 * k + 4) 0 ≡ g → first_from table g (count - k) k ≡ k
  unfolding first_from
  first-here count k l e = let q : count - k ≡ suc (count - (k + 1)) = omega arith in rw (q, eq-eqb _ _ e) refl

  pub first_on : (count k : ℕ) → k < count → (get_or table (6 * k + 4) 0 ≡ g → ⊥) → first_from table g (count - k) k ≡ first_from table g (count - (k + 1)) (k + 1)
  unfolding first_from
  first_on count k l e = let q : count - k ≡ suc (count - (k + 1)) = omega arith in rw (q, ne_eqb _ _ e) refl

  pub first-none : (count k : ℕ) → k ≤ count → count ≤ k → first_from table g (count - k) k ≡ count
  unfolding first_from
  first-none count k l h = let q : count - k ≡ zero = omega arith in rw q (omega (arith, l, h))

  not-below : (t : Bool) (i m : ℕ) → i + 1 ≤ m → i ≤ pick t i m
  not-below true i m h = omega arith
  not-below false i m h = omega (arith, h)

  on : (n i : ℕ) → i ≤ first_from table g n i
  unfolding first_from
  on zero i = omega arith
  on (suc n) i = not-below (eqb (module_in table i).base g) i (first_from table g n (i + 1)) (on n (i + 1))

  -- the same number, or both past the list of bases
  abbrev Agrees : List ℕ → ℕ → ℕ → Type 0
  Agrees bases n i = (first_from table g n i ≡ i + unit_of bases n g) ⊎ ((length bases ≤ unit_of bases n g) × (i + length bases ≤ first_from table g n i))

  agrees : (bases : List ℕ) (n i : ℕ) → ((j : ℕ) → j < n → get_or bases j 0 ≡ get_or table (6 * (i + j) + 4) 0) → Agrees bases n i
  unfolding first_from unit_of
  agrees [] n i h = let l = on n i in inr (omega arith, omega (arith, l))
  agrees (b ∷ bases) zero i h = inl (omega arith)
  agrees (b ∷ bases) (suc n) i h = choose (eqb b g) refl (agrees bases n (i + 1) rest)
    where
      own : b ≡ get_or table (6 * i + 4) 0
      own = let q : i + 0 ≡ i = omega arith in rw q at (h 0 (omega arith))

      rest : (j : ℕ) → j < n → get_or bases j 0 ≡ get_or table (6 * (i + 1 + j) + 4) 0
      rest j l = let q : i + suc j ≡ i + 1 + j = omega arith in rw q at (h (suc j) (omega (arith, l)))

      choose : (t : Bool) → eqb b g ≡ t → Agrees bases n (i + 1) → Agrees (b ∷ bases) (suc n) i
      choose true t a = inl (rw (← own, t) (omega arith))
      choose false t (inl e) = inl (rw (← own, t) (omega (arith, e)))
      choose false t (inr (l, m)) = inr (rw (← own, t) (omega (arith, l), omega (arith, m)))

module _ {bytes table marks words : List ℕ} {lent : Lent} (lends : Lends bytes table marks words lent) where
  -- a position stands by the lent numbers where it does by the definition
  pub standing-in : (k q d : ℕ) → standing lent k q d ≡ stands_in table marks k q d
  standing-in k q d = choose (ltb k (count_in table)) refl
    where
      same : ltb k lent.program.count ≡ ltb k (count_in table)
      same = ap (λ (n : ℕ). ltb k n) lends.tabled.count

      choose : (t : Bool) → ltb k (count_in table) ≡ t → standing lent k q d ≡ stands_in table marks k q d
      choose true t =
          let few = lends.tabled.few in
          let h : k < most_modules = omega (arith, ltb-true k (count_in table) t, lends.tabled.count, few) in
          rw (same, lends.map, lends.tabled.modules k h)
      choose false t = rw (same, t)

  past : (k q d : ℕ) → length lent.program.modules ≤ k → standing lent k q d ≡ false
  unfolding marked
  past k q d h = rw (get_or-eq_default lent.program.modules no_module h, le-ltb q 0 (omega arith)) (none (ltb k lent.program.count))
    where
      none : (t : Bool) → and t false ≡ false
      none true = refl
      none false = refl

  module _ (g q d : ℕ) where
    same : Agrees table g (bases_of lent.program) (count_in table) 0 → (standing lent (unit_based lent.program g) q d ≡ stands_in table marks (first_based table g) q d) × (stands_in table marks (first_based table g) q d ≡ true → unit_based lent.program g ≡ first_based table g)
    same (inl e) = let f : unit_based lent.program g ≡ first_based table g = rw lends.tabled.count (omega (arith, e)) in (rw f (standing-in _ q d), λ t. f)
    same (inr (l, m)) =
        let z : length (bases_of lent.program) ≡ length lent.program.modules = length-map lent.program.modules (λ (u : Module). u.base) in
        let a : standing lent (unit_based lent.program g) q d ≡ false = past _ q d (rw lends.tabled.count (omega (arith, l, z))) in
        let b : standing lent (first_based table g) q d ≡ false = past _ q d (omega (arith, m, z)) in
        (a ∙ sym b ∙ standing-in _ q d, λ t. absurd (false≢true (sym b ∙ standing-in _ q d ∙ t)))

    agreed : Agrees table g (bases_of lent.program) (count_in table) 0
    agreed = agrees table g (bases_of lent.program) (count_in table) 0 own
      where
        own : (j : ℕ) → j < count_in table → get_or (bases_of lent.program) j 0 ≡ get_or table (6 * (0 + j) + 4) 0
        own j h = let q : 0 + j ≡ j = omega arith in rw q (base-in lends.tabled j (omega (arith, h, lends.tabled.count, lends.tabled.few)))

    pub find-stands : standing lent (unit_based lent.program g) q d ≡ stands_in table marks (first_based table g) q d
    find-stands = (same agreed).0

    -- the first module with a base is the definition's
    pub find : stands_in table marks (first_based table g) q d ≡ true → unit_based lent.program g ≡ first_based table g
    find = (same agreed).1

-- a module where a position stands is one of the modules
pub stands-few : (table map : List ℕ) (k q d : ℕ) → Mapped table map → stands_in table map k q d ≡ true → k < most_modules
stands-few table map k q d m e = omega (arith, m.few, ltb-true k (count_in table) (and_both (ltb k (count_in table)) (marked map (module_in table k) q d) e).0)
