-- What `find_map` over the numbers below n finds is the first difference of their facts. Assumes nothing.
use Rattle.std.proofs.Common.{◌≡◌, ap, ◌∙◌, subst, ℕ, ◌+◌, ◌<◌, List, arith, IfSome, IsSomeAnd, MatchOption, Option, None, Some, IsTrue}
use Rattle.std.specs.Option.{option_map}
use Rattle.std.specs.Fn.{Called}
use Rattle.std.specs.Iterator.Runs.{Run, SomeRun, AllItemsGive, IsFirstToGive}
use Rattle.std.proofs.iter.Yields.{nat_range_steps}
use Rattle.std.proofs.iter.runs.Sources.{range_runs}
use denote.Param.Members.{Mut}
use Rattle.compare.specs.declared.Difference.{Difference}
use Rattle.compare.specs.Facts.{Fact}
use Rattle.compare.specs.Compared.{Compared}
use Rattle.compare.proofs.Lists.{First}

of-some : (o : Option ℕ) (i : ℕ) (P : ℕ → Type 0) → option_map (λ y. y) o ≡ Some i → IfSome o P → P i
of-some None i P e h = absurd cc
of-some (Some x) i P e h = let s : x ≡ i = cc in subst P s h

and-some : (o : Option ℕ) (i : ℕ) (P : ℕ → Type 0) → option_map (λ y. y) o ≡ Some i → IsSomeAnd o P → P i
and-some None i P e h = absurd cc
and-some (Some x) i P e h = let s : x ≡ i = cc in subst P s h

module _ {F : Type 0} (g : Mut F (ℕ × Unit {0}) (Option Difference)) (part : F) (n : ℕ) (f h : ℕ → List Fact)
    (calls : (i : ℕ) (d : Option Difference) (q : F) → Called g part (i, tt) d q → (q ≡ part) × Compared (f i) (h i) d) where
  stays : (x : ℕ × Unit {0}) (r : Option Difference) (q : F) → Called g part x r q → q ≡ part
  stays x r q k = (calls x.0 r q k).0

  at-place : (p : Run nat_range_steps) → p.from ≡ record { start = 0; end = n } → (i : ℕ) → i < p.len → option_map (λ y. y) (p.at i) ≡ Some i
  at-place p e i l = let s : p.from.start + i ≡ i = omega (arith, ap (λ s. s.start) e) in (range_runs p p.seen).3 i l ∙ ap Some s

  pub first-found : (r : Option Difference)
      → SomeRun nat_range_steps (record { start = 0; end = n }) (λ p. MatchOption r (IsTrue p.whole × AllItemsGive p g part None) (λ y. (i : ℕ) × (i < p.len) × (p.len ≡ i + 1) × IsFirstToGive p g part (Some y) None i))
      → First n f h r
  first-found None (p, e, (w, gave)) = λ i l.
      let r = range_runs p p.seen in
      let m : i < p.len = omega (arith, ap (λ s. s.start) e, ap (λ s. s.end) e, r.1 w) in
      let o : option_map (λ y. y) (p.at i) ≡ Some i = at-place p e i m in
      (calls i None part (of-some (p.at i) i (λ x. Called g part (x, tt) None part) o (gave stays i))).1
  first-found (Some d) (p, e, (i, l, k, gave)) =
      let r = range_runs p p.seen in
      let m : i < n = omega (arith, ap (λ s. s.start) e, ap (λ s. s.end) e, r.0) in (
        i,
        m,
        (calls i (Some d) part (and-some (p.at i) i (λ x. Called g part (x, tt) (Some d) part) (at-place p e i l) (gave stays).0)).1,
        λ j b. (calls j None part (and-some (p.at j) j (λ x. Called g part (x, tt) None part) (at-place p e j (omega (arith, b, l))) ((gave stays).1 j b))).1,
      )
