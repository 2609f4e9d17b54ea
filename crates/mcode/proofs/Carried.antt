-- The fewest assignment of one analysis is that of another which has the same entries and, at the marks of that assignment, the same
-- flow. It holds for any analysis, whatever a mark encodes. Assumes nothing.
use mathlib.Core.Path.{◌≡◌, refl, sym, ap, ◌∙◌}
use mathlib.Core.Bool.{Bool, true, false}
use mathlib.Core.Logic.{◌⊎◌, inl, inr}
use mathlib.Core.List.{List}
use Prim.Native.Nat.{ℕ, ◌<◌}
use native.Mathlib.Decide.{dec_lt}
use native.Mathlib.Omega.{arith}
use lib.ListN.{get_or, get_or-eq_default}
use lib.Dec.{eqb}
use borrow.Author.Tests.{eqb-true, eq-eqb}
use Rattle.mcode.specs.declared.Flow.{Flow}
use Rattle.mcode.specs.declared.Flow.TheVariants.{Fault, Ends, To, Fork}
use Rattle.mcode.specs.Word.{pick, tabulate}
use Rattle.mcode.specs.Depths.{Analysis, mark, Marked, Follows, Fits, Fewest}
use Rattle.mcode.proofs.Tabulate.{length-tabulate, get_d_tabulate}

-- B is like A where the assignment m has marks
pub record Like (A B : Analysis) (m : List ℕ) : Type 0 where
  pub size : B.size ≡ A.size
  pub none : B.none ≡ A.none
  pub entries : B.entries ≡ A.entries
  pub entry_at : (i : ℕ) → i < A.entries → B.entry_at i ≡ A.entry_at i
  pub entry_mark : (i : ℕ) → i < A.entries → B.entry_mark i ≡ A.entry_mark i
  pub flow : (p : ℕ) → Marked A m p → B.flow p (mark A m p) ≡ A.flow p (mark A m p)

module _ (A B : Analysis) (m : List ℕ) (L : Like A B m) where
  same-mark : (l : List ℕ) (p : ℕ) → mark B l p ≡ mark A l p
  same-mark l p = ap (get_or l p) L.none

  same-follows : (l : List ℕ) (f : Flow) → Follows A l f → Follows B l f
  same-follows l Fault h = h
  same-follows l Ends h = tt
  same-follows l (To q d) h = same-mark l q ∙ h
  same-follows l (Fork q d r e) h = (same-mark l q ∙ h.0, same-mark l r ∙ h.1)

  pub fits-carried : Fits A m → Fits B m
  fits-carried F = record {
    sized = F.sized ∙ sym L.size;
    enters = λ i l.
        let h : i < A.entries = omega (arith, l, L.entries) in
        same-mark m (B.entry_at i) ∙ ap (mark A m) (L.entry_at i h) ∙ F.enters i h ∙ sym (L.entry_mark i h);
    follows = λ p k.
        let k' : Marked A m p = λ z. k (same-mark m p ∙ z ∙ sym L.none) in
        rw (same-mark m p, L.flow p k') (same-follows m (A.flow p (mark A m p)) (F.follows p k'));
  }

  -- of another assignment, the marks that agree with m
  module _ (F : Fits A m) (o : List ℕ) (G : Fits B o) where
    abbrev agreed : ℕ → ℕ
    agreed p = pick (eqb (mark B o p) (mark A m p)) (mark A m p) A.none

    common : List ℕ
    common = tabulate A.size agreed

    common-at : (p : ℕ) → (mark A common p ≡ agreed p) ⊎ (mark A common p ≡ A.none)
    unfolding common
    common-at p = go (dec_lt p A.size)
      where
        go : Dec (p < A.size) → (mark A (tabulate A.size agreed) p ≡ agreed p) ⊎ (mark A (tabulate A.size agreed) p ≡ A.none)
        go (yes l) = inl (get_d_tabulate A.size agreed A.none p l)
        go (no n) = inr (get_or-eq_default (tabulate A.size agreed) A.none (omega (arith, n, length-tabulate A.size agreed)))

    -- where they agree, it has the mark
    has : (p : ℕ) → mark B o p ≡ mark A m p → mark A common p ≡ mark A m p
    unfolding common
    has p e = go (dec_lt p A.size)
      where
        go : Dec (p < A.size) → mark A (tabulate A.size agreed) p ≡ mark A m p
        go (yes l) = get_d_tabulate A.size agreed A.none p l ∙ rw (eq-eqb (mark B o p) (mark A m p) e) refl
        go (no n) =
            get_or-eq_default (tabulate A.size agreed) A.none (omega (arith, n, length-tabulate A.size agreed))
            ∙ sym (get_or-eq_default m A.none (omega (arith, n, F.sized)))

    -- where it has a mark, they agree
    agree : (p : ℕ) → Marked A common p → mark B o p ≡ mark A m p
    agree p k = by-case (common-at p)
      where
        test : (t : Bool) → eqb (mark B o p) (mark A m p) ≡ t → mark A common p ≡ pick t (mark A m p) A.none → mark B o p ≡ mark A m p
        test true e h = eqb-true (mark B o p) (mark A m p) e
        test false e h = absurd (k h)

        by-case : (mark A common p ≡ agreed p) ⊎ (mark A common p ≡ A.none) → mark B o p ≡ mark A m p
        by-case (inl h) = test (eqb (mark B o p) (mark A m p)) refl h
        by-case (inr h) = absurd (k h)

    follows_both : (f : Flow) → Follows A m f → Follows B o f → Follows A common f
    follows_both Fault h g = h
    follows_both Ends h g = tt
    follows_both (To q d) h g = has q (g ∙ sym h) ∙ h
    follows_both (Fork q d r e) h g = (has q (g.0 ∙ sym h.0) ∙ h.0, has r (g.1 ∙ sym h.1) ∙ h.1)

    common-fits : Fits A common
    unfolding common
    common-fits = record {
      sized = length-tabulate A.size agreed;
      enters = λ i l.
          let l' : i < B.entries = omega (arith, l, L.entries) in
          let g : mark B o (A.entry_at i) ≡ A.entry_mark i = ap (mark B o) (sym (L.entry_at i l)) ∙ G.enters i l' ∙ L.entry_mark i l in
          has (A.entry_at i) (g ∙ sym (F.enters i l)) ∙ F.enters i l;
      follows = λ p k.
          let a = agree p k in
          let c = has p a in
          let k₁ : Marked A m p = λ z. k (c ∙ z) in
          let k₂ : Marked B o p = λ z. k₁ (sym a ∙ z ∙ L.none) in
          rw c (follows_both (A.flow p (mark A m p)) (F.follows p k₁) (rw (a, L.flow p k₁) at (G.follows p k₂)));
    }

  pub fewest-carried : Fewest A m → Fewest B m
  fewest-carried S = record {
    fits = fits-carried S.fits;
    least = λ o G p k.
        let k' : Marked A m p = λ z. k (same-mark m p ∙ z ∙ sym L.none) in
        let e = S.least (common S.fits o G) (common-fits S.fits o G) p k' in
        agree S.fits o G p (λ z. k' (sym e ∙ z)) ∙ sym (same-mark m p);
  }
