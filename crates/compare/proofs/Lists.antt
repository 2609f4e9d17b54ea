-- Lists of facts compared one behind another, and the facts of each number. Assumes nothing.
use mathlib.Core.Path.{◌≡◌, refl, sym, ap, ◌∙◌, subst}
use mathlib.Core.Bool.{Bool, true, false}
use mathlib.Core.List.{List, [], ◌∷◌, ◌++◌}
use Prim.Native.Nat.{ℕ, zero, suc, ◌<◌}
use native.Mathlib.Nat.{not-suc-le-zero}
use native.Mathlib.Omega.{arith}
use lib.ListN.{length, length-append}
use lib.Dec.{eqb}
use borrow.Author.Tests.{eq-eqb, eqb-true}
use Rattle.std.specs.Prelude.{Option, None, Some, MatchOption}
use Rattle.mcode.specs.Word.{pick, tabulate}
use Rattle.mcode.proofs.Tabulate.{tabulate-same}
use Rattle.compare.specs.declared.Part.{Part}
use Rattle.compare.specs.declared.Difference.{Difference}
use Rattle.compare.specs.Facts.{Fact, fact, joined, each, difference, first_of}
use Rattle.compare.specs.Compared.{Compared}

-- ---- one list behind another

found : (xs ys us vs : List Fact) (d : Difference) → first_of xs ys ≡ Some d → first_of (xs ++ us) (ys ++ vs) ≡ Some d
found [] ys us vs d e = cc
found (x ∷ xs) [] us vs d e = cc
found (x ∷ xs) (y ∷ ys) us vs d e = by (eqb x.value y.value) (found xs ys us vs d) e
  where
    by : (b : Bool) → (first_of xs ys ≡ Some d → first_of (xs ++ us) (ys ++ vs) ≡ Some d)
        → pick b (first_of xs ys) (Some (difference x y.value)) ≡ Some d
        → pick b (first_of (xs ++ us) (ys ++ vs)) (Some (difference x y.value)) ≡ Some d
    by true h e = h e
    by false h e = e

both : (xs ys us vs : List Fact) → length xs ≡ length ys → first_of xs ys ≡ None → first_of (xs ++ us) (ys ++ vs) ≡ first_of us vs
both [] [] us vs l e = refl
both [] (y ∷ ys) us vs l e = absurd (let z : ⊥ = omega (arith, l) in z)
both (x ∷ xs) [] us vs l e = absurd (let z : ⊥ = omega (arith, l) in z)
both (x ∷ xs) (y ∷ ys) us vs l e = by (eqb x.value y.value) (both xs ys us vs (omega (arith, l))) e
  where
    by : (b : Bool) → (first_of xs ys ≡ None → first_of (xs ++ us) (ys ++ vs) ≡ first_of us vs)
        → pick b (first_of xs ys) (Some (difference x y.value)) ≡ None
        → pick b (first_of (xs ++ us) (ys ++ vs)) (Some (difference x y.value)) ≡ first_of us vs
    by true h e = h e
    by false h e = cc

pub compared-then : (xs ys us vs : List Fact) (d r : Option Difference) → Compared xs ys d → MatchOption d (Compared us vs r) (λ x. r ≡ Some x) → Compared (xs ++ us) (ys ++ vs) r
compared-then xs ys us vs None r C R = record {
  first = R.first ∙ sym (both xs ys us vs (C.alike refl) (sym C.first));
  alike = λ s. omega (arith, length-append xs us, length-append ys vs, C.alike refl, R.alike s);
}
compared-then xs ys us vs (Some d) r C R = record {
  first = R ∙ sym (found xs ys us vs d (sym C.first));
  alike = λ s. cc;
}

-- ---- lists without a difference

pub record Alike (xs ys : List Fact) : Type 0 where
  pub none : first_of xs ys ≡ None

pub alike-nothing : (xs : List Fact) → first_of xs xs ≡ None
alike-nothing [] = refl
alike-nothing (x ∷ xs) = rw (eq-eqb x.value x.value refl) (alike-nothing xs)

-- their fronts have none either, and, where those are of one length, nor has what follows
pub alike-front : (xs ys us vs : List Fact) → Alike (xs ++ us) (ys ++ vs) → Alike xs ys
alike-front xs ys us vs A = by (first_of xs ys) refl
  where
    by : (d : Option Difference) → first_of xs ys ≡ d → Alike xs ys
    by None e = record { none = e }
    by (Some d) e = absurd (let h = found xs ys us vs d e in let n = A.none in cc)

pub alike-rest : (xs ys us vs : List Fact) → length xs ≡ length ys → Alike (xs ++ us) (ys ++ vs) → Alike us vs
alike-rest xs ys us vs l A = record { none = sym (both xs ys us vs l (alike-front xs ys us vs A).none) ∙ A.none }

pub alike-first : {x y : Fact} {xs ys : List Fact} → Alike (x ∷ xs) (y ∷ ys) → x.value ≡ y.value
alike-first {x} {y} {xs} {ys} A = by (eqb x.value y.value) refl A.none
  where
    by : (b : Bool) → eqb x.value y.value ≡ b → pick b (first_of xs ys) (Some (difference x y.value)) ≡ None → x.value ≡ y.value
    by true t e = eqb-true x.value y.value t
    by false t e = absurd cc

pub alike-others : {x y : Fact} {xs ys : List Fact} → Alike (x ∷ xs) (y ∷ ys) → Alike xs ys
alike-others {x} {y} {xs} {ys} A = alike-rest (x ∷ []) (y ∷ []) xs ys refl A

-- ---- the facts of each number

-- what the first difference is of lists that are numbered
abbrev pub First : ℕ → (ℕ → List Fact) → (ℕ → List Fact) → Option Difference → Type 0
First n f g None = (i : ℕ) → i < n → Compared (f i) (g i) None
First n f g (Some d) = (i : ℕ) × (i < n) × Compared (f i) (g i) (Some d) × ((j : ℕ) → j < i → Compared (f j) (g j) None)

pub each-first : (n : ℕ) (f g : ℕ → List Fact) (r : Option Difference) → First n f g r → Compared (each n f) (each n g) r
unfolding each tabulate
each-first zero f g None C = record { first = refl; alike = λ _. refl }
each-first zero f g (Some d) (i, l, C, B) = absurd (not-suc-le-zero l)
each-first (suc n) f g None C = compared-then _ _ _ _ None None (C 0 (omega arith)) (each-first n (λ i. f (suc i)) (λ i. g (suc i)) None (λ i l. C (suc i) (omega (arith, l))))
each-first (suc n) f g (Some d) (zero, l, C, B) = compared-then _ _ _ _ (Some d) (Some d) C refl
each-first (suc n) f g (Some d) (suc i, l, C, B) =
    compared-then _ _ _ _ None (Some d) (B 0 (omega arith))
    (each-first n (λ i. f (suc i)) (λ i. g (suc i)) (Some d) (i, omega (arith, l), C, λ j k. B (suc j) (omega (arith, k))))

-- a count, and behind it the facts of each number below it
pub counted : (part : Part) (unit n n' : ℕ) (f g : ℕ → List Fact) (r : Option Difference) → Compared (fact part unit 0 n ∷ []) (fact part unit 0 n' ∷ []) None → First n f g r
    → Compared (fact part unit 0 n ∷ each n f) (fact part unit 0 n' ∷ each n' g) r
counted part unit n n' f g r C F =
    compared-then (fact part unit 0 n ∷ []) (fact part unit 0 n' ∷ []) (each n f) (each n' g) None r C
    (subst (λ (k : ℕ). Compared (each n f) (each k g) r) (alike-first {x = fact part unit 0 n} {y = fact part unit 0 n'} {xs = []} {ys = []} (record { none = sym C.first })) (each-first n f g r F))

-- ---- lists that are alike, number by number

alike-each : (n : ℕ) (f g : ℕ → List Fact) → ((i : ℕ) → i < n → Alike (f i) (g i) → length (f i) ≡ length (g i))
    → Alike (each n f) (each n g) → (i : ℕ) → i < n → Alike (f i) (g i)
unfolding each tabulate
alike-each zero f g h A i l = absurd (not-suc-le-zero l)
alike-each (suc n) f g h A zero l = alike-front (f 0) (g 0) _ _ A
alike-each (suc n) f g h A (suc i) l =
    alike-each n (λ i. f (suc i)) (λ i. g (suc i)) (λ i l. h (suc i) (omega (arith, l)))
    (alike-rest (f 0) (g 0) _ _ (h 0 (omega arith) (alike-front (f 0) (g 0) _ _ A)) A) i (omega (arith, l))

pub each-alike : (n n' : ℕ) (f g : ℕ → List Fact) → n ≡ n' → ((i : ℕ) → i < n → Alike (f i) (g i) → length (f i) ≡ length (g i))
    → Alike (each n f) (each n' g) → (i : ℕ) → i < n → Alike (f i) (g i)
each-alike n n' f g e h A = alike-each n f g h (subst (λ (k : ℕ). Alike (each n f) (each k g)) (sym e) A)

pub tabulate-equal : {A : Type 0} (n n' : ℕ) (f g : ℕ → A) → n ≡ n' → ((i : ℕ) → i < n → f i ≡ g i) → tabulate n f ≡ tabulate n' g
tabulate-equal n n' f g e h = tabulate-same n f g h ∙ ap (λ (k : ℕ). tabulate k g) e

pub each-equal : (n n' : ℕ) (f g : ℕ → List Fact) → n ≡ n' → ((i : ℕ) → i < n → f i ≡ g i) → each n f ≡ each n' g
unfolding each
each-equal n n' f g e h = ap (λ (x : List (List Fact)). joined x) (tabulate-equal n n' f g e h)
