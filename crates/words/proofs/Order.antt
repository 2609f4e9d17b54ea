-- Words stand to one another as their numbers do, once 32,768 is added to each: the order of signed words is the unsigned one. Assumes nothing.
use Rattle.std.proofs.Common.{◌≡◌, ℕ, suc, ◌+◌, ◌-◌, ◌<◌, ◌≤◌, Bool, true, false, eqb, ltb, leb, sym, refl, ◌∙◌, arith, ltb-false, ltb-true, le-ltb, lt-ltb, eq-eqb, ne_eqb, eqb-true, le-leb, leb-false, leb-true}
use borrow.Author.Tests.{lt-leb, eqb-false}
use lib.Signed.{lt_z, le_z}
use Rattle.mcode.specs.Word.{wrap, signed}

same-ltb : (m n p q : ℕ) → (m < n → p < q) → (n ≤ m → q ≤ p) → ltb p q ≡ ltb m n
same-ltb m n p q f g = elim-test (ltb m n) refl
  where
    elim-test : (t : Bool) → ltb m n ≡ t → ltb p q ≡ ltb m n
    elim-test true e = lt-ltb p q (f (ltb-true m n e)) ∙ sym e
    elim-test false e = le-ltb p q (g (ltb-false m n e)) ∙ sym e

same-leb : (m n p q : ℕ) → (m ≤ n → p ≤ q) → (n < m → q < p) → leb p q ≡ leb m n
same-leb m n p q f g = elim-test (leb m n) refl
  where
    elim-test : (t : Bool) → leb m n ≡ t → leb p q ≡ leb m n
    elim-test true e = le-leb p q (f (leb-true m n e)) ∙ sym e
    elim-test false e = lt-leb p q (g (leb-false m n e)) ∙ sym e

same-eqb : (m n p q : ℕ) → (m ≡ n → p ≡ q) → (p ≡ q → m ≡ n) → eqb p q ≡ eqb m n
same-eqb m n p q f g = elim-test (eqb m n) refl
  where
    elim-test : (t : Bool) → eqb m n ≡ t → eqb p q ≡ eqb m n
    elim-test true e = eq-eqb p q (f (eqb-true m n e)) ∙ sym e
    elim-test false e = ne_eqb p q (λ z. eqb-false m n e (g z)) ∙ sym e

abbrev raised : ℕ → ℕ
raised x = wrap (x + 32768)

abbrev Ordered : ℕ → ℕ → Type 0
Ordered c a = (ltb (raised c) (raised a) ≡ lt_z (signed c) (signed a)) × (leb (raised c) (raised a) ≡ le_z (signed c) (signed a))

pub raised-order : (c a : ℕ) → c < 65536 → a < 65536
    → (eqb (raised c) (raised a) ≡ eqb c a) × Ordered c a
raised-order c a hc ha = (same-eqb c a (raised c) (raised a) (λ e. omega arith) (λ e. omega arith), elim-halves (ltb c 32768) (ltb a 32768) refl refl)
  where
    elim-halves : (t u : Bool) → ltb c 32768 ≡ t → ltb a 32768 ≡ u → Ordered c a
    elim-halves true true e f =
        let h : c < 32768 = ltb-true c 32768 e in
        let k : a < 32768 = ltb-true a 32768 f in
        rw (e, f) (same-ltb c a (raised c) (raised a) (λ l. omega arith) (λ l. omega arith), same-leb c a (raised c) (raised a) (λ l. omega arith) (λ l. omega arith))
    elim-halves true false e f =
        let h : c < 32768 = ltb-true c 32768 e in
        let k : 32768 ≤ a = ltb-false a 32768 f in
        rw (e, f) (le-ltb (raised c) (raised a) (omega arith), lt-leb (raised c) (raised a) (omega arith))
    elim-halves false true e f =
        let h : 32768 ≤ c = ltb-false c 32768 e in
        let k : a < 32768 = ltb-true a 32768 f in
        rw (e, f) (lt-ltb (raised c) (raised a) (omega arith), le-leb (raised c) (raised a) (omega arith))
    elim-halves false false e f =
        let h : 32768 ≤ c = ltb-false c 32768 e in
        let k : 32768 ≤ a = ltb-false a 32768 f in
        rw (e, f) (
          same-ltb (65536 - suc a) (65536 - suc c) (raised c) (raised a) (λ l. omega arith) (λ l. omega arith),
          same-leb (65536 - suc a) (65536 - suc c) (raised c) (raised a) (λ l. omega arith) (λ l. omega arith),
        )
