-- The tests of Placed, in its order.
use Rattle.std.proofs.Common.{◌≡◌, ℕ, ◌<◌, List, Some, refl, sym, ap, subst, ◌∙◌, length, arith}
use Rattle.console.specs.declared.print.Place.TheVariants.{Byte, Inside}
use Rattle.console.specs.Faults.{Least, PrefixRefused, Placed}
use borrow.Author.Tests.{ne_eqb, lt-ltb, le-ltb}
use Rattle.console.proofs.fault.place.Goals as goal

pub returns-then-is_empty : goal.returns-then-is_empty
unfolding Placed
returns-then-is_empty c = (refl, rw (sym c.is_empty.ensures ∙ c.if-is_empty.true) refl)

pub returns-in-2 : goal.returns-in-2
unfolding Placed
returns-in-2 c = (refl, rw (sym c.is_empty.ensures ∙ c.if-is_empty.false, c.in-2.is) refl)

pub returns-in-3 : goal.returns-in-3
unfolding Placed
returns-in-3 c =
    let (same, least) = c.module_at.ensures in
    (same, rw (sym c.is_empty.ensures ∙ c.if-is_empty.false, c.in-3.is) (c.module_at.result, rw c.in-3.is at least, ap (λ (l : List ℕ). Some (Inside c.module_at.result (length l))) same))

pub returns-in-4 : goal.returns-in-4
unfolding Placed
returns-in-4 c = (refl, rw (sym c.is_empty.ensures ∙ c.if-is_empty.false, c.in-4.is) (c.shortest.result, rw c.in-4.is at c.shortest.ensures, ap (λ n. Some (Byte n)) c.saturating_sub.ensures))

-- neither of 2, 3 and 4
above : (n : ℕ) → 4 < n → (n ≡ 2 → ⊥) × (n ≡ 3 → ⊥) × (n ≡ 4 → ⊥)
above n l = (λ e. omega arith, λ e. omega arith, λ e. omega arith)

pub returns-in-5 : goal.returns-in-5
unfolding Placed
returns-in-5 c =
    let (same, least) = c.module_at-unit.ensures in
    let n = c.args.number in
    let (a, b, d) = above n (omega arith) in (
      same,
      rw (sym c.is_empty.ensures ∙ c.if-is_empty.false, le-ltb n 2 (omega arith), le-ltb 6 n (omega arith), ne_eqb n 2 a, ne_eqb n 3 b, ne_eqb n 4 d)
          (c.module_at-unit.result, least, (c.shortest-in-5.result, subst (λ (l : List ℕ). Least (PrefixRefused l n) (length l) c.shortest-in-5.result) same c.shortest-in-5.ensures, ap (λ k. Some (Inside c.module_at-unit.result k)) c.saturating_sub-in-5.ensures)),
    )

pub returns-in_default : goal.returns-in_default
unfolding Placed
returns-in_default c = (refl, rw (sym c.is_empty.ensures ∙ c.if-is_empty.false, lt-ltb c.args.number 2 (omega arith)) refl)

pub returns-in_default-2 : goal.returns-in_default-2
unfolding Placed
returns-in_default-2 c = (refl, rw (sym c.is_empty.ensures ∙ c.if-is_empty.false, le-ltb c.args.number 2 (omega arith), lt-ltb 6 c.args.number (omega arith)) refl)
