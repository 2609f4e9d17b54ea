-- What an opcode that is no numeral is not, one of the first ones of its row, and what the table says of the short forms of loads and
-- stores. Assumes nothing.
use mathlib.Core.Path.{◌≡◌, refl, subst}
use mathlib.Core.Bool.{Bool, true, false}
use Prim.Native.Nat.{ℕ, ◌+◌, ◌≤◌, ◌<◌, ◌-◌, ◌/◌}
use lib.Dec.{eqb}
use lib.ListN.{get_or}
use native.Mathlib.Omega.{arith}
use borrow.Author.Tests.{ne_eqb, eqb-true}
use Rattle.mcode.specs.Word.{and, all_below}
use Rattle.mcode.specs.Opcode.{takens, lefts, lengths}
use Rattle.mcode.proofs.Tests.{all-at, and_both}

pub past : (op n k : ℕ) → k < op → n ≤ k → eqb op n ≡ false
past op n k h l = ne_eqb op n (λ e. omega (arith, h, l, e))

-- an opcode of a row that is none of its first two comes after them; the last of the first four
pub after_two : (op first : ℕ) → first ≤ op → (op ≡ first → ⊥) → (op ≡ first + 1 → ⊥) → first + 1 < op
after_two op first h a b = omega (arith, h, a, b)

pub fourth-op : (op first : ℕ) → first ≤ op → op ≤ first + 3 → (op ≡ first → ⊥) → (op ≡ first + 1 → ⊥) → (op ≡ first + 2 → ⊥) → op ≡ first + 3
fourth-op op first h l a b c = omega (arith, h, l, a, b, c)

-- the one opcode before 024 in its row that puts no operand
pub is021 : (op : ℕ) → (op / 16 ≡ 1) × (op < 0o24) → (op ≡ 0o20 → ⊥) → (op ≡ 0o22 → ⊥) → (op ≡ 0o23 → ⊥) → op ≡ 0o21
is021 op (row, low) a b c = omega (arith, row, low, a, b, c)

-- an opcode past first + i is not the one i places after first
pub not_there : (op first i k : ℕ) → k < op → first + i ≤ k → eqb (op - first) i ≡ false
not_there op first i k h l = ne_eqb (op - first) i (λ e. omega (arith, h, l, e))

-- an opcode that takes t words, leaves l and is one byte long
pub record Short (t l op : ℕ) : Type 0 where
  pub taken : get_or takens op 0 ≡ t
  pub left : get_or lefts op 0 ≡ l
  pub long : get_or lengths op 0 ≡ 1

abbrev is_short : ℕ → ℕ → ℕ → Bool
is_short t l op = and (eqb (get_or takens op 0) t) (and (eqb (get_or lefts op 0) l) (eqb (get_or lengths op 0) 1))

-- n opcodes from first on, by one computed test of the table
short : (n first t l : ℕ) → all_below n (λ i. is_short t l (first + i)) ≡ true → (op : ℕ) → first ≤ op → op < first + n → Short t l op
short n first t l e op h b =
    let i : is_short t l (first + (op - first)) ≡ true = all-at n (λ i. is_short t l (first + i)) e (op - first) (omega (arith, h, b)) in
    let k : first + (op - first) ≡ op = omega (arith, h) in
    let (x, y) = and_both _ _ (subst (λ (j : ℕ). is_short t l j ≡ true) k i) in
    let (u, v) = and_both _ _ y in
    record { taken = eqb-true _ _ x; left = eqb-true _ _ u; long = eqb-true _ _ v }

-- 044 to 057, 064 to 077, 102 to 117, 122 to 137
pub short2 : (op : ℕ) → op / 16 ≡ 2 → 0o43 < op → Short 0 1 op
unfolding all_below takens lefts lengths
short2 op row h = short 12 0o44 0 1 refl op (omega (arith, h)) (omega (arith, row))

pub short3 : (op : ℕ) → op / 16 ≡ 3 → 0o63 < op → Short 1 0 op
unfolding all_below takens lefts lengths
short3 op row h = short 12 0o64 1 0 refl op (omega (arith, h)) (omega (arith, row))

pub short4 : (op : ℕ) → op / 16 ≡ 4 → 0o101 < op → Short 0 1 op
unfolding all_below takens lefts lengths
short4 op row h = short 14 0o102 0 1 refl op (omega (arith, h)) (omega (arith, row))

pub short5 : (op : ℕ) → op / 16 ≡ 5 → 0o121 < op → Short 1 0 op
unfolding all_below takens lefts lengths
short5 op row h = short 14 0o122 1 0 refl op (omega (arith, h)) (omega (arith, row))
