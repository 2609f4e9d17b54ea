-- A listed opcode of a row that is none of the row's others is the last one: what a match's last arm knows, by one computed test of the
-- table. Assumes nothing.
use mathlib.Core.Path.{◌≡◌, refl}
use mathlib.Core.Bool.{Bool, true, false}
use mathlib.Core.List.{List, [], ◌∷◌}
use Prim.Native.Nat.{ℕ, ◌≤◌, ◌<◌, ◌/◌}
use native.Mathlib.Omega.{arith}
use borrow.Author.Tests.{eq-eqb, ne_eqb, eqb-true}
use lib.Dec.{eqb}
use lib.ListN.{get_or}
use Rattle.mcode.specs.Word.{pick, all_below}
use Rattle.mcode.specs.Opcode.{lengths}
use Rattle.mcode.proofs.Tests.{all-at}

-- op is none of these: what a match knows in its last arm, the last number first
abbrev pub None : List ℕ → ℕ → Type 0
None [] op = Unit
None (k ∷ ks) op = None ks op × (op ≡ k → ⊥)

unfoldable pub among : List ℕ → ℕ → Bool
among [] op = false
among (k ∷ ks) op = pick (eqb op k) true (among ks op)

not-among : (ks : List ℕ) (op : ℕ) → None ks op → among ks op ≡ false
unfolding among
not-among [] op h = refl
not-among (k ∷ ks) op h = rw (ne_eqb op k h.1) (not-among ks op h.0)

-- an opcode of the row that is listed, not taken before the match and none of ks is last
unfoldable pub left : (ℕ → Bool) → List ℕ → ℕ → ℕ → ℕ → Bool
left taken ks row last op =
    pick (eqb (op / 16) row) (pick (eqb (get_or lengths op 0) 0) true (pick (taken op) true (pick (among ks op) true (eqb op last)))) true

pub one_left : (taken : ℕ → Bool) (ks : List ℕ) (row last op : ℕ) → all_below 256 (left taken ks row last) ≡ true → op < 256 → op / 16 ≡ row → 1 ≤ get_or lengths op 0
    → taken op ≡ false → None ks op → op ≡ last
unfolding left
one_left taken ks row last op t h e l n m =
    eqb-true op last
    (rw (eq-eqb (op / 16) row e, ne_eqb (get_or lengths op 0) 0 (λ z. omega (arith, l, z)), n, not-among ks op m) at (all-at 256 (left taken ks row last) t op h))
