use Rattle.std.proofs.Common.{◌≡◌, ℕ, ◌≤◌, arith}
use Rattle.mcode.specs.Word.{double_of}
use Rattle.words.proofs.doubles.double_sums.Goals as goal

pub returns-then-op-eq137 : goal.returns-then-op-eq137
unfolding double_of
returns-then-op-eq137 c = rw c.if-op-eq137.true c.sub-difference.ensures

pub returns-else-op-eq137 : goal.returns-else-op-eq137
unfolding double_of
returns-else-op-eq137 c = rw (sum-op _ c.requires.0 c.requires.1 c.if-op-eq137.false) c.add-sum.ensures
  where
    sum-op : (op : ℕ) → 0o210 ≤ op → op ≤ 0o211 → (op ≡ 0o211 → ⊥) → op ≡ 0o210
    sum-op op l h n = omega (arith, n)
