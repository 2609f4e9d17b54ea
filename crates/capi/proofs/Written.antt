-- A list that is written over whole, as the words of a machine are: the registers one by one, the stack as a part. Assumes nothing.
use mathlib.Core.Path.{◌≡◌, refl, sym, ◌∙◌}
use mathlib.Core.List.{List, [], ◌∷◌, ◌++◌}
use Prim.Native.Nat.{ℕ, ◌-◌, ◌≤◌}
use native.Mathlib.Omega.{arith}
use borrow.Rule.Slice.PartMut.{put_mid}
use lib.ListN.{length, drop, set, length-drop}
use lib.Seq.{ext_get_or}
use Rattle.std.proofs.lemmas.List.{take_at, drop_at, drop_all, append-nil}
use Rattle.mcode.specs.Step.{written}
use Rattle.mcode.proofs.Writes.{written-whole}
use Rattle.mcode.proofs.Zeros.{length-written, written_in}

pub overwritten : (vs ws : List ℕ) → length vs ≡ length ws → written vs 0 ws ≡ vs
overwritten vs ws e =
    ext_get_or 0 (written vs 0 ws) vs (length-written vs 0 ws ∙ sym e)
    (λ i h. written_in vs 0 ws i i (omega arith) (omega (arith, h, length-written vs 0 ws)) (omega arith))

pub packed : (front whole part : List ℕ) → length front ≤ length whole → put_mid (length front) (length whole - length front) (written front 0 whole) part ≡ front ++ part
packed front whole part l = rw (
  written-whole front whole l,
  take_at front (drop (length front) whole) (length front) refl,
  drop_at front (drop (length front) whole) (length front) refl,
  drop_all (length whole - length front) (drop (length front) whole) (simp length-drop (omega arith)),
  append-nil part,
)

pub single : (whole : List ℕ) (v : ℕ) → length whole ≡ 1 → set whole 0 v ≡ v ∷ []
single [] v e = absurd (omega (arith, e))
single (w ∷ []) v e = refl
single (w ∷ x ∷ rest) v e = absurd (omega (arith, e))
