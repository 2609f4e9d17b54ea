-- The weight of a line in the word of requests, as the code computes it, and the line of its highest bit. Assumes nothing.
use mathlib.Core.Path.{◌≡◌, refl}
use Prim.Native.Nat.{ℕ, ◌*◌, ◌%◌, ◌^◌, ◌≤◌, ◌<◌}
use native.Mathlib.Omega.{arith}
use lib.Pow.{pow_mono}

-- 1 shifted by i
pub shifted : (i : ℕ) → i < 16 → 1 * 2 ^ i % 65536 ≡ 2 ^ i
shifted i l =
    let h : 2 ^ i ≤ 2 ^ 15 = pow_mono {i = i} {j = 15} (omega arith) in
    let e : 2 ^ 15 ≡ 32768 = refl in
    omega (arith, h, e)

-- the highest bit of a word that has a line is a line's
pub line-from : (w i : ℕ) → 256 ≤ w → w < 2 * 2 ^ i → 8 ≤ i
line-from w i h l =
    let none : i ≤ 7 → ⊥ = λ z. let p : 2 ^ i ≤ 2 ^ 7 = pow_mono {i = i} {j = 7} z in let e : 2 ^ 7 ≡ 128 = refl in let c : ⊥ = omega (arith, h, l, p, e) in c in
    omega (arith, none)
