-- Signed numbers of 16 bits: what a local holds of them, their sums, differences and products in 32 bits, and their quotients and opposites in 16. Assumes nothing.
use Rattle.std.proofs.Common.{◌≡◌, ℕ, zero, suc, ◌-◌, ◌*◌, ◌/◌, ◌<◌, ◌≤◌, Bool, true, false, T, ltb, ℤ, pos, negsuc, ◌+ℤ◌, ◌-ℤ◌, ◌*ℤ◌, neg_ℤ, nat_abs, sym, refl, ap, ◌∙◌, mul-le-mul, zero-add, div-le_self, div-one, arith, w16, w32, Fits, SFits, to_z, of_z, ltb-false, ltb-true, le-ltb, lt-ltb, le-leb}
use native.Mathlib.Nat.{div-lt_self}
use lib.IntN.{pos-ne-negsuc, +ℤ_idl, sub_ℕ}
use lib.Signed.{mag, quot_z, lt_z, le_z, non_neg}
use mir.ValLaws.{to_z-of_z, to_z-Fits}

false-true : false ≡ true → ⊥
false-true e = let z : ◌≡◌ {A = ℕ} 0 1 = cc in omega arith

true-false : true ≡ false → ⊥
true-false e = let z : ◌≡◌ {A = ℕ} 0 1 = cc in omega arith

pub fits32 : (z : ℤ) → mag z < 2147483648 → SFits w32 z
fits32 z h = record { sfits = h }

mag-subℕ : (a b n : ℕ) → a ≤ n → b ≤ suc n → mag (sub_ℕ a b) ≤ n
mag-subℕ a b n ha hb = elim-test (ltb a b) refl
  where
    elim-test : (t : Bool) → ltb a b ≡ t → mag (sub_ℕ a b) ≤ n
    elim-test true e = rw e (omega arith)
    elim-test false e = rw e (omega arith)

-- the magnitude of a 16-bit number, or of its opposite
abbrev Small : ℤ → Type 0
Small z = mag z ≤ 32768

add_small : (x y : ℤ) → Small x → Small y → mag (x +ℤ y) < 2147483648
add_small (pos a) (pos b) hx hy = omega arith
add_small (pos a) (negsuc b) hx hy = omega (arith, mag-subℕ a (suc b) 32768 (omega arith) (omega arith))
add_small (negsuc a) (pos b) hx hy = omega (arith, mag-subℕ b (suc a) 32768 (omega arith) (omega arith))
add_small (negsuc a) (negsuc b) hx hy = omega arith

pub add-mag : (x y : ℤ) → mag x < 32768 → mag y < 32768 → mag (x +ℤ y) < 2147483648
add-mag x y hx hy = add_small x y (omega arith) (omega arith)

mag-neg-pred : (n k : ℕ) → n ≤ suc k → mag (neg_ℤ (pos n)) ≤ k
mag-neg-pred zero k h = omega arith
mag-neg-pred (suc n) k h = omega arith

mag-neg-pos : (n : ℕ) → mag (neg_ℤ (pos n)) ≤ n
mag-neg-pos n = mag-neg-pred n n (omega arith)

neg_small : (y : ℤ) → mag y < 32768 → Small (neg_ℤ y)
neg_small (pos n) h = omega (arith, mag-neg-pos n)
neg_small (negsuc n) h = omega arith

pub sub-mag : (x y : ℤ) → mag x < 32768 → mag y < 32768 → mag (x -ℤ y) < 2147483648
sub-mag x y hx hy = add_small x (neg_ℤ y) (omega arith) (neg_small y hy)

product : (m n : ℕ) → m ≤ 32768 → n ≤ 32768 → m * n ≤ 1073741824
product m n hm hn = mul-le-mul hm hn

pub mul-mag : (x y : ℤ) → mag x < 32768 → mag y < 32768 → mag (x *ℤ y) < 2147483648
mul-mag (pos a) (pos b) hx hy = omega (arith, product a b (omega arith) (omega arith))
mul-mag (pos a) (negsuc b) hx hy = omega (arith, mag-neg-pos (a * suc b), product a (suc b) (omega arith) (omega arith))
mul-mag (negsuc a) (pos b) hx hy = omega (arith, mag-neg-pos (suc a * b), product (suc a) b (omega arith) (omega arith))
mul-mag (negsuc a) (negsuc b) hx hy = omega (arith, product (suc a) (suc b) (omega arith) (omega arith))

-- what a 32-bit local holds of a small number is the number
same32 : (z : ℤ) → mag z < 2147483648 → to_z w32 (of_z w32 z) ≡ z
same32 z h = to_z-of_z w32 z (fits32 z h)

pub small32 : (z : ℤ) → mag z < 32768 → to_z w32 (of_z w32 z) ≡ z
small32 z h = same32 z (omega arith)

-- f of two 16-bit numbers, computed in 32 bits: it fits, and a local holds it
pub in32 : (f : ℤ → ℤ → ℤ) → ((x y : ℤ) → mag x < 32768 → mag y < 32768 → mag (f x y) < 2147483648) → (x y : ℤ) → mag x < 32768 → mag y < 32768
    → SFits w32 (f (to_z w32 (of_z w32 x)) (to_z w32 (of_z w32 y))) × (to_z w32 (of_z w32 (f (to_z w32 (of_z w32 x)) (to_z w32 (of_z w32 y)))) ≡ f x y)
in32 f bound x y hx hy = rw (small32 x hx, small32 y hy) (fits32 (f x y) (bound x y hx hy), same32 (f x y) (bound x y hx hy))

pub same16 : (z : ℤ) → mag z < 32768 → to_z w16 (of_z w16 z) ≡ z
same16 z h = to_z-of_z w16 z (record { sfits = h })

-- ---- a word and its number
less_one : (n : ℕ) → negsuc 0 -ℤ pos n ≡ negsuc n
less_one zero = refl
less_one (suc n) = ap (λ (k : ℕ). negsuc (suc k)) (zero-add n)

one_less : (n : ℕ) → negsuc 0 -ℤ negsuc n ≡ pos n
one_less n = rw (le-ltb (suc n) 1 (omega arith)) (ap pos (omega arith))

pub signed_high : (x : ℕ) → 32768 ≤ x → x < 65536 → negsuc 0 -ℤ to_z w16 (65535 - x) ≡ to_z w16 x
signed_high x h k =
    rw (lt-ltb (65535 - x) 32768 (omega arith), le-ltb x 32768 h) (less_one (65535 - x) ∙ ap negsuc (omega arith))

-- ---- a number's bits: not below 0, and below
pub bits-high : (z : ℤ) → le_z (pos 0) z ≡ true → mag z < 32768 → (T (non_neg z)) × (Fits w16 (nat_abs z)) × (nat_abs z ≡ of_z w16 z)
bits-high (pos n) e h = (tt, record { fits = omega arith }, refl)
bits-high (negsuc n) e h = absurd (false-true e)

pub bits-low : (z : ℤ) → le_z (pos 0) z ≡ false → mag z < 32768
    → (mag (negsuc 0 -ℤ z) < 32768) × (T (non_neg (negsuc 0 -ℤ z))) × (nat_abs (negsuc 0 -ℤ z) < 32768) × (65535 - nat_abs (negsuc 0 -ℤ z) ≡ of_z w16 z)
bits-low (pos n) e h = absurd (true-false (sym (le-leb 0 n (omega arith)) ∙ e))
bits-low (negsuc n) e h = rw (one_less n) (h, tt, h, omega arith)

-- ---- the range
pub low : (z : ℤ) → lt_z z (negsuc 32767) ≡ true → ltb (mag z) 32768 ≡ false
low (pos n) e = absurd (false-true e)
low (negsuc n) e = le-ltb n 32768 (omega (arith, ltb-true 32767 n e))

pub high : (z : ℤ) → lt_z (pos 32767) z ≡ true → ltb (mag z) 32768 ≡ false
high (pos n) e = le-ltb n 32768 (omega (arith, ltb-true 32767 n e))
high (negsuc n) e = absurd (false-true e)

pub mid : (z : ℤ) → lt_z z (negsuc 32767) ≡ false → lt_z (pos 32767) z ≡ false → mag z < 32768
mid (pos n) e f = omega (arith, ltb-false 32767 n f)
mid (negsuc n) e f = omega (arith, ltb-false 32767 n e)

pub opposite : (y : ℤ) → pos 0 -ℤ y ≡ neg_ℤ y
opposite y = +ℤ_idl (neg_ℤ y)

-- ---- in 16 bits
quot-small : (x y : ℤ) → mag x < 32768 → (x ≡ negsuc 32767 → y ≡ negsuc 0 → ⊥) → mag (quot_z x y) < 32768
quot-small (pos a) (pos b) hx h = omega (arith, div-le_self a b)
quot-small (pos a) (negsuc b) hx h = omega (arith, mag-neg-pos (a / suc b), div-le_self a (suc b))
quot-small (negsuc a) (pos b) hx h = omega (arith, mag-neg-pred (suc a / b) a (div-le_self (suc a) b))
quot-small (negsuc a) (negsuc zero) hx h =
    let ne : a ≡ 32767 → ⊥ = λ e. h (ap negsuc e) refl in
    omega (arith, div-one (suc a), ne)
quot-small (negsuc a) (negsuc (suc b)) hx h = omega (arith, div-lt_self {n = suc a} {k = suc (suc b)} (omega arith) (omega arith))

-- the word of -1 - n
signed_below : (c n : ℕ) → c < 65536 → to_z w16 c ≡ negsuc n → c ≡ 65535 - n
signed_below c n k e = elim-test (ltb c 32768) refl
  where
    elim-test : (t : Bool) → ltb c 32768 ≡ t → c ≡ 65535 - n
    elim-test true f = absurd (pos-ne-negsuc c n (rw f at e))
    elim-test false f = omega (arith, ap mag (rw f at e), ltb-false c 32768 f)

pub quot_fits : (c a : ℕ) → c < 65536 → a < 65536 → mag (to_z w16 c) < 32768 → (c ≡ 32768 → a ≡ 65535 → ⊥) → mag (quot_z (to_z w16 c) (to_z w16 a)) < 32768
quot_fits c a kc ka hx h = quot-small (to_z w16 c) (to_z w16 a) hx (λ e f. h (signed_below c 32767 kc e) (signed_below a 0 ka f))

pub nonzero16 : (a : ℕ) → (a ≡ 0 → ⊥) → a < 65536 → 0 < of_z w16 (to_z w16 a)
nonzero16 a h k = elim-test (ltb a 32768) refl
  where
    elim-test : (t : Bool) → ltb a 32768 ≡ t → 0 < of_z w16 (to_z w16 a)
    elim-test true e = rw e (omega arith)
    elim-test false e = rw e (omega arith)

neg-mag : (z : ℤ) → mag z < 32768 → (z ≡ negsuc 32767 → ⊥) → mag (neg_ℤ z) < 32768
neg-mag (pos n) k h = omega (arith, mag-neg-pos n)
neg-mag (negsuc n) k h =
    let ne : n ≡ 32767 → ⊥ = λ e. h (ap negsuc e) in
    omega (arith, ne)

pub small16 : (a : ℕ) → a < 65536 → mag (to_z w16 a) < 32768
small16 a k = (to_z-Fits w16 a (record { fits = k })).sfits

-- what a 16-bit local holds of a word's number is that number
pub held16 : (a : ℕ) → a < 65536 → to_z w16 (of_z w16 (to_z w16 a)) ≡ to_z w16 a
held16 a k = same16 (to_z w16 a) (small16 a k)

pub low_signed : (a : ℕ) → a < 32768 → to_z w16 a ≡ pos a
low_signed a h = rw (lt-ltb a 32768 h)

pub neg-fits : (a : ℕ) → a < 65536 → (a ≡ 32768 → ⊥) → mag (pos 0 -ℤ to_z w16 a) < 32768
neg-fits a k h = rw (opposite (to_z w16 a)) (neg-mag (to_z w16 a) (small16 a k) (λ e. h (signed_below a 32767 k e)))
