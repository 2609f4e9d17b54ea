-- The bits of a word, by their weights: when one is taken off, and in words that are put together bit by bit. Assumes nothing.
use mathlib.Core.Path.{◌≡◌, refl, sym, ap, ap₂, ◌∙◌, subst}
use mathlib.Core.Bool.{true, false, not, false≢true}
use Prim.Native.Nat.{ℕ, zero, suc, ◌+◌, ◌-◌, ◌*◌, ◌/◌, ◌%◌, ◌^◌, ◌≤◌, ◌<◌, min, max}
use native.Mathlib.Nat.{mod_self, zero-div, suc-mul, add-mul, mod-lt, pow-suc, one-mul, zero-max, max-zero, suc-max-suc, min-le_left, max-le, lt_of_le_of_lt, lt_of_lt_of_le}
use native.Mathlib.Decide.{dec_lt, ℕ_discrete}
use native.Mathlib.Omega.{arith}
use lib.Dec.{eqb}
use lib.Arith.{lt-one, bin_ind, digits_mod}
use lib.Bits.{bit_and, bit_or, and_step, or_step, and_shr, or_shr}
use lib.Pow.{pow_pos, pow_mono, pow-lt, shl-shr, shr-shr, shr_lt, split, high, low, field, mod-mod-pow, ones_split, le_ones}
use borrow.Author.Tests.{eqb-true, eq-eqb, ne_eqb}
use Rattle.mcode.specs.Word.{pick, and, or, bit}
use Rattle.mcode.specs.Demands.{ClearsBit}

-- bit j, of the digits below i only
low_digit : (w j i : ℕ) → j < i → w / 2 ^ j % 2 ≡ w % 2 ^ i / 2 ^ j % 2
low_digit w j i l =
    let d = i - (1 + j) in
    let e : d + (1 + j) ≡ i = omega arith in
    let cut : w % 2 ^ i % 2 ^ (1 + j) ≡ w % 2 ^ (1 + j) = subst (λ (k : ℕ). w % 2 ^ k % 2 ^ (1 + j) ≡ w % 2 ^ (1 + j)) e (mod-mod-pow w d (1 + j)) in
    sym (field w 1 j) ∙ ap (λ (k : ℕ). k / 2 ^ j) (sym cut) ∙ field (w % 2 ^ i) 1 j

-- digit j, of the digits from i + 1 on only
high_digit : (w i j : ℕ) → i < j → w / 2 ^ j ≡ w / 2 ^ i / 2 / 2 ^ (j - i - 1)
high_digit w i j l =
    let d = j - i - 1 in
    let e : i + (1 + d) ≡ j = omega arith in
    sym (subst (λ (k : ℕ). w / 2 ^ i / 2 / 2 ^ d ≡ w / 2 ^ k) e (shr-shr (w / 2 ^ i) 1 d ∙ shr-shr w i (1 + d)))

module _ (w i : ℕ) (h : w / 2 ^ i % 2 ≡ 1) where
  abbrev g : ℕ
  g = w / 2 ^ i - 1

  rest : w - 2 ^ i ≡ g * 2 ^ i + w % 2 ^ i
  rest =
      let q : w / 2 ^ i ≡ suc g = omega (arith, h) in
      let p : w / 2 ^ i * 2 ^ i ≡ g * 2 ^ i + 2 ^ i = ap (λ (k : ℕ). k * 2 ^ i) q ∙ suc-mul g (2 ^ i) in
      omega (arith, p, split w i)

  rest-high : (w - 2 ^ i) / 2 ^ i ≡ g
  rest-high = ap (λ (k : ℕ). k / 2 ^ i) rest ∙ high g i (mod-lt w (pow_pos i))

  rest-low : (w - 2 ^ i) % 2 ^ i ≡ w % 2 ^ i
  rest-low = ap (λ (k : ℕ). k % 2 ^ i) rest ∙ low g i (mod-lt w (pow_pos i))

  cleared : (j : ℕ) → bit (w - 2 ^ i) j ≡ pick (eqb j i) false (bit w j)
  cleared j = by (dec_lt j i) (ℕ_discrete j i)
    where
      at_least : (j < i → ⊥) → (j ≡ i → ⊥) → i < j
      at_least a b = omega (arith, a, b)

      by : Dec (j < i) → Dec (j ≡ i) → bit (w - 2 ^ i) j ≡ pick (eqb j i) false (bit w j)
      by (yes l) d =
          rw (ne_eqb j i (λ z. omega (arith, l, z)))
          (ap (λ (k : ℕ). eqb k 1) (low_digit (w - 2 ^ i) j i l ∙ ap (λ (k : ℕ). k / 2 ^ j % 2) rest-low ∙ sym (low_digit w j i l)))
      by (no n) (yes e) =
          let z : (w - 2 ^ i) / 2 ^ i % 2 ≡ 0 = omega (arith, rest-high, h) in
          rw (e, eq-eqb i i refl) (ap (λ (k : ℕ). eqb k 1) z)
      by (no n) (no m) =
          let l = at_least n m in
          let z : (w - 2 ^ i) / 2 ^ i / 2 ≡ w / 2 ^ i / 2 = omega (arith, rest-high, h) in
          rw (ne_eqb j i m)
          (ap (λ (k : ℕ). eqb (k % 2) 1) (high_digit (w - 2 ^ i) i j l ∙ ap (λ (k : ℕ). k / 2 ^ (j - i - 1)) z ∙ sym (high_digit w i j l)))

pub clears-bit : ClearsBit
unfolding ClearsBit
clears-bit w i j h = cleared w i (eqb-true _ _ h) j

-- ---- bit by bit

module _ (a i : ℕ) (l : i < 16) (h : a < 65536) where
  abbrev p : ℕ
  p = 2 ^ i

  abbrev A : ℕ
  A = 2 ^ (16 - i) - 1

  sixteen : 16 - i + i ≡ 16
  sixteen = omega arith

  most : 65535 ≡ A * p + (p - 1)
  most = subst (λ (k : ℕ). 2 ^ k - 1 ≡ A * p + (p - 1)) sixteen (ones_split (16 - i) i)

  below : a / p < 2 ^ (16 - i)
  below = shr_lt (16 - i) i (subst (λ (k : ℕ). a < 2 ^ k) (sym sixteen) h)

  other-high : (65535 - a) / p ≡ A - a / p
  other-high =
      let q : A - a / p + a / p ≡ A = omega (arith, below) in
      let d : (A - a / p) * p + a / p * p ≡ A * p = sym (add-mul (A - a / p) (a / p) p) ∙ ap (λ (k : ℕ). k * p) q in
      let e : 65535 - a ≡ (A - a / p) * p + (p - 1 - a % p) = omega (arith, most, d, split a i, mod-lt a (pow_pos i)) in
      ap (λ (k : ℕ). k / p) e ∙ high (A - a / p) i (let z : p - 1 - a % p < p = omega (arith, pow_pos i) in z)

  other-digit : (65535 - a) / p % 2 ≡ 1 - a / p % 2
  other-digit =
      let e : 2 ^ (16 - i) ≡ 2 ^ (15 - i) * 2 = ap (λ (k : ℕ). 2 ^ k) (let z : 16 - i ≡ suc (15 - i) = omega arith in z) ∙ pow-suc 2 (15 - i) in
      let q : (A - a / p) % 2 ≡ 1 - a / p % 2 = omega (arith, e, below, pow_pos (15 - i)) in
      ap (λ (k : ℕ). k % 2) other-high ∙ q

digit_not : (d : ℕ) → d < 2 → eqb (1 - d) 1 ≡ not (eqb d 1)
digit_not zero l = refl
digit_not (suc zero) l = refl
digit_not (suc (suc d)) l = absurd (let z : ⊥ = omega arith in z)

digit_and : (d e : ℕ) → d < 2 → e < 2 → eqb (min d e) 1 ≡ and (eqb d 1) (eqb e 1)
digit_and zero zero l m = refl
digit_and zero (suc zero) l m = refl
digit_and (suc zero) zero l m = refl
digit_and (suc zero) (suc zero) l m = refl
digit_and (suc (suc d)) e l m = absurd (let z : ⊥ = omega arith in z)
digit_and zero (suc (suc e)) l m = absurd (let z : ⊥ = omega arith in z)
digit_and (suc zero) (suc (suc e)) l m = absurd (let z : ⊥ = omega arith in z)

digit_or : (d e : ℕ) → d < 2 → e < 2 → eqb (max d e) 1 ≡ or (eqb d 1) (eqb e 1)
digit_or zero zero l m = refl
digit_or zero (suc zero) l m = refl
digit_or (suc zero) zero l m = refl
digit_or (suc zero) (suc zero) l m = refl
digit_or (suc (suc d)) e l m = absurd (let z : ⊥ = omega arith in z)
digit_or zero (suc (suc e)) l m = absurd (let z : ⊥ = omega arith in z)
digit_or (suc zero) (suc (suc e)) l m = absurd (let z : ⊥ = omega arith in z)

two : (n : ℕ) → n % 2 < 2
two n = mod-lt n (omega arith)

and-digit : (a b : ℕ) → bit_and a b % 2 ≡ min (a % 2) (b % 2)
and-digit a b = ap (λ (k : ℕ). k % 2) (and_step a b) ∙ digits_mod (bit_and (a / 2) (b / 2)) (small (a % 2) (b % 2) (two a))
  where
    small : (x y : ℕ) → x < 2 → min x y < 2
    small x y l = lt_of_le_of_lt (min-le_left x y) l

or-digit : (a b : ℕ) → bit_or a b % 2 ≡ max (a % 2) (b % 2)
or-digit a b = ap (λ (k : ℕ). k % 2) (or_step a b) ∙ digits_mod (bit_or (a / 2) (b / 2)) (lt_of_le_of_lt (max-le (le_ones 1 (two a)) (le_ones 1 (two b))) (omega arith))

pub bit_not : (a i : ℕ) → i < 16 → a < 65536 → bit (65535 - a) i ≡ not (bit a i)
bit_not a i l h = ap (λ (k : ℕ). eqb k 1) (other-digit a i l h) ∙ digit_not (a / 2 ^ i % 2) (two (a / 2 ^ i))

pub bit-and : (a b i : ℕ) → bit (bit_and a b) i ≡ and (bit a i) (bit b i)
bit-and a b i =
    ap (λ (k : ℕ). eqb (k % 2) 1) (and_shr a b i) ∙ ap (λ (k : ℕ). eqb k 1) (and-digit (a / 2 ^ i) (b / 2 ^ i))
    ∙ digit_and (a / 2 ^ i % 2) (b / 2 ^ i % 2) (two (a / 2 ^ i)) (two (b / 2 ^ i))

pub bit-or : (a b i : ℕ) → bit (bit_or a b) i ≡ or (bit a i) (bit b i)
bit-or a b i =
    ap (λ (k : ℕ). eqb (k % 2) 1) (or_shr a b i) ∙ ap (λ (k : ℕ). eqb k 1) (or-digit (a / 2 ^ i) (b / 2 ^ i))
    ∙ digit_or (a / 2 ^ i % 2) (b / 2 ^ i % 2) (two (a / 2 ^ i)) (two (b / 2 ^ i))

-- a word has at least the weight of each of its bits
pub weight-below : (w i : ℕ) → bit w i ≡ true → 2 ^ i ≤ w
weight-below w i h =
    let e : w / 2 ^ i % 2 ≡ 1 = eqb-true _ _ h in
    let g = w / 2 ^ i - 1 in
    let q : w / 2 ^ i ≡ suc g = omega (arith, e) in
    let p : w / 2 ^ i * 2 ^ i ≡ g * 2 ^ i + 2 ^ i = ap (λ (k : ℕ). k * 2 ^ i) q ∙ suc-mul g (2 ^ i) in
    omega (arith, p, split w i)

-- and below twice the weight of one, it has that one
pub top_bit : (w i : ℕ) → 2 ^ i ≤ w → w < 2 ^ i * 2 → bit w i ≡ true
top_bit w i l h =
    let e : w ≡ 1 * 2 ^ i + (w - 2 ^ i) = omega arith in
    let f : w / 2 ^ i ≡ 1 = ap (λ (k : ℕ). k / 2 ^ i) e ∙ high 1 i (let z : w - 2 ^ i < 2 ^ i = omega arith in z) in
    rw f refl

-- a word below 2 to the n has no bit n or higher
pub no-bit : (w n i : ℕ) → w < 2 ^ n → n ≤ i → bit w i ≡ false
no-bit w n i h l =
    let g : 2 ^ n ≤ 2 ^ (0 + i) = pow_mono {i = n} {j = 0 + i} (omega arith) in
    rw (lt-one (shr_lt 0 i (lt_of_lt_of_le {n = w} {m = 2 ^ n} {k = 2 ^ (0 + i)} h g))) refl

-- the bit of a weight
pub bit-weight : (i : ℕ) → bit (2 ^ i) i ≡ true
bit-weight i =
    let e : 2 ^ i / 2 ^ i ≡ 1 = ap (λ (k : ℕ). k / 2 ^ i) (sym (one-mul (2 ^ i))) ∙ shl-shr 1 i in
    rw e refl

max_assoc : (x y z : ℕ) → max (max x y) z ≡ max x (max y z)
max_assoc zero y z = rw (zero-max y, zero-max (max y z)) refl
max_assoc (suc x) zero z = rw (max-zero (suc x), zero-max z) refl
max_assoc (suc x) (suc y) zero = rw (max-zero (max (suc x) (suc y)), max-zero (suc y)) refl
max_assoc (suc x) (suc y) (suc z) = rw (suc-max-suc x y, suc-max-suc y z, suc-max-suc (max x y) z, suc-max-suc x (max y z)) (ap suc (max_assoc x y z))

pub or_assoc : (a b c : ℕ) → bit_or (bit_or a b) c ≡ bit_or a (bit_or b c)
or_assoc a =
    bin_ind (λ (n : ℕ). (b c : ℕ) → bit_or (bit_or n b) c ≡ bit_or n (bit_or b c)) (λ b c. refl)
    (λ n ih b c.
    or_step (bit_or n b) c
    ∙ ap₂ (λ (x y : ℕ). bit_or x (c / 2) * 2 + max y (c % 2)) (or_shr n b 1) (or-digit n b)
    ∙ ap₂ (λ (x y : ℕ). x * 2 + y) (ih (b / 2) (c / 2)) (max_assoc (n % 2) (b % 2) (c % 2))
    ∙ sym (or_step n (bit_or b c) ∙ ap₂ (λ (x y : ℕ). bit_or (n / 2) x * 2 + max (n % 2) y) (or_shr b c 1) (or-digit b c))) a

-- a weight has no other bit
pub weight-only : (j i : ℕ) → bit (2 ^ j) i ≡ true → j ≡ i
weight-only j i t = by (dec_lt i j) (ℕ_discrete j i)
  where
    low-one : i < j → 2 ^ j / 2 ^ i % 2 ≡ 0
    low-one l = low_digit (2 ^ j) i j l ∙ ap (λ (k : ℕ). k / 2 ^ i % 2) (mod_self (2 ^ j)) ∙ ap (λ (k : ℕ). k % 2) (zero-div (2 ^ i))

    beyond : (i < j → ⊥) → (j ≡ i → ⊥) → suc j ≤ i
    beyond a b = omega (arith, a, b)

    by : Dec (i < j) → Dec (j ≡ i) → j ≡ i
    by d (yes e) = e
    by (yes l) (no n) = absurd (false≢true (sym (ap (λ (k : ℕ). eqb k 1) (low-one l)) ∙ t))
    by (no m) (no n) = absurd (false≢true (sym (no-bit (2 ^ j) (suc j) i (pow-lt (omega arith)) (beyond m n)) ∙ t))
