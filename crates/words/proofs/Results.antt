-- An unsigned result in 64 bits, as the code has it: a word or trap 37 by one comparison, a difference that went round below 0 too. Assumes nothing.
use Rattle.std.specs.Prelude.{Ok, Err}
use Rattle.std.proofs.Common.{◌≡◌, ℕ, zero, suc, ◌-◌, ◌<◌, ◌≤◌, Bool, true, false, ltb, pos, ◌-ℤ◌, refl, ap, arith, ltb-false, ltb-true, le-ltb, le-leb}
use borrow.Author.Tests.{lt-leb}
use lib.IntN.{sub_ℕ}
use Rattle.mcode.specs.Word.{settle_unsigned}
use Rattle.mcode.specs.declared.Stop.TheVariants.{ResultRange}
use Rattle.words.specs.Wide.{wide_difference}

pub word-settles : (n : ℕ) → n < 65536 → settle_unsigned (pos n) ≡ Ok n
word-settles n h = rw (le-leb 0 n (omega arith), le-leb n 65535 (omega arith))

pub above-settles : (n : ℕ) → 65536 ≤ n → settle_unsigned (pos n) ≡ Err ResultRange
above-settles n h = rw (le-leb 0 n (omega arith), lt-leb n 65535 (omega arith))

difference : (c a : ℕ) → pos c -ℤ pos a ≡ sub_ℕ c a
difference c zero = rw (le-ltb c 0 (omega arith)) (ap pos (omega arith))
difference c (suc a) = refl

pub difference-settles : (c a : ℕ) → c < 65536 → a < 65536 → settle_unsigned (pos (wide_difference c a)) ≡ settle_unsigned (pos c -ℤ pos a)
difference-settles c a hc ha = elim-test (ltb c a) refl
  where
    elim-test : (t : Bool) → ltb c a ≡ t → settle_unsigned (pos (wide_difference c a)) ≡ settle_unsigned (pos c -ℤ pos a)
    elim-test true e =
        let l : c < a = ltb-true c a e in
        rw (difference c a, e) (above-settles (wide_difference c a) (omega arith))
    elim-test false e =
        let l : a ≤ c = ltb-false c a e in
        let n : wide_difference c a ≡ c - a = omega arith in
        rw (difference c a, e, n)
