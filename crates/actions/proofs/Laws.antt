-- A step that only moves pc and the depth stays in its module, if the new place is in its code; the bit of a channel fits a word. Assumes
-- nothing.
use Rattle.std.proofs.Common.{◌≡◌, ℕ, zero, suc, ◌-◌, Bool, true, false, Result, Ok, Err, ◌*◌, ◌%◌, ◌^◌, ◌<◌, ◌≤◌, refl, arith}
use Rattle.mcode.specs.Word.{pick}
use Rattle.mcode.specs.declared.Stop.{Stop}
use lib.Pow.{pow-lt}
use Rattle.actions.specs.declared.Core.{Core}
use Rattle.actions.specs.Core.{Stays, Stepped, after, at, less}

pub stays_at : (q : Stepped) (to d : ℕ) (r : Core) → r.start ≤ to → q ≡ Ok (at to d r) → Stays r (after r q)
stays_at q to d r h e = rw e (record { start = refl; unit = refl; g = refl; own = λ o. h })

pub stays-as : (r : Core) → Stays r r
stays-as r = record { start = refl; unit = refl; g = refl; own = λ o. o }

-- after a `?`: the registers are as they were
pub stays_err : (r : Core) (q : Stepped) (k : Stop) → q ≡ Err k → Stays r (after r q)
stays_err r q k e = rw e (stays-as r)

-- a value that a test gave, and an error that it gave
pub picked : {A : Type 0} (b : Bool) (v w : A) (e : Stop) → pick {A = Result A Stop} b (Ok v) (Err e) ≡ Ok w → (b ≡ true) × (v ≡ w)
picked {A = A} b v w e = elim b as (λ b. pick {A = Result A Stop} b (Ok v) (Err e) ≡ Ok w → (b ≡ true) × (v ≡ w)) [ true ↦ (λ h. (refl, cc)) | false ↦ (λ h. cc) ]

pub refused : {A : Type 0} (b : Bool) (v : A) (e k : Stop) → pick {A = Result A Stop} b (Ok v) (Err e) ≡ Err k → (b ≡ false) × (e ≡ k)
refused {A = A} b v e k = elim b as (λ b. pick {A = Result A Stop} b (Ok v) (Err e) ≡ Err k → (b ≡ false) × (e ≡ k)) [ true ↦ (λ h. cc) | false ↦ (λ h. (refl, cc)) ]

pub less-sub : (n d : ℕ) → less n d ≡ d - n
less-sub zero d = omega arith
less-sub (suc n) d = refl

-- the bit of channel a, as a shift makes it
pub bit-fits : (a : ℕ) → a ≤ 15 → 1 * 2 ^ a % 2 ^ 16 ≡ 2 ^ a
bit-fits a h = let l : 2 ^ a < 2 ^ 16 = pow-lt {i = a} {j = 16} (omega arith) in omega (arith, l)
