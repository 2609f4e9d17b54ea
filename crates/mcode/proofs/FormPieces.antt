-- The archive form in the pieces that are copied from the image: what the writer writes, module by module. Assumes nothing.
use mathlib.Core.Path.{◌≡◌, refl, sym, ap, ◌∙◌, subst}
use mathlib.Core.Bool.{Bool, true, false, not}
use mathlib.Core.List.{List, [], ◌∷◌, ◌++◌, append_assoc, append-nil}
use Prim.Native.Nat.{ℕ, zero, suc, ◌+◌, ◌*◌, ◌/◌, ◌%◌, ◌≤◌, ◌<◌}
use native.Mathlib.Omega.{arith}
use lib.ListN.{length, drop}
use lib.Seq.{drop-cons}
use lib.Dec.{eqb}
use borrow.Author.Tests.{ne_eqb}
use Rattle.mcode.specs.declared.Module.{Module}
use Rattle.mcode.specs.Word.{pick, and, tabulate, slice, byte, word}
use Rattle.mcode.specs.Image.{proc_count, entry_of, params_of, results_of}
use Rattle.mcode.specs.Layout.{Bytes, Spelt}
use Rattle.mcode.specs.Layout.{Sound as Read}
use Rattle.mcode.specs.Archive.{Procedure, Content, procedure_of, content_at, name_of, word_bytes, records_bytes, Bits, bit_map, given, spelled, default, zeros, module_form, modules_form}
use Rattle.mcode.proofs.Tabulate.{length-tabulate}
use Rattle.mcode.proofs.FormOf.{length-code}

-- "the single default one", as the image tells it
abbrev pub defaulted : List ℕ → Module → Bool
defaulted image m = and (eqb (proc_count m) 1) (and (eqb (entry_of image m 0) 0) (and (eqb (params_of image m 0) 0) (eqb (results_of image m 0) 0)))

abbrev pub bits_of : List ℕ → ℕ → Module → Bits
bits_of image at m = record { sized = not (eqb m.size 0); listing = not (defaulted image m); named = not (zeros (name_of image at m)) }

-- module m, whose bit map is at `at`: the records and the code are copied
abbrev pub module_bytes : List ℕ → ℕ → Module → List ℕ
module_bytes image at m =
    let b = bits_of image at m in
    bit_map b
    ∷ (given b.sized (word_bytes m.size)
    ++ (given b.listing (m.procs ∷ [])
    ++ (given b.named (name_of image at m)
    ++ (word_bytes m.length
    ++ (given b.listing (slice image m.table (4 * m.procs))
    ++ slice image m.code m.length)))))

pub default-tabulate : (n : ℕ) (f : ℕ → Procedure) → default (tabulate n f) ≡ and (eqb n 1) (and (eqb (f 0).entry 0) (and (eqb (f 0).params 0) (eqb (f 0).results 0)))
unfolding tabulate
default-tabulate zero f = refl
default-tabulate (suc zero) f = refl
default-tabulate (suc (suc n)) f = rw (ne_eqb (suc (suc n)) 1 (λ z. omega (arith, z))) refl

-- with no records there is the default one
pub no-records : (image : List ℕ) (m : Module) → eqb m.procs 0 ≡ true → defaulted image m ≡ true
no-records image m e = by (eqb m.procs 0) e
  where
    by : (t : Bool) → t ≡ true
        → and (eqb (pick t 1 m.procs) 1) (and (eqb (pick t 0 (word image (m.table + 4 * 0))) 0) (and (eqb (pick t 0 (byte image (m.table + 4 * 0 + 2))) 0) (eqb (pick t 0 (byte image (m.table + 4 * 0 + 3))) 0))) ≡ true
    by t e = rw e refl

drop-four : (s : List ℕ) (t : ℕ) → t + 4 ≤ length s → drop t s ≡ byte s t ∷ byte s (t + 1) ∷ byte s (t + 2) ∷ byte s (t + 3) ∷ drop (t + 4) s
drop-four s t l =
    let e₁ : suc t ≡ t + 1 = omega arith in
    let e₂ : suc (t + 1) ≡ t + 2 = omega arith in
    let e₃ : suc (t + 2) ≡ t + 3 = omega arith in
    let e₄ : suc (t + 3) ≡ t + 4 = omega arith in
    drop-cons s t 0 (omega arith)
    ∙ ap (λ (k : ℕ). byte s t ∷ drop k s) e₁
    ∙ ap (λ (x : List ℕ). byte s t ∷ x) (drop-cons s (t + 1) 0 (omega arith) ∙ ap (λ (k : ℕ). byte s (t + 1) ∷ drop k s) e₂)
    ∙ ap (λ (x : List ℕ). byte s t ∷ byte s (t + 1) ∷ x) (drop-cons s (t + 2) 0 (omega arith) ∙ ap (λ (k : ℕ). byte s (t + 2) ∷ drop k s) e₃)
    ∙ ap (λ (x : List ℕ). byte s t ∷ byte s (t + 1) ∷ byte s (t + 2) ∷ x) (drop-cons s (t + 3) 0 (omega arith) ∙ ap (λ (k : ℕ). byte s (t + 3) ∷ drop k s) e₄)

module _ (image : List ℕ) (B : Bytes image) where
  -- the records, written again, are the bytes that they were read from
  records-again : (n t : ℕ) (f : ℕ → Procedure) → t + 4 * n ≤ length image
      → ((i : ℕ) → i < n → ((f i).entry ≡ word image (t + 4 * i)) × ((f i).params ≡ byte image (t + 4 * i + 2)) × ((f i).results ≡ byte image (t + 4 * i + 3)))
      → records_bytes (tabulate n f) ≡ slice image t (4 * n)
  unfolding tabulate
  records-again zero t f l h = refl
  records-again (suc n) t f l h =
      let (a, b, c) = h 0 (omega arith) in
      let z : t + 4 * 0 ≡ t = omega arith in
      let a' = a ∙ ap (word image) z in
      let b' = b ∙ ap (λ (k : ℕ). byte image (k + 2)) z in
      let c' = c ∙ ap (λ (k : ℕ). byte image (k + 3)) z in
      let low = B (t + 1) in
      let hi : (f 0).entry / 256 ≡ byte image t = omega (arith, a', low) in
      let lo : (f 0).entry % 256 ≡ byte image (t + 1) = omega (arith, a', low) in
      let four : 4 * suc n ≡ suc (suc (suc (suc (4 * n)))) = omega arith in
      let ih = records-again n (t + 4) (λ i. f (suc i)) (omega arith) (λ i k. let e : t + 4 * suc i ≡ t + 4 + 4 * i = omega arith in subst (λ (p : ℕ). ((f (suc i)).entry ≡ word image p) × ((f (suc i)).params ≡ byte image (p + 2)) × ((f (suc i)).results ≡ byte image (p + 3))) e (h (suc i) (omega arith))) in
      rw (four, drop-four image t (omega arith), hi, lo, b', c', ih) refl

  module _ (at : ℕ) (m : Module) (S : Spelt (byte image at) at m) (R : Read image m) where
    abbrev procs : List Procedure
    procs = tabulate (proc_count m) (procedure_of image m)

    counted : eqb m.procs 0 ≡ false → proc_count m ≡ m.procs
    counted e = ap (λ (t : Bool). pick t 1 m.procs) e

    -- a field that stands where there are procedures other than the default one
    given-same : (x y : List ℕ) → (eqb m.procs 0 ≡ false → x ≡ y) → given (not (defaulted image m)) x ≡ given (not (defaulted image m)) y
    given-same x y h = go (eqb m.procs 0) refl
      where
        go : (t : Bool) → eqb m.procs 0 ≡ t → given (not (defaulted image m)) x ≡ given (not (defaulted image m)) y
        go true e = rw (no-records image m e) refl
        go false e = ap (given (not (defaulted image m))) (h e)

    given-count : given (not (defaulted image m)) (length procs ∷ []) ≡ given (not (defaulted image m)) (m.procs ∷ [])
    given-count = given-same (length procs ∷ []) (m.procs ∷ []) (λ e. ap (λ (n : ℕ). n ∷ []) (length-tabulate (proc_count m) (procedure_of image m) ∙ counted e))

    given-records : given (not (defaulted image m)) (records_bytes procs) ≡ given (not (defaulted image m)) (slice image m.table (4 * m.procs))
    given-records = given-same (records_bytes procs) (slice image m.table (4 * m.procs)) (λ e.
        ap (λ (n : ℕ). records_bytes (tabulate n (procedure_of image m))) (counted e)
        ∙ records-again m.procs m.table (procedure_of image m) (omega (arith, S.code, R.within)) (λ i l.
        (ap (λ (t : Bool). pick t 0 (word image (m.table + 4 * i))) e, ap (λ (t : Bool). pick t 0 (byte image (m.table + 4 * i + 2))) e, ap (λ (t : Bool). pick t 0 (byte image (m.table + 4 * i + 3))) e)))

    pub form-pieces : module_form (content_at image at m) ≡ module_bytes image at m
    unfolding spelled content_at
    form-pieces = rw (default-tabulate (proc_count m) (procedure_of image m), given-count, given-records, length-code image at m S R) refl

-- one module after another
pub modules-snoc : (n : ℕ) (f : ℕ → Content) → modules_form (tabulate (suc n) f) ≡ modules_form (tabulate n f) ++ module_form (f n)
unfolding tabulate
modules-snoc zero f = append-nil (module_form (f 0))
modules-snoc (suc n) f = ap (λ (x : List ℕ). module_form (f 0) ++ x) (modules-snoc n (λ i. f (suc i))) ∙ sym (append_assoc (module_form (f 0)) (modules_form (tabulate n (λ i. f (suc i)))) (module_form (f (suc n))))
