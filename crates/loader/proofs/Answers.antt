-- What load answers, case by case, from the result of the reader.
use mathlib.Core.Path.{◌≡◌, refl, sym, ap, subst}
use mathlib.Core.List.{List}
use Prim.Native.Nat.{ℕ}
use lib.Dec.{leb}
use native.Mathlib.Omega.{arith}
use borrow.Author.Tests.{le-leb}
use Rattle.std.proofs.Common.{Ok, Err}
use Rattle.mcode.specs.declared.Program.{Program}
use Rattle.mcode.specs.declared.Refusal.{Refusal}
use Rattle.mcode.specs.Word.{pick}
use Rattle.mcode.specs.Image.{Parsed, refused_by, parse}
use Rattle.mcode.specs.Run.{Verdict, verdict, Loads}
use Rattle.mcode.specs.Answer.{refusal_number, refusal_verdict, parsed_of}
use Rattle.loader.specs.Load.{LoadsProgram}
use Rattle.loader.proofs.Early.{early, numbered, placeless}

-- the number of a refused image, which is not 0
pub refused-as : (image : List ℕ) (k : Refusal) → parsed_of (Err k) ≡ parse image → (parse image).refusal ≡ refusal_number k
unfolding refused_by
refused-as image k e = sym (ap (λ (p : Parsed). p.refusal) e)

pub refused-some : (image : List ℕ) (k : Refusal) → parsed_of (Err k) ≡ parse image → (parse image).refusal ≡ 0 → ⊥
refused-some image k e z = omega (arith, z, refused-as image k e, numbered k)

module _ (image before : List ℕ) where
  pub refused-so : (k : Refusal) → parsed_of (Err k) ≡ parse image → Loads image before (refusal_verdict k) before
  refused-so k e =
      let n = refused-as image k e in
      rw (n, le-leb 1 (refusal_number k) (numbered k)) (placeless k (omega (arith, early image, n)), refl)

  -- an image that is read, from what is said of its program
  pub read-so : (program : Program) → parsed_of (Ok program) ≡ parse image → (v : Verdict) (after : List ℕ) → LoadsProgram image program before v after → Loads image before v after
  read-so program e v after L =
      subst (λ (p : Parsed). pick (leb 1 p.refusal) ((v ≡ verdict p.refusal) × (after ≡ before)) (LoadsProgram image p.program before v after)) e L
