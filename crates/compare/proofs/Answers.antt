-- What first_difference answers, case by case, from the answers of the reader and of the comparison. Assumes nothing.
use Rattle.std.proofs.Common.{◌≡◌, refl, sym, ap, ◌∙◌, subst, ℕ, List, Bool, true, false, arith, Option, None, Some, Result, Ok, Err}
use Rattle.std.specs.Result.{result_ok}
use lib.Dec.{eqb}
use borrow.Author.Tests.{eq-eqb, ne_eqb}
use Rattle.mcode.specs.Word.{pick, and}
use Rattle.mcode.specs.Image.{Parsed, refused_by, parse}
use Rattle.mcode.specs.Layout.{Told}
use Rattle.mcode.specs.Answer.{refusal_number, parsed_of}
use Rattle.mcode.specs.declared.Program.{Program}
use Rattle.mcode.specs.declared.Refusal.{Refusal}
use Rattle.mcode.specs.declared.Refusal.TheVariants.{ImageSize, ModuleCount, ImageEnds, BytesAfter, BitMap, Field, MapShort, NoDepths, StoreSize, ChannelCount, NotAMachine, MapUnfit, NotWhole, OutputShort}
use Rattle.mcode.proofs.Reader.{told}
use Rattle.compare.specs.declared.Difference.{Difference}
use Rattle.compare.specs.Facts.{facts_of, facts, first_of, first_difference}
use Rattle.compare.specs.Compared.{Compared}

-- no refusal has the number 0
refusal-some : (k : Refusal) → refusal_number k ≡ 0 → ⊥
refusal-some ImageSize e = omega (arith, e)
refusal-some ModuleCount e = omega (arith, e)
refusal-some ImageEnds e = omega (arith, e)
refusal-some BytesAfter e = omega (arith, e)
refusal-some BitMap e = omega (arith, e)
refusal-some Field e = omega (arith, e)
refusal-some MapShort e = omega (arith, e)
refusal-some NoDepths e = omega (arith, e)
refusal-some StoreSize e = omega (arith, e)
refusal-some ChannelCount e = omega (arith, e)
refusal-some NotAMachine e = omega (arith, e)
refusal-some MapUnfit e = omega (arith, e)
refusal-some (NotWhole unit pc) e = omega (arith, e)
refusal-some OutputShort e = omega (arith, e)

-- the reader's answer
module _ (image : List ℕ) (r : Result Program Refusal) (e : parsed_of r ≡ parse image) where
  refused : result_ok r ≡ None → eqb (parse image).refusal 0 ≡ false
  unfolding refused_by
  refused n = by r e n
    where
      by : (r : Result Program Refusal) → parsed_of r ≡ parse image → result_ok r ≡ None → eqb (parse image).refusal 0 ≡ false
      by (Ok p) e n = absurd cc
      by (Err k) e n = ne_eqb _ 0 (λ z. refusal-some k (ap (λ (p : Parsed). p.refusal) e ∙ z))

  read : (p : Program) → result_ok r ≡ Some p → parse image ≡ record { refusal = 0; program = p }
  read p s = by r e s
    where
      by : (r : Result Program Refusal) → parsed_of r ≡ parse image → result_ok r ≡ Some p → parse image ≡ record { refusal = 0; program = p }
      by (Ok q) e s = let h : q ≡ p = cc in sym e ∙ ap (λ (p : Program). record { refusal = 0; program = p }) h
      by (Err k) e s = absurd cc

  pub told-so : (p : Program) → result_ok r ≡ Some p → Told image p
  told-so p s = let h = read p s in subst (λ (p : Parsed). Told image p.program) h (told image (ap (λ (p : Parsed). p.refusal) h))

module _ (image image' : List ℕ) where
  -- where both are read
  pub compared-read : (parse image).refusal ≡ 0 → (parse image').refusal ≡ 0 → first_difference image image' ≡ first_of (facts image) (facts image')
  unfolding first_difference
  compared-read z z' = rw (eq-eqb (parse image).refusal 0 z, eq-eqb (parse image').refusal 0 z') refl

  module _ (r : Result Program Refusal) (e : parsed_of r ≡ parse image) where
    pub refused-first : result_ok r ≡ None → None ≡ first_difference image image'
    unfolding first_difference
    refused-first n = rw (refused image r e n) refl

    module _ (r' : Result Program Refusal) (e' : parsed_of r' ≡ parse image') where
      pub refused-second : result_ok r' ≡ None → None ≡ first_difference image image'
      unfolding first_difference
      refused-second n = by (eqb (parse image).refusal 0)
        where
          by : (b : Bool) → None ≡ pick (and b (eqb (parse image').refusal 0)) (first_of (facts image) (facts image')) None
          by true = rw (refused image' r' e' n) refl
          by false = refl

      pub compared-so : (p p' : Program) → result_ok r ≡ Some p → result_ok r' ≡ Some p' → (d : Option Difference) → Compared (facts_of image p) (facts_of image' p') d
          → d ≡ first_difference image image'
      compared-so p p' s s' d C =
          let h = read image r e p s in
          let h' = read image' r' e' p' s' in
          C.first
          ∙ ap (λ (x : Parsed). first_of (facts_of image x.program) (facts_of image' p')) (sym h)
          ∙ ap (λ (x : Parsed). first_of (facts image) (facts_of image' x.program)) (sym h')
          ∙ sym (compared-read (ap (λ (x : Parsed). x.refusal) h) (ap (λ (x : Parsed). x.refusal) h'))
