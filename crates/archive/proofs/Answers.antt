-- What archive answers, case by case, from the answers of the reader and of load. Assumes nothing.
use Rattle.std.proofs.Common.{Ok, Err}
use mathlib.Core.Path.{◌≡◌, refl, sym, ap, subst}
use mathlib.Core.Bool.{Bool, true, false}
use mathlib.Core.List.{List, ◌++◌}
use Prim.Native.Nat.{ℕ, ◌≤◌, ◌<◌}
use native.Mathlib.Omega.{arith}
use lib.ListN.{length, drop}
use lib.Dec.{ltb, leb}
use borrow.Author.Tests.{le-leb, leb-false, lt-ltb, le-ltb}
use Rattle.mcode.specs.Word.{pick}
use Rattle.mcode.specs.Image.{Parsed, parse}
use Rattle.mcode.specs.Run.{verdict, Loads}
use Rattle.mcode.specs.Answer.{refusal_number, refusal_verdict, parsed_of, delivered_of}
use Rattle.mcode.specs.Archive.{contents_of, contents, form, Delivery, delivery, withheld, deliver, Archives}
use Rattle.mcode.specs.declared.Program.{Program}
use Rattle.mcode.specs.declared.Refusal.{Refusal}
use Rattle.mcode.specs.declared.Refusal.TheVariants.{ImageSize, ModuleCount, ImageEnds, BytesAfter, BitMap, Field, MapShort, NoDepths, StoreSize, ChannelCount, NotAMachine, MapUnfit, NotWhole, OutputShort}
use Rattle.mcode.proofs.Load.{passed}
use Rattle.mcode.proofs.Reader.{told}
use Rattle.mcode.proofs.FormOf.{form-short}
use Rattle.loader.proofs.Early.{numbered}

number-is : (k : Refusal) → (refusal_verdict k).number ≡ refusal_number k
number-is ImageSize = refl
number-is ModuleCount = refl
number-is ImageEnds = refl
number-is BytesAfter = refl
number-is BitMap = refl
number-is Field = refl
number-is MapShort = refl
number-is NoDepths = refl
number-is StoreSize = refl
number-is ChannelCount = refl
number-is NotAMachine = refl
number-is MapUnfit = refl
number-is (NotWhole unit pc) = refl
number-is OutputShort = refl

module _ (image before after output : List ℕ) where
  -- load's refusals
  pub refused-so : (k : Refusal) → Loads image before (refusal_verdict k) after → Archives image before output after (delivery (delivered_of (Err k)) output)
  refused-so k L = (refusal_verdict k, L, rw (number-is k, le-leb 1 (refusal_number k) (numbered k)) refl)

  module _ (program : Program) (e : parsed_of (Ok program) ≡ parse image) (L : Loads image before (verdict 0) after) where
    abbrev bytes : List ℕ
    bytes = form (contents_of image program)

    bytes-are : bytes ≡ form (contents image)
    unfolding contents
    bytes-are = ap (λ (p : Parsed). form (contents_of image p.program)) e

    pub short-so : (n : ℕ) → n ≡ length bytes → length output < n → Archives image before output after (delivery (delivered_of (Err OutputShort)) output)
    unfolding deliver
    short-so n f h = (verdict 0, L, rw (sym bytes-are, sym f, lt-ltb (length output) n h) refl)

    pub whole-so : (n : ℕ) → n ≡ length bytes → n ≤ length output → (u : List ℕ) → u ≡ bytes ++ drop (length bytes) output → Archives image before output after (delivery (delivered_of (Ok n)) u)
    unfolding deliver
    whole-so n f h u g = (verdict 0, L, rw (sym bytes-are, g, sym f, le-ltb (length output) n h) refl)

-- the length that is answered is an image's
pub answer-short : (image before output after : List ℕ) (d : Delivery) → Archives image before output after d → d.answer.length ≤ 65535
unfolding deliver
answer-short image before output after d (v, L, e) = subst (λ (x : Delivery). x.answer.length ≤ 65535) (sym e) (by (leb 1 v.number) refl)
  where
    written : (r : (parse image).refusal ≡ 0) (u : Bool)
        → (pick u (withheld 14 output) (delivery (record { number = 0; length = length (form (contents image)) }) (form (contents image) ++ drop (length (form (contents image))) output))).answer.length ≤ 65535
    written r true = omega arith
    written r false = omega (arith, form-short image r, (told image r).brief)

    by : (t : Bool) → leb 1 v.number ≡ t → (pick t (withheld v.number output) (deliver (form (contents image)) output)).answer.length ≤ 65535
    by true p = omega arith
    by false p = written (passed image before after v L (omega (arith, leb-false 1 v.number p))).parsed (ltb (length output) (length (form (contents image))))
