-- The mnemonics and the kinds of operands agree with the opcode table: each rule is one test that antt computes over all 256 rows.
-- Assumes nothing.
use mathlib.Core.Path.{◌≡◌, refl}
use mathlib.Core.Bool.{Bool, true, false}
use Prim.Native.Nat.{ℕ, ◌+◌, ◌*◌, ◌<◌}
use lib.Dec.{T, eqb, eqb→eq}
use lib.ListN.{get_or}
use borrow.Author.Tests.{ne_eqb}
use native.Mathlib.Omega.{arith}
use Rattle.mcode.proofs.Every.{at}
use Rattle.mcode.specs.Word.{or}
use Rattle.mcode.specs.Opcode.{lengths}
use Rattle.listing.specs.Mnemonics.{letters, letter, nameless, NamesAgree}
use Rattle.listing.specs.Shape.{operand_of, bytes_of, OperandsAgree}

alike : Bool → Bool → Bool
alike true b = b
alike false true = false
alike false false = true

same : (a b : Bool) → T (alike a b) → a ≡ b
unfolding alike
same true true t = refl
same true false t = absurd t
same false true t = absurd t
same false false t = refl

begins-test : ℕ → ℕ → Bool
begins-test op size = alike (eqb (letter (5 * op)) 32) (eqb size 0)

none-test : ℕ → ℕ → Bool
none-test op size = alike (nameless op) (eqb size 0)

pub names-agree : NamesAgree
unfolding NamesAgree lengths letters begins-test none-test alike
names-agree op h = record {
  begins = same _ _ (at begins-test lengths tt op h);
  none = same _ _ (at none-test lengths tt op h);
}

-- a test of the rows with a length
used : (n : ℕ) (t : Bool) → 0 < n → T (or (eqb n 0) t) → T t
used n t h e = rw (ne_eqb n 0 (λ z. omega arith)) at e

operand-test : ℕ → ℕ → Bool
operand-test op size = or (eqb size 0) (eqb size (1 + bytes_of op (operand_of op)))

pub operands-agree : OperandsAgree
unfolding OperandsAgree lengths operand-test operand_of
operands-agree op h l = eqb→eq (get_or lengths op 0) _ (used (get_or lengths op 0) _ l (at operand-test lengths tt op h))
