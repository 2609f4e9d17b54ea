-- An instruction as text: its name, and its operands in decimal, each behind a blank.
use Rattle.std.specs.Prelude.{ℕ, ◌-◌, ◌<◌, ◌≡◌, ◌≢◌, List, [], ◌∷◌, ◌++◌, length, replicate, slice_index, get_or, Option, unwrap_or}
use Rattle.std.specs.Fmt.{decimal}
use Rattle.mcode.specs.Word.{word_of}
use Rattle.listing.specs.Mnemonics.{name_of}
use Rattle.listing.specs.Shape.{operand_of}
use Rattle.listing.specs.declared.instruction.Instruction.{Instruction}
use Rattle.listing.specs.declared.instruction.Operand.{Operand}
use Rattle.listing.specs.declared.instruction.Operand.TheVariants.{Nothing, Byte, Word, Double, Jump, Global, Call, FarCall}

-- the operands that are shown: the high word first; a jump shows the position that it goes to
abbrev pub operands : Operand → List ℕ → Option ℕ → List ℕ
operands Nothing bytes target = []
operands Byte bytes target = get_or bytes 0 0 ∷ []
operands Word bytes target = word_of (get_or bytes 0 0) (get_or bytes 1 0) ∷ []
operands Double bytes target = word_of (get_or bytes 0 0) (get_or bytes 1 0) ∷ word_of (get_or bytes 2 0) (get_or bytes 3 0) ∷ []
operands Jump bytes target = unwrap_or target 0 ∷ []
operands Global bytes target = get_or bytes 0 0 ∷ get_or bytes 1 0 ∷ []
operands Call bytes target = get_or bytes 0 0 ∷ []
operands FarCall bytes target = get_or bytes 0 0 ∷ get_or bytes 1 0 ∷ []

abbrev pub operands_text : List ℕ → List ℕ
operands_text [] = []
operands_text (n ∷ ns) = 32 ∷ (decimal n ++ operands_text ns)

-- text shows the instruction i: first its name, which is its row without the blanks at the end
pub record Shows (i : Instruction) (text : List ℕ) : Type 0 where
  pub name : List ℕ
  pub row : name ++ replicate (5 - length name) 32 ≡ name_of i.op
  pub letter : 0 < length name → slice_index name (length name - 1) ≢ 32
  pub whole : text ≡ name ++ operands_text (operands (operand_of i.op) i.operands i.target)
