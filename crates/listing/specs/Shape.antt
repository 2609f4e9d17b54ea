-- An instruction as a listing shows it, by the definitions of the opcode table, the code's bytes and the jump's target.
use Rattle.std.specs.Prelude.{ℕ, ◌+◌, ◌<◌, ◌≡◌, Bool, List, [], ◌∷◌, eqb, ltb, get_or, Option, Some, None}
use Rattle.mcode.specs.Word.{pick, or}
use Rattle.mcode.specs.Opcode.{lengths}
use Rattle.mcode.specs.Image.{code_byte, entry_of, params_of, results_of}
use Rattle.mcode.specs.Depths.{names_module, target}
use Rattle.mcode.specs.declared.Module.{Module}
use Rattle.depths.specs.Cases.{jumping}
use Rattle.listing.specs.declared.instruction.Instruction.{Instruction}
use Rattle.listing.specs.declared.instruction.Operand.{Operand}
use Rattle.listing.specs.declared.instruction.Operand.TheVariants.{Nothing, Byte, Word, Double, Jump, Global, Call, FarCall}
use Rattle.listing.specs.declared.procedure.Procedure.{Procedure}

-- "356 n", "360 n"
abbrev pub is_call : ℕ → Bool
is_call op = or (eqb op 0o356) (eqb op 0o360)

unfoldable pub operand_of : ℕ → Operand
operand_of op =
    pick (jumping op) Jump
    (pick (names_module op) Global
    (pick (eqb op 0o355) FarCall
    (pick (is_call op) Call
    (pick (eqb (get_or lengths op 0) 5) Double
    (pick (eqb (get_or lengths op 0) 3) Word
    (pick (eqb (get_or lengths op 0) 2) Byte
    Nothing))))))

-- how many bytes the operands have; a jump's have as many as its row says
abbrev pub bytes_of : ℕ → Operand → ℕ
bytes_of op Nothing = 0
bytes_of op Byte = 1
bytes_of op Word = 2
bytes_of op Double = 4
bytes_of op Jump = pick (ltb op 0o32) 2 1
bytes_of op Global = 2
bytes_of op Call = 1
bytes_of op FarCall = 2

-- a listed opcode and its operands have the length that the table says
unfoldable pub OperandsAgree : Type 0
OperandsAgree = (op : ℕ) → op < 256 → 0 < get_or lengths op 0 → get_or lengths op 0 ≡ 1 + bytes_of op (operand_of op)

-- the position that a jump goes to
abbrev pub target_of : ℕ → ℕ → ℕ → ℕ → Option ℕ
target_of op s b c = pick (jumping op) (Some (target op s b c)) None

-- the size of an instruction at p; none where it is not listed, or would end past the code
abbrev pub fitting : ℕ → ℕ → ℕ → Option ℕ
fitting size p length = pick (or (eqb size 0) (ltb length (p + size))) None (Some size)

unfoldable pub instruction_at : List ℕ → Module → ℕ → Instruction
instruction_at image m p = record {
  op = code_byte image m p;
  size = fitting (get_or lengths (code_byte image m p) 0) p m.length;
  operands = code_byte image m (p + 1) ∷ code_byte image m (p + 2) ∷ code_byte image m (p + 3) ∷ code_byte image m (p + 4) ∷ [];
  target = target_of (code_byte image m p) (p + 1) (code_byte image m (p + 1)) (code_byte image m (p + 2));
}

unfoldable pub procedure_of : List ℕ → Module → ℕ → Procedure
procedure_of image m i = record { entry = entry_of image m i; params = params_of image m i; results = results_of image m i }
