-- The words of the causes of refusal 13. Assumes nothing.
use Rattle.std.specs.Prelude.{ℕ, List, codes}
use Rattle.mcode.specs.declared.Cause.{Cause}
use Rattle.mcode.specs.declared.Cause.TheVariants.{Opcode, Operands, Name, Successor}

abbrev pub cause_words : Cause → List ℕ
cause_words Opcode = codes "unlisted opcode"
cause_words Operands = codes "operands outside the code"
cause_words Name = codes "no such module or procedure"
cause_words Successor = codes "successor outside the code"
