-- The numbers of the program as they are lent to a step, and what a step asks of them and of its registers.
use Rattle.std.specs.Prelude.{◌≡◌, ℕ, ◌+◌, ◌*◌, ◌<◌, ◌≤◌, List, slice_index, slice_index_or}
use Rattle.mcode.specs.Image.{most_modules, module_of}
use Rattle.mcode.specs.Opcode.{lengths, takens, lefts}
use Rattle.mcode.specs.Step.{Lent}
use Rattle.mcode.specs.declared.Module.{Module}
use Rattle.mcode.specs.declared.Program.{Program}
use Rattle.actions.specs.declared.Core.{Core}

-- the numbers of the program, lent: the count, then six a module
abbrev pub table_words : ℕ
table_words = 6 * most_modules + 1

abbrev pub module_in : List ℕ → ℕ → Module
module_in table k = record {
  code = slice_index table (6 * k + 1);
  length = slice_index table (6 * k + 2);
  size = slice_index table (6 * k + 3);
  base = slice_index table (6 * k + 4);
  procs = slice_index table (6 * k + 5);
  table = slice_index table (6 * k + 6);
}

pub record Tabled (table : List ℕ) (program : Program) : Type 0 where
  pub count : program.count ≡ slice_index table 0
  pub few : program.count ≤ most_modules
  pub modules : (k : ℕ) → k < most_modules → module_of program k ≡ module_in table k

-- the module's own numbers are in the registers, and the place is in its code
pub record Anchored (table : List ℕ) (r : Core) : Type 0 where
  pub few : r.unit < most_modules
  pub start : r.start ≡ (module_in table r.unit).code
  pub g : r.g.0 ≡ (module_in table r.unit).base
  pub own : r.start ≤ r.pc

-- the bases that the instructions use are those of the registers and the table
pub record Based (table : List ℕ) (r : Core) (bases : List ℕ) : Type 0 where
  pub own : slice_index_or bases r.unit 0 ≡ r.g.0
  pub named : (k : ℕ) → k < most_modules → slice_index bases k ≡ slice_index table (6 * k + 4)

-- the definition's lent things are those behind the references
pub record Lends (bytes numbers marks words : List ℕ) (lent : Lent) : Type 0 where
  pub image : lent.image ≡ bytes
  pub tabled : Tabled numbers lent.program
  pub map : lent.map ≡ marks
  pub inputs : lent.inputs ≡ words

-- what an instruction asks that takes t words, leaves l and is s bytes long, in an image of n bytes
pub record Needs (t l s : ℕ) (r : Core) (n : ℕ) : Type 0 where
  pub deep : t ≤ r.depth
  pub room : r.depth + l ≤ 16 + t
  pub most : r.depth ≤ 16
  pub bytes : r.pc + s ≤ n
  pub own : r.start ≤ r.pc
  pub near : r.pc ≤ 65535

-- the same as the opcode's row of the table says it
abbrev pub Ready : ℕ → Core → ℕ → Type 0
Ready op r n = Needs (slice_index takens op) (slice_index lefts op) (slice_index lengths op) r n
