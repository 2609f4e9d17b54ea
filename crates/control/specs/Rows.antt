-- What the rows of calls and returns ask, of an instruction that a machine stands at and a fitting map marks.
use Rattle.std.specs.Prelude.{◌≡◌, ◌⊎◌, List, ℕ, ◌+◌, ◌-◌, ◌≤◌, ◌<◌, get_or, length}
use Rattle.mcode.specs.Opcode.{lengths}
use Rattle.mcode.specs.Image.{proc_count}
use Rattle.actions.specs.declared.Core.{Core}
use Rattle.actions.specs.Core.{operand_at}
use Rattle.actions.specs.Table.{module_in, Ready}
use Rattle.control.specs.Table.{count_in, Entered}
use Rattle.control.specs.Frames.{Framed}

-- far, near and fixed: "Module and procedure operands must exist"; inside: the instruction lies in a code of at most 32,767 bytes
pub record Controls (image table : List ℕ) (w op : ℕ) (r : Core) : Type 0 where
  pub ready : Ready op r (length image)
  pub framed : Framed table w r
  pub entered : Entered image table
  pub far : op ≡ 0o355 → (operand_at image r 1 < count_in table) × (operand_at image r 2 < proc_count (module_in table (operand_at image r 1)))
  pub near : (op ≡ 0o356) ⊎ (op ≡ 0o360) → operand_at image r 1 < proc_count (module_in table r.unit)
  pub fixed : 0o361 ≤ op → op - 0o360 < proc_count (module_in table r.unit)
  pub inside : r.pc - r.start + get_or lengths op 0 ≤ 32767
