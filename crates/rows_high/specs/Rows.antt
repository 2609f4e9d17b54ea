-- What the rows ask that read nothing of the image.
use Rattle.std.specs.Prelude.{ℕ, ◌+◌, ◌≤◌, get_or}
use Rattle.mcode.specs.Opcode.{takens, lefts}
use Rattle.actions.specs.declared.Core.{Core}

-- the stack fits an opcode as its row of the table says, and the place is in the code: part of Ready
pub record Stacked (op : ℕ) (r : Core) : Type 0 where
  pub deep : get_or takens op 0 ≤ r.depth
  pub room : r.depth + get_or lefts op 0 ≤ 16 + get_or takens op 0
  pub most : r.depth ≤ 16
  pub own : r.start ≤ r.pc
  pub near : r.pc ≤ 65535
