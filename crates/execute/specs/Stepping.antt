-- What a step asks of the place where the registers stand, and what a turn of the stepping loop leaves.
use Rattle.std.specs.Prelude.{Some, ◌≡◌, true, List, ℕ, ◌≤◌, ◌<◌, get_or, length, eqb}
use Rattle.mcode.specs.Word.{pick}
use Rattle.mcode.specs.Opcode.{lengths}
use Rattle.mcode.specs.Image.{parse}
use Rattle.mcode.specs.Layout.{Told}
use Rattle.mcode.specs.Depths.{front_of, names_module, entry, map_fits}
use Rattle.mcode.specs.Machine.{State, state}
use Rattle.mcode.specs.declared.Stop.TheVariants.{Spent}
use Rattle.mcode.specs.Step.{Lent, instruction_of}
use Rattle.actions.specs.declared.Core.{Core}
use Rattle.actions.specs.Core.{Left, left_by, operand_at, spent_op}
use Rattle.actions.specs.Table.{Tabled, Anchored}
use Rattle.control.specs.Table.{count_in, Mapped}
use Rattle.control.specs.Rows.{Controls}
use Rattle.execute.specs.declared.steps.Next.{Next}

abbrev pub opcode_at : List ℕ → Core → ℕ
opcode_at image r = get_or image r.pc 0

-- what the opcode op, listed or the spent one, asks where the registers stand, with a store of w words; 260 of the recorded front too, "which
-- must be at most 15"
pub record Asks (image table map : List ℕ) (w op : ℕ) (r : Core) : Type 0 where
  pub listed : (op ≡ spent_op → ⊥) → 1 ≤ get_or lengths op 0
  pub named : names_module op ≡ true → operand_at image r 1 < count_in table
  pub controls : Controls image table w op r
  pub mapped : Mapped table map
  pub here : r.pc < length map
  pub front : op ≡ 0o260 → front_of (entry map r.pc) ≤ 15
  pub anchored : Anchored table r

-- what was tested and made before the first step: the image was read, the map is as long and fits, the store has the words of the lines
-- (2i and 2i + 1, at most 31) and is not too long, and the lent numbers are the program's
pub record Prepared (image table map : List ℕ) (w : ℕ) : Type 0 where
  pub told : Told image (parse image).program
  pub covers : length image ≤ length map
  pub fits : map_fits image (parse image).program map ≡ true
  pub roomy : 32 ≤ w
  pub small : w ≤ 65535
  pub tabled : Tabled table (parse image).program

-- the opcode that a turn performs with a budget of n steps: the spent one where nothing is left
abbrev pub chosen_op : ℕ → ℕ → ℕ
chosen_op n op = pick (eqb n 0) spent_op op

-- "30 spent"; else a step of the definition
abbrev pub turned : Lent → ℕ → State → Left
turned lent n x = pick (eqb n 0) (record { stop = Some Spent; state = x }) (left_by x (instruction_of lent x))

-- what the step of a machine by value answered, with what it left behind its references
abbrev pub answered : Next → List ℕ → List ℕ → Left
answered q store out = record { stop = q.stop; state = state q.machine store out }
