-- What start's answer is in the definition's terms, and what copying the bases asks. Assumes nothing.
use Rattle.std.specs.Prelude.{◌≡◌, ℕ, ◌+◌, ◌-◌, ◌≤◌, ◌<◌, List, length, Result, Ok, Err}
use Rattle.mcode.specs.Image.{most_modules, base_copy, margin, module_of}
use Rattle.mcode.specs.Answer.{refusal_number}
use Rattle.mcode.specs.Machine.{address, position, zero_machine}
use Rattle.mcode.specs.Run as Run
use Rattle.mcode.specs.declared.Registers.{Registers}
use Rattle.mcode.specs.declared.Machine.{Machine}
use Rattle.mcode.specs.declared.Program.{Program}
use Rattle.mcode.specs.declared.Refusal.{Refusal}

-- "a refused start returns a machine of zeros"
abbrev pub begun : Result Machine Refusal → List ℕ → Run.Started
begun (Ok machine) store = record { number = 0; machine = machine; store = store }
begun (Err k) store = record { number = refusal_number k; machine = zero_machine; store = store }

-- the copies of the bases lie in a store of w words, and the bases are words
pub record Roomy (program : Program) (w : ℕ) : Type 0 where
  pub table : length program.modules ≡ most_modules
  pub few : program.count ≤ most_modules
  pub fit : base_copy + program.count ≤ w
  pub words : (k : ℕ) → k < program.count → (module_of program k).base ≤ 65535

-- "P = Z; L = Z + 8; S = Z + 12; limit H = W - 24; mask M = 0"
abbrev pub registers_at : ℕ → ℕ → ℕ → Registers
registers_at entry end w = record {
  unit = 0;
  pc = position entry;
  l = address (end + 8);
  s = address (end + 12);
  h = address (w - margin);
  p = address end;
  mask = 0;
  depth = 0;
}
