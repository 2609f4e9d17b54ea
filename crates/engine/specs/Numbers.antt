-- The six numbers of a module in the flat array, and when they are words. Assumes nothing.
use Rattle.std.specs.Prelude.{◌≡◌, ℕ, ◌≤◌, ◌<◌, List, [], ◌∷◌}
use Rattle.mcode.specs.Image.{most_modules, no_module, module_of}
use Rattle.mcode.specs.declared.Module.{Module}
use Rattle.mcode.specs.declared.Program.{Program}

-- in the order of actions' module_in
abbrev pub numbers_of : Module → List ℕ
numbers_of m = m.code ∷ m.length ∷ m.size ∷ m.base ∷ m.procs ∷ m.table ∷ []

pub record Words (m : Module) : Type 0 where
  pub code : m.code ≤ 65535
  pub base : m.base ≤ 65535
  pub table : m.table ≤ 65535

pub record Narrow (program : Program) : Type 0 where
  pub few : program.count ≤ most_modules
  pub words : (k : ℕ) → k < program.count → Words (module_of program k)
  pub blank : (k : ℕ) → program.count ≤ k → module_of program k ≡ no_module
