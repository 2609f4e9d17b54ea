-- What the rules ask of the modules that a code may name.
use Rattle.std.specs.Prelude.{ℕ, ◌<◌, ◌≤◌, List, length}
use Rattle.mcode.specs.Image.{most_modules, module_of, proc_count, results_of}
use Rattle.mcode.specs.declared.Program.{Program}

-- their procedure records lie in an image that was read
pub record Placed (image : List ℕ) (program : Program) : Type 0 where
  pub brief : length image ≤ 65535
  pub small : program.count ≤ most_modules
  pub near : (k : ℕ) → k < program.count → (module_of program k).table ≤ 65535
  pub results : (k : ℕ) → k < program.count → (i : ℕ) → i < proc_count (module_of program k) → results_of image (module_of program k) i ≤ 4
