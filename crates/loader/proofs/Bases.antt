-- Copying the bases to the store, one after another, is `written`. Assumes nothing.
use mathlib.Core.Path.{◌≡◌, ◌∙◌}
use Prim.Native.Nat.{ℕ, ◌<◌}
use native.Mathlib.Omega.{arith}
use lib.ListN.{length, get_or, take, length-map, get_or-map}
use lib.Seq.{get_or-take, length-take-le}
use Rattle.mcode.specs.Image.{most_modules, bases_of, module_of, no_module}
use Rattle.mcode.specs.declared.Module.{Module}
use Rattle.mcode.specs.declared.Program.{Program}
use Rattle.loader.specs.Begin.{Roomy}

module _ (program : Program) (w : ℕ) (R : Roomy program w) where
  pub bases-long : length (take program.count (bases_of program)) ≡ program.count
  bases-long =
      let l : length (bases_of program) ≡ most_modules = length-map program.modules (λ (m : Module). m.base) ∙ R.table in
      length-take-le program.count (bases_of program) (omega (arith, l, R.few))

  pub base-at : (k : ℕ) → k < program.count → get_or (take program.count (bases_of program)) k 0 ≡ (module_of program k).base
  base-at k h = get_or-take program.count (bases_of program) k 0 h ∙ get_or-map (λ (m : Module). m.base) program.modules k no_module
