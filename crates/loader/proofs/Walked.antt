-- The walk of all modules: the first module at fault decides.
use mathlib.Core.Path.{refl}
use mathlib.Core.Logic.{inl}
use mathlib.Core.List.{List}
use Prim.Native.Nat.{ℕ, ◌<◌}
use Rattle.mcode.specs.declared.Program.{Program}
use Rattle.mcode.specs.Image.{module_of}
use Rattle.mcode.specs.Walk.{Whole}
use Rattle.mcode.specs.Run.{fault_at}
use Rattle.std.proofs.Common.{Some}
use Rattle.walk.specs.Set.{Scanned}
use Rattle.loader.specs.Load.{Walked}

module _ (image : List ℕ) (program : Program) (k : ℕ) (loaded : k < program.count) where
  pub broken-so : ((j : ℕ) → j < k → Whole image program (module_of program j)) → (p : ℕ) → Scanned image program (module_of program k) (Some p)
      → Walked image program (fault_at k p)
  broken-so first p S = inl (refl, record { loaded = loaded; reached = S.0; fault = S.1; first = first; lowest = S.2 })
