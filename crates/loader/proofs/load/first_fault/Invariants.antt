use Prim.Native.Nat.{ℕ, ◌<◌}
use Rattle.mcode.specs.Image.{module_of}
use Rattle.mcode.specs.Depths.{KeptPast}
use Rattle.mcode.specs.Walk.{Whole}
use Rattle.loader.proofs.load.first_fault.Given as goal

abbrev pub invariant-loop-k : goal.invariant-loop-k
invariant-loop-k l = record {
  whole : (j : ℕ) → j < l.k → Whole l.read.image.now l.read.program.now (module_of l.read.program.now j);
  kept : KeptPast l.read.image.now l.fn.map l.map;
}
