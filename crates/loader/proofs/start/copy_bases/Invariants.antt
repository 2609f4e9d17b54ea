use mathlib.Core.Path.{◌≡◌}
use Prim.Native.Nat.{◌+◌}
use lib.ListN.{take, drop}
use Rattle.mcode.specs.Image.{bases_of}
use Rattle.mcode.specs.Step.{written}
use Rattle.loader.proofs.start.copy_bases.Given as goal

abbrev pub invariant-loop-k : goal.invariant-loop-k
invariant-loop-k l =
    let bases = take l.program.count (bases_of l.program) in
    written bases 32 l.initial.store ≡ written (drop l.k bases) (32 + l.k) l.store
