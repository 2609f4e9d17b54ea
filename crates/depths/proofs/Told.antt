-- The modules of a program that was read may be named.
use Rattle.std.proofs.Common.{List, ℕ}
use Rattle.mcode.specs.declared.Program.{Program}
use Rattle.mcode.specs.Layout.{Told}
use Rattle.depths.specs.Placed.{Placed}

pub placed : (image : List ℕ) (program : Program) → Told image program → Placed image program
placed image program T = record {
  brief = T.brief;
  small = T.small;
  near = λ k l. (T.laid.sound k l).near;
  results = λ k l. (T.laid.sound k l).results;
}
