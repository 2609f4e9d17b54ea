use mathlib.Core.Path.{◌≡◌}
use Prim.Native.Nat.{◌+◌}
use lib.ListN.{length, drop}
use Rattle.mcode.specs.Step.{written}
use Rattle.archive.proofs.writer.copy.Given as goal

abbrev pub invariant-loop-i : goal.invariant-loop-i
invariant-loop-i l = (length l.output ≡ length l.initial.output) × (written l.bytes l.at l.initial.output ≡ written (drop l.i l.bytes) (l.at + l.i) l.output)
