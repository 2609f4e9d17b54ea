use mathlib.Core.Path.{◌≡◌}
use mathlib.Core.Bool.{true}
use Prim.Native.Nat.{ℕ, ◌<◌}
use Rattle.mcode.specs.Depths.{Marked}
use Rattle.mcode.specs.Walk.{whole_at}
use Rattle.walk.specs.Set.{walk_of}
use Rattle.walk.proofs.lowest.Given as goal

abbrev pub invariant-loop-p : goal.invariant-loop-p
invariant-loop-p l = (q : ℕ) → q < l.p → Marked (walk_of l.code) l.map q → whole_at l.code.image.now l.program l.code.m q ≡ true
