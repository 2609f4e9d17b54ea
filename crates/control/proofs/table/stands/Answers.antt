-- A position of a loaded module stands in its code, and its mark has the depth.
use mathlib.Core.Path.{refl}
use Rattle.mcode.specs.Depths.{marked}
use native.Mathlib.Omega.{arith}
use borrow.Author.Tests.{le-leb, lt-ltb, le-ltb}
use Rattle.control.proofs.table.stands.Goals as goal

pub returns-then-table-k : goal.returns-then-table-k
returns-then-table-k c = rw (le-ltb _ _ c.if-table-k.true) refl

pub returns-then-number-at : goal.returns-then-number-at
unfolding marked
returns-then-number-at c = rw (lt-ltb _ _ c.if-table-k.false, ← c.number.ensures, le-ltb _ _ c.if-number-at.true) refl

pub bounds-map-i : goal.bounds-map-i
bounds-map-i c = let m = c.requires.mapped.marks _ c.if-table-k.false in omega (arith, m, c.number.ensures, c.number-2.ensures, c.if-number-at.false)

pub returns : goal.returns
unfolding marked
returns c = rw (lt-ltb _ _ c.if-table-k.false, ← c.number.ensures, lt-ltb _ _ c.if-number-at.false, ← c.number-2.ensures, le-leb _ _ c.requires.depth_bound, c.depth_of.ensures) refl
