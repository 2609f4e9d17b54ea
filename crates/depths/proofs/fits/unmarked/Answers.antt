-- The test of a gap; the loop keeps that all before i is clear.
use Rattle.std.proofs.Common.{sym, refl, arith, le-ltb, ne_eqb}
use Rattle.mcode.proofs.Tests.{at_all}
use Rattle.depths.specs.Test.{clear}
use Rattle.depths.proofs.Bools.{one-fails}
use Rattle.depths.proofs.fits.unmarked.Goals as goal

pub returns-then-map-i : goal.returns-then-map-i
returns-then-map-i c =
    let a = c.args in
    sym (one-fails a.to (clear a.map.now a.from) c.loop-i.i c.loop-i-test.true (rw (le-ltb _ _ c.loop-i.auto.i, ne_eqb _ _ c.if-map-i.true) refl))

pub returns : goal.returns
returns c = sym (at_all c.args.to (clear c.args.map.now c.args.from) (λ j l. c.loop-i.invariant j (omega arith)))
