-- The test of a whole map is `map_fits`; the loop keeps that all before `at` fits.
use Rattle.std.proofs.Common.{sym, ◌∙◌, arith}
use Rattle.depths.proofs.Whole.{module-fails, module-passes, rest-decides}
use Rattle.depths.proofs.fits.map_fits.Goals as goal

pub returns-then-not-module_fits : goal.returns-then-not-module_fits
returns-then-not-module_fits c =
    let a = c.args in
    let l = c.loop-k in
    let e = rw (c.new.ensures.0, c.new.ensures.1) at c.module_fits.ensures in
    sym (module-fails a.image.now a.program.now a.map.now c.requires.told l.k l.at l.invariant c.loop-k-test.true (sym e ∙ c.if-not-module_fits.true))

pub loop-k-preserved : goal.loop-k-preserved
loop-k-preserved c =
    let a = c.args in
    let l = c.loop-k in
    let e = rw (c.new.ensures.0, c.new.ensures.1) at c.module_fits.ensures in
    module-passes a.image.now a.program.now a.map.now c.requires.told l.k l.at l.invariant c.loop-k-test.true (sym e ∙ c.if-not-module_fits.false)

pub returns : goal.returns
returns c =
    let a = c.args in
    let l = c.loop-k in
    rest-decides a.image.now a.program.now a.map.now c.requires.told l.k l.at l.invariant (omega (arith, l.invariant.count)) c.unmarked.result c.unmarked.ensures
