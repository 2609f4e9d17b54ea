-- The test of the entries; the loop keeps that those before i fit.
use Rattle.std.proofs.Common.{ℕ, eqb, get_or, sym, ◌∙◌, ap₂, arith}
use Rattle.mcode.specs.Image.{proc_count}
use Rattle.mcode.proofs.Tests.{at_all}
use Rattle.depths.specs.Test.{entry_fits}
use Rattle.depths.proofs.Bools.{one-fails}
use Rattle.mcode.specs.Depths.{unmarked as none}
use Rattle.depths.proofs.fits.entries_fit.Goals as goal

pub returns-then-not-has_mark : goal.returns-then-not-has_mark
returns-then-not-has_mark c =
    let k = c.args.code.now in
    let map = c.args.map.now in
    let e = ap₂ (λ (q d : ℕ). eqb (get_or map q none) d) (sym c.entry_of-q.ensures) (sym c.entry_mark-d.ensures) ∙ sym c.has_mark.ensures in
    sym (one-fails (proc_count k.m) (entry_fits k.image.now k.m map) c.loop-i.i (omega (arith, c.proc_count-n.ensures.0)) (e ∙ c.if-not-has_mark.true))

pub returns : goal.returns
returns c =
    let k = c.args.code.now in
    sym (at_all (proc_count k.m) (entry_fits k.image.now k.m c.args.map.now) (λ j l. c.loop-i.invariant j (omega (arith, c.proc_count-n.ensures.0))))
