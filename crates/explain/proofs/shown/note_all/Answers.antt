-- The loop keeps that the positions before p are shown.
use Rattle.explain.proofs.Notes.{one_more}
use native.Mathlib.Omega.{arith}
use Rattle.explain.proofs.shown.note_all.Goals as goal

pub loop-p-preserved : goal.loop-p-preserved
loop-p-preserved c = one_more c.args.code.now.image.now c.args.program.now c.args.code.now.m c.args.seen.now c.requires.fewest c.loop-p.map c.loop-p.notes c.loop-p.p c.loop-p.invariant (omega (arith, c.requires.fewest.fits.sized)) _ _ c.note_at.ensures
