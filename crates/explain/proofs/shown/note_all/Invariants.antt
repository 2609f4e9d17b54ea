use Rattle.explain.proofs.Notes.{Begun}
use Rattle.explain.proofs.shown.note_all.Given as goal

abbrev pub invariant-loop-p : goal.invariant-loop-p
invariant-loop-p l = Begun l.code.image.now l.program l.code.m l.map l.notes l.p
