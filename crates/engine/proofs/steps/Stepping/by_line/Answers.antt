use mathlib.Core.Path.{refl}
use Rattle.std.proofs.lemmas.Result.{err_from_is_err_and}
use Rattle.execute.proofs.Whole.{lends}
use Rattle.engine.proofs.Lines.{line_known, line-asks, line-goes, line-fails}
use Rattle.engine.proofs.steps.Stepping.by_line.Goals as goal

pub take_line-requires : goal.take_line-requires
take_line-requires c =
    let q = line-asks _ c.requires.ready _ c.requires.line.0 c.requires.line.1 c.requires.line.2 in
    record { mapped = q.0; framed = q.1.0; anchored = q.1.1.0; i_bound = q.1.1.1 }

pub returns-in_err-self : goal.returns-in_err-self
returns-in_err-self c =
    let p = err_from_is_err_and c.from_residual.result c.from_residual.ensures.1 in
    rw (p.1, p.2)
    (line-fails _ c.requires.ready _ c.requires.line.0 c.requires.line.1 c.requires.line.2 _
    (record { image = refl; table = refl; map = refl; inputs = refl; store = refl; outputs = refl; sized = c.take_line.auto.store }) refl c.in_err-self.ensures.1 _
    (c.in_err-self.ensures.0 _ _ _ (lends _ c.requires.ready.prepared) _) refl refl refl)

pub without-self-requires : goal.without-self-requires
without-self-requires c = line_known _ c.requires.ready _ c.requires.line.0 c.requires.line.1 c.requires.line.2

pub returns : goal.returns
returns c =
    line-goes _ c.requires.ready _ c.requires.line.0 c.requires.line.1 c.requires.line.2 _
    (record { image = refl; table = refl; map = refl; inputs = refl; store = refl; outputs = refl; sized = c.take_line.auto.store }) refl c.in_ok-self.ensures.1
    (c.in_ok-self.ensures.0 _ _ _ (lends _ c.requires.ready.prepared) _) refl c.without-self.ensures
