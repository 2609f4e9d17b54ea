use Rattle.engine.proofs.Stretches.{stretch-goes, stretch-ends}
use Rattle.engine.proofs.steps.Stepping.by_instructions.Goals as goal
use Rattle.engine.proofs.steps.Stepping.by_instructions.Goals.{else-self-rest-via-then-self-rest+else-rest-ne0, else-self-rest-via-else-self-rest}

pub returns-then-rest-ne0 : goal.returns-then-rest-ne0
returns-then-rest-ne0 c = let n = c.stretch-n.ensures in stretch-goes _ c.requires.fact _ _ (rw n at c.instructions-stop.ensures) (rw n at c.if-self-rest.true) (rw n at c.if-rest-ne0.true)

pub returns : goal.returns
returns c =
    let n = c.stretch-n.ensures in
    stretch-ends _ c.requires.fact _ _ (rw n at c.instructions-stop.ensures)
    (λ e. elim c.else-self-rest.branch [ else-self-rest-via-then-self-rest+else-rest-ne0 w ↦ rw n at w.if-rest-ne0.false | else-self-rest-via-else-self-rest w ↦ absurd (w.if-self-rest.false (rw n e)) ])
