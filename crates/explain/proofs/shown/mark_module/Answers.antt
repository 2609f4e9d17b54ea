-- By the result of the reader.
use Rattle.loader.proofs.Answers.{refused-some}
use Rattle.loader.proofs.Begin.{read_told}
use Rattle.explain.proofs.shown.mark_module.Goals as goal

pub returns-in_default : goal.returns-in_default
returns-in_default c = λ z. absurd (refused-some c.args.image.now _ c.in_default.ensures z)

pub invariant_of-read : goal.invariant_of-read
invariant_of-read c = record { told = read_told _ _ c.in-Ok.ensures }
