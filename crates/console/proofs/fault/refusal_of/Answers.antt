use Rattle.std.proofs.Common.{ap, ◌∙◌}
use Rattle.mcode.specs.Image.{Parsed, refused_by}
use Rattle.console.proofs.fault.refusal_of.Goals as goal

pub returns-in-Err : goal.returns-in-Err
unfolding refused_by
returns-in-Err c = c.number.ensures ∙ ap (λ (p : Parsed). p.refusal) c.in-Err.ensures
