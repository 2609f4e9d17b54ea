use Rattle.std.specs.Prelude.{Ok}
use Rattle.std.proofs.Common.{ap, ◌∙◌}
use Rattle.words.proofs.Families.{unsigned-word}
use Rattle.words.proofs.sides.compared.Goals as goal

pub returns : goal.returns
returns c = ap Ok c.answer_of.ensures ∙ unsigned-word _ _ _ c.requires.0 c.requires.1
