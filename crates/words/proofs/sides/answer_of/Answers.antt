use Rattle.words.proofs.sides.answer_of.Goals as goal

pub returns : goal.returns
returns c = rw c.answers_of.ensures
