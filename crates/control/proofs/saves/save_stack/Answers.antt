use Rattle.control.proofs.saves.save_stack.Goals as goal

pub returns : goal.returns
returns c = rw c.save_words.ensures
