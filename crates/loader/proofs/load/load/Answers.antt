-- The answer of load is the one that the rules determine, from the answers of the reader and of the load of a program.
use Rattle.std.proofs.lemmas.Result.{err_from_is_err_and}
use Rattle.loader.proofs.Answers.{refused-so}
use Rattle.loader.proofs.Begin.{read_told}
use Rattle.loader.proofs.load.load.Goals as goal

pub returns-in_err-program : goal.returns-in_err-program
returns-in_err-program c = let p = err_from_is_err_and c.from_residual.result c.from_residual.ensures.1 in rw (p.1, p.2) (refused-so _ _ _ c.in_err-program.ensures)

pub load_program-requires : goal.load_program-requires
load_program-requires c = read_told _ _ c.in_ok-program.ensures
