-- Load's refusals, then 14, then the form: each answer from those of the reader, of load and of the writer.
use Rattle.std.proofs.Common.{arith}
use Rattle.std.proofs.lemmas.Result.{err_from_is_err_and}
use Rattle.loader.proofs.Answers.{read-so}
use Rattle.loader.proofs.Answers as loaded
use Rattle.loader.proofs.Begin.{read_told}
use Rattle.archive.proofs.Answers.{refused-so, short-so, whole-so}
use Rattle.archive.proofs.archive.Goals as goal

pub returns-in_err-program-clause-answer : goal.returns-in_err-program-clause-answer
returns-in_err-program-clause-answer c = let p = err_from_is_err_and c.from_residual.result c.from_residual.ensures.1 in rw (p.1, p.2) (refused-so _ _ _ _ _ (loaded.refused-so _ _ _ c.in_err-program.ensures))

pub returns-in_err-program-clause-place : goal.returns-in_err-program-clause-place
returns-in_err-program-clause-place c = let p = err_from_is_err_and c.from_residual.result c.from_residual.ensures.1 in rw (p.1, p.2) (λ _. loaded.refused-so _ _ _ c.in_err-program.ensures)

pub load_program-requires : goal.load_program-requires
load_program-requires c = read_told _ _ c.in_ok-program.ensures

pub returns-in_err-load_program-clause-answer : goal.returns-in_err-load_program-clause-answer
returns-in_err-load_program-clause-answer c =
    let r = c.from_residual-in_err-load_program in
    let p = err_from_is_err_and r.result r.ensures.1 in
    rw (p.1, p.2) (refused-so _ _ _ _ _ (read-so _ _ _ c.in_ok-program.ensures _ _ c.in_err-load_program.ensures))

pub returns-in_err-load_program-clause-place : goal.returns-in_err-load_program-clause-place
returns-in_err-load_program-clause-place c =
    let r = c.from_residual-in_err-load_program in
    let p = err_from_is_err_and r.result r.ensures.1 in
    rw (p.1, p.2) (λ _. read-so _ _ _ c.in_ok-program.ensures _ _ c.in_err-load_program.ensures)

pub invariant_of-image : goal.invariant_of-image
invariant_of-image c = record { in_range = λ i. omega (arith, c.type_inv.image i); told = read_told _ _ c.in_ok-program.ensures }

pub returns-then-output-length-clause-answer : goal.returns-then-output-length-clause-answer
returns-then-output-length-clause-answer c =
    short-so _ _ _ _ _ c.in_ok-program.ensures (read-so _ _ _ c.in_ok-program.ensures _ _ c.in_ok-load_program.ensures) _ c.form_length-length.ensures c.if-output-length.true

pub returns-clause-answer : goal.returns-clause-answer
returns-clause-answer c =
    whole-so _ _ _ _ _ c.in_ok-program.ensures (read-so _ _ _ c.in_ok-program.ensures _ _ c.in_ok-load_program.ensures) _ c.form_length-length.ensures c.if-output-length.false _ c.write_form.ensures
