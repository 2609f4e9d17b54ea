use mathlib.Core.Path.{refl, ap}
use Rattle.mcode.specs.Answer.{ending_of}
use Rattle.capi.specs.Answers.{run_words}
use Rattle.capi.proofs.Answers.{stop-depth, run-says}
use borrow.Author.Tests.{ne_eqb, eq-eqb}
use Rattle.capi.proofs.cembuxola_run.Goals as goal

pub returns-then-machine-ne24 : goal.returns-then-machine-ne24
unfolding run_words
returns-then-machine-ne24 c = rw (ne_eqb _ _ c.if-machine-ne24.true) refl

pub returns-then-answer-ne4 : goal.returns-then-answer-ne4
unfolding run_words
returns-then-answer-ne4 c = rw (eq-eqb _ _ c.if-machine-ne24.false, ne_eqb _ _ c.if-answer-ne4.true) refl

pub pack-requires : goal.pack-requires
pack-requires c = (c.if-machine-ne24.false, stop-depth _ _ _ _ _ _ _ c.run-ran.ensures (ap ending_of c.in-Ok.is))

pub returns-in-Err : goal.returns-in-Err
unfolding run_words
returns-in-Err c = rw (eq-eqb _ _ c.if-machine-ne24.false, eq-eqb _ _ c.if-answer-ne4.false, c.put_answer.ensures, c.number.ensures) (run-says _ _ _ _ _ _ _ _ _ _ (rw c.unpack-before.ensures at c.run-ran.ensures) (ap ending_of c.in-Err.is))

pub returns-in-Ok : goal.returns-in-Ok
unfolding run_words
returns-in-Ok c = rw (eq-eqb _ _ c.if-machine-ne24.false, eq-eqb _ _ c.if-answer-ne4.false, c.put_answer-in-Ok.ensures, c.pack.ensures, c.number-in-Ok.ensures, c.code.ensures) (run-says _ _ _ _ _ c.args.machine.now c.args.store.now c.args.outputs.now _ _ (rw c.unpack-before.ensures at c.run-ran.ensures) (ap ending_of c.in-Ok.is))
