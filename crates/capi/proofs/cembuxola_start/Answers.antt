use mathlib.Core.Path.{refl, ap}
use Rattle.capi.specs.Answers.{start_says, start_words}
use Rattle.capi.proofs.Answers.{start-depth}
use borrow.Author.Tests.{ne_eqb, eq-eqb}
use Rattle.capi.proofs.cembuxola_start.Goals as goal

pub returns-then-machine-ne24 : goal.returns-then-machine-ne24
unfolding start_words
returns-then-machine-ne24 c = rw (ne_eqb _ _ c.if-machine-ne24.true) refl

pub pack-requires : goal.pack-requires
pack-requires c = (c.if-machine-ne24.false, start-depth _ _ _ c.in-Ok.ensures)

pub returns-in-Ok : goal.returns-in-Ok
unfolding start_words
returns-in-Ok c = rw (eq-eqb _ _ c.if-machine-ne24.false, c.pack.ensures) (ap start_says c.in-Ok.ensures)

pub returns-in-Err : goal.returns-in-Err
unfolding start_words
returns-in-Err c = rw (eq-eqb _ _ c.if-machine-ne24.false, c.pack-in-Err.ensures, c.zero_machine.ensures, c.number.ensures) (ap start_says c.in-Err.ensures)
