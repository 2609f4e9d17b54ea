-- Archive's answer, with the length in one number.
use mathlib.Core.Path.{refl}
use native.Mathlib.Omega.{arith}
use borrow.Author.Tests.{ne_eqb, eq-eqb}
use Rattle.archive.proofs.Answers.{answer-short}
use Rattle.capi.proofs.Written.{single}
use Rattle.capi.proofs.cembuxola_archive.Goals as goal

pub returns-then-written-ne1 : goal.returns-then-written-ne1
returns-then-written-ne1 c = rw (ne_eqb _ _ c.if-written-ne1.true) (refl, refl, refl, refl)

pub overflow_cast-written : goal.overflow_cast-written
overflow_cast-written c = omega (arith, answer-short _ _ _ _ _ c.in-Ok.ensures.answer)

pub returns-in-Ok : goal.returns-in-Ok
returns-in-Ok c = rw (eq-eqb _ _ c.if-written-ne1.false) (c.in-Ok.length, c.in-Ok.ensures.answer, single _ _ c.if-written-ne1.false)

pub returns-in-Err : goal.returns-in-Err
returns-in-Err c = rw (eq-eqb _ _ c.if-written-ne1.false, c.number.ensures) (0, c.in-Err.ensures.answer, single _ _ c.if-written-ne1.false)
