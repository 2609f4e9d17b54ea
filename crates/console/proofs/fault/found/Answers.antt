-- The tests of Found.
use Rattle.std.proofs.Common.{refl}
use Rattle.console.specs.Faults.{Found}
use borrow.Author.Tests.{ne_eqb, eq-eqb}
use Rattle.console.proofs.fault.found.Goals as goal
use Rattle.console.proofs.fault.found.Goals.{else-number-ne8-via-then-number-ne8+else-number-ne13, else-number-ne8-via-else-number-ne8}

pub returns-then-number-ne13 : goal.returns-then-number-ne13
unfolding Found
returns-then-number-ne13 c = (c.place.ensures.0, rw (ne_eqb _ _ c.if-number-ne13.true, ne_eqb _ _ c.if-number-ne8.true) c.place.ensures.1)

pub returns : goal.returns
unfolding Found
returns c = (
  refl,
  elim c.else-number-ne8.branch [
    | else-number-ne8-via-then-number-ne8+else-number-ne13 w ↦ rw (eq-eqb _ _ w.if-number-ne13.false) (c.reason.result, c.reason.ensures, refl)
    | else-number-ne8-via-else-number-ne8 w ↦ rw w.if-number-ne8.false (c.reason.result, c.reason.ensures, refl)
  ],
)
