-- What is left of the range may hold the first one.
use Rattle.std.proofs.Common.{ap, not, None, Some, arith}
use borrow.Author.Tests.{ne_eqb}
use Rattle.listing.specs.First.{is_marked}
use Rattle.listing.proofs.Least.{found}
use Rattle.listing.proofs.search.marked_from.Goals as goal

pub returns-then-marks-i : goal.returns-then-marks-i
returns-then-marks-i c =
    let here = ap not (ne_eqb _ _ c.if-marks-i.true) in
    found (is_marked c.args.marks.now) _ _ (Some c.loop-i.i) (c.loop-i.auto.i, c.loop-i-test.true, here, c.loop-i.invariant)

pub returns : goal.returns
returns c = found (is_marked c.args.marks.now) _ _ None (λ k a b. c.loop-i.invariant k a (omega (arith, c.loop-i-test.false, b)))
