use Rattle.std.proofs.Common.{ap, ◌++◌, arith}
use Rattle.listing.proofs.Cells.{one-digit, two_digits}
use Rattle.listing.proofs.cell.push_number.Goals as goal
use Rattle.listing.proofs.cell.push_number.Goals.{then-n-ge10, else-n-ge10}

pub returns-clause-text : goal.returns-clause-text
returns-clause-text c =
    let last = rw c.digit-2.ensures at (c.push-2.ensures.ascii (omega arith)) in
    elim c.if-n-ge10.branch [
      | then-n-ge10 w ↦ rw (last, w.cell-is, w.push.ensures.ascii (omega arith), w.digit.ensures) (two_digits _ _ w.if-n-ge10.true)
      | else-n-ge10 w ↦ rw (last, w.cell-is) (ap (λ t. c.args.cell.now.bytes ++ t) (one-digit _ w.if-n-ge10.false))
    ]
