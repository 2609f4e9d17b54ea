use Rattle.std.proofs.Common.{arith}
use Rattle.listing.proofs.Cells.{no-results, some-results}
use Rattle.listing.proofs.cell.push_results.Goals as goal

pub returns-then-n-ne0-clause-text : goal.returns-then-n-ne0-clause-text
returns-then-n-ne0-clause-text c = rw (c.push-then-n-ne0.ensures.ascii (omega arith), c.push.ensures.ascii (omega arith), c.digit.ensures) (some-results _ _ c.if-n-ne0.true)

pub returns-else-n-ne0-clause-text : goal.returns-else-n-ne0-clause-text
returns-else-n-ne0-clause-text c = rw c.if-n-ne0.false (no-results _)
