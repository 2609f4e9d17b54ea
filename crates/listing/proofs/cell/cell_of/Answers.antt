use Rattle.std.proofs.Common.{refl, ap, length, arith}
use Rattle.listing.specs.Cell.{mark_text}
use Rattle.listing.proofs.Cells.{depth_small, results-small, saves-small}
use Rattle.listing.proofs.cell.cell_of.Goals as goal

pub push_number-requires-clause-small : goal.push_number-requires-clause-small
push_number-requires-clause-small c = rw c.depth_of.ensures (depth_small c.args.mark)

pub push_results-requires-clause-small : goal.push_results-requires-clause-small
push_results-requires-clause-small c = rw c.promised_of.ensures (results-small c.args.mark)

pub push_saves-requires : goal.push_saves-requires
push_saves-requires c = omega (arith, ap length c.new-cell.ensures, c.push_number.ensures.letters, c.push_results.ensures.letters, c.saves_of.ensures, saves-small c.args.mark)

pub returns-clause-text : goal.returns-clause-text
unfolding mark_text
returns-clause-text c = rw (c.push_saves.ensures.text, c.push_results.ensures.text, c.push_number.ensures.text, c.new-cell.ensures, c.depth_of.ensures, c.promised_of.ensures, c.saves_of.ensures, c.list_of.ensures) refl
