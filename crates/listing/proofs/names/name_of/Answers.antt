-- A name is what stands before the blanks of its row.
use Rattle.std.proofs.Common.{◌≡◌, ◌*◌, ◌+◌, length, arith, rules}
use Rattle.listing.specs.Mnemonics.{letters}
use Rattle.listing.proofs.Filled.{letters-boundary, filled, unnamed}
use Rattle.listing.proofs.names.name_of.Goals as goal

pub range-requires-clause-start_boundary : goal.range-requires-clause-start_boundary
unfolding letters
range-requires-clause-start_boundary c = λ _. letters-boundary (5 * c.args.op) (omega arith)

pub range-requires-clause-end_boundary : goal.range-requires-clause-end_boundary
unfolding letters
range-requires-clause-end_boundary c = letters-boundary (5 * c.args.op + 5) (omega arith)

pub returns-then-is_empty-clause-row : goal.returns-then-is_empty-clause-row
unfolding letters
returns-then-is_empty-clause-row c =
    let e : length c.trim_ascii_end-name.result.now ≡ 0 = search rules in
    unnamed c.args.op (omega arith) _ e (rw c.range.ensures.value at c.trim_ascii_end-name.ensures.value)

pub returns-else-is_empty-clause-row : goal.returns-else-is_empty-clause-row
unfolding letters
returns-else-is_empty-clause-row c = filled c.args.op (omega arith) _ (rw c.range.ensures.value at c.trim_ascii_end-name.ensures.value)
