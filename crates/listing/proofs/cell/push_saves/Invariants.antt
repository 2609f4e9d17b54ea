use Rattle.std.proofs.Common.{◌≡◌, ◌++◌, ◌+◌, ◌-◌, ◌*◌, ◌≤◌}
use Rattle.arrayvec.specs.ArrayString.{array_string_len}
use Rattle.listing.specs.Cell.{saves_text}
use Rattle.listing.proofs.cell.push_saves.Given as goal

abbrev pub invariant-loop : goal.invariant-loop
invariant-loop l = record {
  text : l.cell.bytes ++ saves_text (l.n - l.counter) l.rest ≡ l.initial.cell.bytes ++ saves_text l.n l.list;
  room : array_string_len l.cell + 3 * (l.n - l.counter) ≤ 25;
}
