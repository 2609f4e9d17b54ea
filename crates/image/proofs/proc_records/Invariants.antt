use Rattle.std.proofs.Common.{◌≡◌, ◌-◌}
use Rattle.mcode.specs.Image.{records_at}
use Rattle.image.proofs.proc_records.Given as goal

abbrev pub invariant-loop : goal.invariant-loop
invariant-loop l = records_at l.s l.length l.first l.n l.from ≡ records_at l.s l.length l.limit (l.n - l.counter) l.at
