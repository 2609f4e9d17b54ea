use Rattle.std.proofs.Common.{◌≡◌, ◌-◌}
use Rattle.mcode.specs.Depths.{is_list}
use Rattle.marks.proofs.is_list.Given as goal

-- with as many of its depths read as the loop has counted
abbrev pub invariant-loop : goal.invariant-loop
invariant-loop l = is_list l.n l.l ≡ is_list (l.n - l.counter) l.rest
