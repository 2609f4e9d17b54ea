use mathlib.Core.Path.{sym}
use native.Mathlib.Omega.{arith}
use Rattle.mcode.proofs.Requests.{none_below, highest-bit}
use Rattle.control.proofs.Weights.{line-from}
use Rattle.control.proofs.lines.highest_line.Goals as goal

pub returns-then-w-lt256 : goal.returns-then-w-lt256
returns-then-w-lt256 c = sym (none_below _ c.if-w-lt256.true)

pub returns : goal.returns
returns c =
    let e = c.ilog2.ensures in
    sym (highest-bit _ _ (line-from _ _ c.if-w-lt256.false e.next_power_gt) (omega (arith, e.bound)) e.power_le (omega (arith, e.next_power_gt)))
