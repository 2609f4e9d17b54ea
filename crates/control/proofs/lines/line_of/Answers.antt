use mathlib.Core.Path.{sym, ◌∙◌}
use native.Mathlib.Omega.{arith}
use lib.Bits.{or_lt}
use Rattle.mcode.proofs.Requests.{open-lines}
use Rattle.control.proofs.lines.line_of.Goals as goal

pub returns : goal.returns
returns c =
    let a = c.args in
    let h = or_lt 16 a.mask a.held (omega (arith, c.ranges.mask)) (omega (arith, c.ranges.held)) in
    c.highest_line.ensures ∙ sym (open-lines a.requests a.mask a.held h)
