-- All bytes are put; the loop keeps that those left give the same output.
use mathlib.Core.Path.{◌≡◌, refl, sym, ap, ◌∙◌}
use Prim.Native.Nat.{ℕ, ◌+◌}
use native.Mathlib.Omega.{arith}
use lib.ListN.{get_or, length-set}
use Rattle.mcode.specs.Step.{written}
use Rattle.mcode.proofs.Writes.{next-written, none_written}
use Rattle.archive.proofs.writer.copy.Goals as goal

pub loop-i-init : goal.loop-i-init
loop-i-init c = let e : c.args.at ≡ c.args.at + 0 = omega arith in (refl, ap (λ (k : ℕ). written c.args.bytes.now k c.args.output.now) e)

pub loop-i-preserved : goal.loop-i-preserved
loop-i-preserved c =
    let l = c.loop-i in
    let xs = c.args.bytes.now in
    (length-set l.output (c.args.at + l.i) (get_or xs l.i 0) ∙ l.invariant.0, l.invariant.1 ∙ next-written xs c.args.at l.i l.output (omega arith))

pub returns : goal.returns
returns c =
    let l = c.loop-i in
    let xs = c.args.bytes.now in
    sym (l.invariant.1 ∙ none_written xs (c.args.at + l.i) l.i l.output (omega arith))
