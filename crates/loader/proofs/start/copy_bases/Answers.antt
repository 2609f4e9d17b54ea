use mathlib.Core.Path.{sym, ap, ◌∙◌}
use Prim.Native.Nat.{ℕ, ◌+◌, ◌<◌}
use lib.ListN.{length, set, take, drop}
use native.Mathlib.Omega.{arith}
use Rattle.mcode.specs.Image.{bases_of}
use Rattle.mcode.specs.Step.{written}
use Rattle.mcode.proofs.Writes.{next-written, none_written}
use Rattle.loader.proofs.Bases.{bases-long, base-at}
use Rattle.loader.proofs.start.copy_bases.Goals as goal

pub loop-k-preserved : goal.loop-k-preserved
loop-k-preserved c =
    let P = c.args.program.now in
    let bases = take P.count (bases_of P) in
    let l = c.loop-k in
    let h : l.k < length bases = omega (arith, bases-long P _ c.requires) in
    l.invariant ∙ next-written bases 32 l.k l.store h
    ∙ ap (λ (v : ℕ). written (drop (l.k + 1) bases) (32 + (l.k + 1)) (set l.store (32 + l.k) v)) (base-at P _ c.requires l.k (omega arith))

pub returns : goal.returns
returns c =
    let P = c.args.program.now in
    let l = c.loop-k in
    sym (l.invariant ∙ none_written (take P.count (bases_of P)) (32 + l.k) l.k l.store (omega (arith, bases-long P _ c.requires)))
