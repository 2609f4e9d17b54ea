-- The first module at fault decides; the loop keeps that those before it are whole.
use mathlib.Core.Path.{sym, subst}
use Prim.Native.Nat.{ℕ, ◌≤◌}
use lib.ListN.{length}
use borrow.Author.Count.{below_more}
use Rattle.mcode.specs.Image.{module_of}
use Rattle.mcode.specs.Depths.{Fewest}
use Rattle.mcode.specs.Walk.{Whole}
use Rattle.walk.specs.Set.{walk_of}
use Rattle.loader.proofs.Fill.{kept_trans, more-kept, part-back}
use Rattle.loader.proofs.Walked.{broken-so}
use native.Mathlib.Omega.{arith}
use Rattle.loader.proofs.load.first_fault.Goals as goal

pub lowest-requires : goal.lowest-requires
lowest-requires c =
    let image = c.args.read.now.image.now in
    let long : length image ≤ length c.loop-k.map = omega (arith, c.requires.0) in record {
      few = c.args.read.now.told.small;
      fewest = subst (Fewest (walk_of c.code-code.result)) (sym (part-back image _ c.args.read.now.told c.loop-k.map _ long c.loop-k.k c.loop-k-test.true c.walk.auto.map)) c.walk.ensures;
    }

pub returns-in-Some : goal.returns-in-Some
returns-in-Some c =
    let image = c.args.read.now.image.now in
    let k = c.loop-k.k in
    let long : length image ≤ length c.loop-k.map = omega (arith, c.requires.0) in (
      broken-so image _ k c.loop-k-test.true c.loop-k.invariant.whole _ (rw (c.code-code.ensures.0, c.code-code.ensures.1, c.in-Some.is) at c.lowest.ensures),
      kept_trans image _ _ _ c.loop-k.invariant.kept (more-kept image _ c.args.read.now.told c.loop-k.map _ long k c.loop-k-test.true c.walk.auto.map),
    )

pub loop-k-preserved : goal.loop-k-preserved
loop-k-preserved c =
    let image = c.args.read.now.image.now in
    let P = c.args.read.now.program.now in
    let k = c.loop-k.k in
    let long : length image ≤ length c.loop-k.map = omega (arith, c.requires.0) in record {
      whole = below_more (λ (j : ℕ). Whole image P (module_of P j)) k c.loop-k.invariant.whole
          (rw (c.code-code.ensures.0, c.code-code.ensures.1, c.in_default.is) at c.lowest.ensures);
      kept = kept_trans image _ _ _ c.loop-k.invariant.kept (more-kept image P c.args.read.now.told c.loop-k.map _ long k c.loop-k-test.true c.walk.auto.map);
    }
