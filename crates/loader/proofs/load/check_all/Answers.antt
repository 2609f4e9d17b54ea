-- Every module's part is the fewest, or one module has none; the loop keeps what is filled so far.
use mathlib.Core.Path.{◌≡◌, subst}
use Prim.Native.Nat.{ℕ, ◌≤◌}
use lib.ListN.{length}
use Rattle.loader.proofs.Fill.{Filled, kept_trans, more-kept, more-filled, accepted}
use native.Mathlib.Omega.{arith}
use Rattle.loader.proofs.load.check_all.Goals as goal

pub returns-then-not-check : goal.returns-then-not-check
returns-then-not-check c =
    let image = c.args.read.now.image.now in
    let k = c.loop-k.k in
    let long : length image ≤ length c.loop-k.map = omega (arith, c.requires.0) in (
      record {
        unfit = k;
        loaded = c.loop-k-test.true;
        none = (rw (c.rules.ensures.code.0, c.rules.ensures.code.1, c.rules.ensures.program, c.if-not-check.true) at c.check.ensures).0;
      },
      kept_trans image _ _ _ c.loop-k.invariant.kept (more-kept image _ c.args.read.now.told c.loop-k.map _ long k c.loop-k-test.true c.check.auto.map),
    )

pub loop-k-preserved : goal.loop-k-preserved
loop-k-preserved c =
    let image = c.args.read.now.image.now in
    let k = c.loop-k.k in
    let long : length image ≤ length c.loop-k.map = omega (arith, c.requires.0) in record {
      filled = more-filled image _ c.args.read.now.told c.loop-k.map _ long k c.loop-k-test.true c.check.auto.map c.loop-k.invariant.filled
          (rw (c.rules.ensures.code.0, c.rules.ensures.code.1, c.rules.ensures.program, c.if-not-check.false) at c.check.ensures);
      kept = kept_trans image _ _ _ c.loop-k.invariant.kept (more-kept image _ c.args.read.now.told c.loop-k.map _ long k c.loop-k-test.true c.check.auto.map);
    }

pub returns : goal.returns
returns c =
    let P = c.args.read.now.program.now in
    let done : c.loop-k.k ≡ P.count = omega (arith, c.loop-k-test.false) in
    accepted c.args.read.now.image.now P c.args.map.now c.loop-k.map
    (subst (λ (n : ℕ). Filled c.args.read.now.image.now P n c.loop-k.map) done c.loop-k.invariant.filled) c.loop-k.invariant.kept
