-- The bytes that are skipped lie in the image (3).
use Prim.Native.Nat.{◌+◌}
use lib.ListN.{length}
use Rattle.mcode.specs.Image.{skip_at}
use native.Mathlib.Omega.{arith}
use borrow.Author.Tests.{le-leb, lt-leb}
use Rattle.image.proofs.skip.Goals as goal

pub returns-then-s-at : goal.returns-then-s-at
unfolding skip_at
returns-then-s-at c = simp (lt-leb (c.args.at + c.args.n) (length c.args.s.now) (omega arith))

pub returns-then-s-at-2 : goal.returns-then-s-at-2
unfolding skip_at
returns-then-s-at-2 c = simp (lt-leb (c.args.at + c.args.n) (length c.args.s.now) (omega arith))

pub returns : goal.returns
unfolding skip_at
returns c = simp (le-leb (c.args.at + c.args.n) (length c.args.s.now) (omega arith))
