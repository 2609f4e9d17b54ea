-- The answer is parse, for every byte string.
use Rattle.mcode.specs.Word.{byte}
use Rattle.mcode.specs.Image.{most_modules, parse}
use native.Mathlib.Omega.{arith}
use borrow.Author.Tests.{ne_eqb, lt-ltb, le-ltb, eq-eqb}
use Rattle.image.proofs.read_image.Goals as goal

pub returns-then-s-eq0 : goal.returns-then-s-eq0
unfolding parse
returns-then-s-eq0 c = simp (eq-eqb _ _ c.if-s-eq0.true)

pub returns-then-s-gt65535 : goal.returns-then-s-gt65535
unfolding parse
returns-then-s-gt65535 c = simp (ne_eqb _ _ c.if-s-eq0.false, lt-ltb _ _ c.if-s-gt65535.true)

pub overflow_cast-n : goal.overflow_cast-n
overflow_cast-n c = omega (arith, c.type_inv.s 0)

pub returns-then-n-eq0 : goal.returns-then-n-eq0
unfolding parse
returns-then-n-eq0 c = simp (ne_eqb _ _ c.if-s-eq0.false, le-ltb _ _ c.if-s-gt65535.false, eq-eqb _ _ c.if-n-eq0.true)

pub returns-then-n-gt-MOST_MODULES : goal.returns-then-n-gt-MOST_MODULES
unfolding parse
returns-then-n-gt-MOST_MODULES c = simp (ne_eqb _ _ c.if-s-eq0.false, le-ltb _ _ c.if-s-gt65535.false, ne_eqb _ _ c.if-n-eq0.false, lt-ltb most_modules (byte c.args.s.now 0) (omega (arith, c.if-n-gt-MOST_MODULES.true)))

pub returns : goal.returns
unfolding parse
returns c = simp (ne_eqb _ _ c.if-s-eq0.false, le-ltb _ _ c.if-s-gt65535.false, ne_eqb _ _ c.if-n-eq0.false, le-ltb _ _ c.if-n-gt-MOST_MODULES.false) c.read_modules.ensures
