use Rattle.std.proofs.Common.{le-leb, eq-eqb, ne_eqb, arith}
use Rattle.std.proofs.lemmas.Bool.{lt-leb}
use Rattle.control.specs.Transfer.{catcher_in}
use Rattle.control.proofs.transfer.catcher.Goals as goal

pub returns-then-number-lt32 : goal.returns-then-number-lt32
unfolding catcher_in
returns-then-number-lt32 c = rw (lt-leb 32 c.args.number (omega (arith, c.if-number-lt32.true)))

pub returns-then-q-eq0 : goal.returns-then-q-eq0
unfolding catcher_in
returns-then-q-eq0 c = rw (le-leb 32 c.args.number (omega (arith, c.if-number-lt32.false)), eq-eqb _ _ c.if-q-eq0.true)

pub returns-then-q-p : goal.returns-then-q-p
unfolding catcher_in
returns-then-q-p c = rw (le-leb 32 c.args.number (omega (arith, c.if-number-lt32.false)), ne_eqb _ _ c.if-q-eq0.false, eq-eqb _ _ c.if-q-p.true)

pub returns : goal.returns
unfolding catcher_in
returns c = rw (le-leb 32 c.args.number (omega (arith, c.if-number-lt32.false)), ne_eqb _ _ c.if-q-eq0.false, ne_eqb _ _ c.if-q-p.false) c.target.ensures
