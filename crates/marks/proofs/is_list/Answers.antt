use Rattle.marks.proofs.Laws.{list-begins, list-fails, list-goes-on, list-ends}
use Rattle.marks.proofs.is_list.Goals as goal

pub loop-init : goal.loop-init
loop-init c = list-begins _ _

pub returns-then-rest-gt16 : goal.returns-then-rest-gt16
returns-then-rest-gt16 c = list-fails _ _ _ _ c.loop-test.true c.loop.invariant c.if-rest-gt16.true

pub loop-preserved : goal.loop-preserved
loop-preserved c = list-goes-on _ _ _ _ c.loop-test.true c.loop.invariant c.if-rest-gt16.false

pub returns : goal.returns
returns c = list-ends _ _ _ _ c.loop-test.false c.loop.invariant
