use Rattle.in_place.specs.Placed.{left_at}
use Rattle.in_place.proofs.Onward.{goes_on, stops_so, spent-so}
use Rattle.in_place.proofs.run.steps_in_place.Goals as goal

pub desk-preserved : goal.desk-preserved
desk-preserved c =
    goes_on _ _ _ _ _ _ _ _ _ c.desk.invariant (left_at c.step_in_place-h.result c.step_in_place-h.new.machine c.step_in_place-h.new.store c.step_in_place-h.new.outputs)
    c.requires.prepared.fits c.if-n-count.false c.step_in_place-h.ensures.outputs_after _ c.step_in_place-h.ensures.channels_value c.in_default.is

pub returns-then-n-count : goal.returns-then-n-count
returns-then-n-count c = spent-so _ _ _ _ _ _ _ _ _ c.desk.invariant c.if-n-count.true

pub returns-in-Some : goal.returns-in-Some
returns-in-Some c =
    stops_so _ _ _ _ _ _ _ _ _ c.desk.invariant (left_at c.step_in_place-h.result c.step_in_place-h.new.machine c.step_in_place-h.new.store c.step_in_place-h.new.outputs)
    c.if-n-count.false c.step_in_place-h.ensures.outputs_after _ c.in-Some.is
