use mathlib.Core.Path.{refl, sym}
use native.Mathlib.Omega.{arith}
use Rattle.execute.proofs.Whole.{lends}
use Rattle.engine.proofs.Looping.{loop-on, loop-ends}
use Rattle.engine.proofs.Trapping.{trap-asks, trap-some, trap-goes, trap-stops}
use Rattle.engine.proofs.steps.Stepping.steps.Goals as goal

pub catch_trap-requires : goal.catch_trap-requires
catch_trap-requires c =
    let q = trap-asks _ _ _ c.attempts-stop.ensures in
    record { mapped = q.0; framed = q.1.0; anchored = q.1.1.0; number_bound = (omega arith, q.1.1.1.0, q.1.1.1.1) }

pub overflow_sub-self : goal.overflow_sub-self
overflow_sub-self c = let m = c.attempts-stop.new.self in trap-some _ _ _ c.attempts-stop.ensures c.in-Some.next c.catch_trap.new.stack c.catch_trap.new.store m.outputs.now (c.in-Some.ensures.0 _ _ _ (lends m.inputs.now c.attempts-stop.ensures.ready.prepared) _ (sym c.number-number.ensures) _)

pub traps-smaller : goal.traps-smaller
traps-smaller c =
    let m = c.attempts-stop.new.self in
    let some = trap-some _ _ _ c.attempts-stop.ensures c.in-Some.next c.catch_trap.new.stack c.catch_trap.new.store m.outputs.now (c.in-Some.ensures.0 _ _ _ (lends m.inputs.now c.attempts-stop.ensures.ready.prepared) _ (sym c.number-number.ensures) _) in
    omega (arith, some, c.attempts-stop.ensures.leads.0)

pub traps-preserved : goal.traps-preserved
traps-preserved c =
    loop-on _ _ _ _ c.traps.invariant
    (trap-goes _ _ _ c.attempts-stop.ensures _
    (record { image = refl; table = refl; map = refl; inputs = refl; store = refl; outputs = refl; sized = c.catch_trap.auto.store }) c.in-Some.ensures.1 refl refl
    (c.in-Some.ensures.0 _ _ _ (lends _ c.attempts-stop.ensures.ready.prepared) _ (sym c.number-number.ensures) _) refl)

pub returns : goal.returns
returns c =
    loop-ends _ _ _ _ c.traps.invariant _
    (trap-stops _ _ _ c.attempts-stop.ensures _
    (record { image = refl; table = refl; map = refl; inputs = refl; store = refl; outputs = refl; sized = c.catch_trap.auto.store }) c.in-None.ensures.1 refl refl _
    (c.in-None.ensures.0 _ _ _ (lends _ c.attempts-stop.ensures.ready.prepared) _ (sym c.number-number.ensures) _) refl refl)
