use Rattle.execute.proofs.Whole.{unit-few, asks-step, after-step, channel-step, asks-settle, settled-step, near-after}
use Rattle.execute.proofs.Went.{stop-keeps}
use Rattle.execute.proofs.steps.step.Goals as goal

pub core_of-r-requires : goal.core_of-r-requires
core_of-r-requires c = unit-few c.requires.prepared _ c.requires.machine_value

pub turn-s-requires : goal.turn-s-requires
turn-s-requires c = let a = asks-step c.requires.prepared _ c.requires.machine_value _ c.core_of-r.ensures.0 c.core_of-r.ensures.1 in record { asks = a.0; bound = (a.1, c.requires.inputs_len.0, c.requires.inputs_len.1) }

pub settle-requires : goal.settle-requires
settle-requires c =
    let q = asks-settle c.requires.prepared _ c.requires.machine_value _ c.core_of-r.ensures.0 c.core_of-r.ensures.1 _ c.turn-s.auto.store in
    record { mapped = q.0; framed = q.1; anchored = (c.core_of-r.ensures.1, c.turn-s.ensures.2); stop_bound = (q.2, q.3) }

pub machine_of-requires : goal.machine_of-requires
machine_of-requires c =
    let e = after-step c.requires.prepared _ c.requires.machine_value _ c.core_of-r.ensures.0 c.core_of-r.ensures.1 _ _ _ c.turn-s.ensures.0 in
    let f = settled-step _ _ c.requires.prepared c.requires.machine_value c.requires.inputs_len.1 c.core_of-r.result c.turn-s.result c.settle.result _ _ _ _ _ e c.settle.ensures.0 in
    let a = rw c.in-Ok.is at c.settle.ensures.1 in
    (a.few, a.own, near-after _ _ c.requires.prepared c.requires.machine_value c.requires.inputs_len.1 (rw c.in-Ok.is at f))

pub returns-in-Ok : goal.returns-in-Ok
returns-in-Ok c =
    let e = after-step c.requires.prepared _ c.requires.machine_value _ c.core_of-r.ensures.0 c.core_of-r.ensures.1 _ _ _ c.turn-s.ensures.0 in
    let f = settled-step _ _ c.requires.prepared c.requires.machine_value c.requires.inputs_len.1 c.core_of-r.result c.turn-s.result c.settle.result _ _ _ _ _ e c.settle.ensures.0 in
    record { outputs_after = rw c.machine_of.ensures (rw c.in-Ok.is at f); channels_value = channel-step c.requires.prepared _ c.requires.machine_value _ c.core_of-r.ensures.0 c.core_of-r.ensures.1 c.turn-s.result _ _ _ _ _ _ e c.turn-s.ensures.1 }

pub returns-in-Err : goal.returns-in-Err
returns-in-Err c =
    let e = after-step c.requires.prepared _ c.requires.machine_value _ c.core_of-r.ensures.0 c.core_of-r.ensures.1 _ _ _ c.turn-s.ensures.0 in
    let f = settled-step _ _ c.requires.prepared c.requires.machine_value c.requires.inputs_len.1 c.core_of-r.result c.turn-s.result c.settle.result _ _ _ _ _ e c.settle.ensures.0 in
    record { outputs_after = stop-keeps _ _ _ _ _ _ (rw c.in-Err.is at f); channels_value = channel-step c.requires.prepared _ c.requires.machine_value _ c.core_of-r.ensures.0 c.core_of-r.ensures.1 c.turn-s.result _ _ _ _ _ _ e c.turn-s.ensures.1 }
