use Rattle.std.proofs.Common.{refl, sym}
use Rattle.execute.proofs.Went.{settled-goes, settled-stops, after-ok_or}
use Rattle.execute.proofs.steps.settle.Goals as goal

pub returns-in-Ok : goal.returns-in-Ok
returns-in-Ok c = ((λ lent bytes words h x o out e. settled-goes lent x o _ (rw c.in-Ok.is at e) refl), rw c.in-Ok.is at c.requires.anchored.1)

pub returns-in-Err : goal.returns-in-Err
returns-in-Err c =
    let k = c.in-Err.stop in
    ((λ lent bytes words h x o out e. settled-stops lent x o _ k (rw c.in-Err.is at e) refl _ (rw c.ok_or.ensures.value (c.catch_trap.ensures.0 lent bytes words h k (sym c.number.ensures) out))), rw (c.ok_or.ensures.value, after-ok_or c.args.r c.catch_trap.result k) c.catch_trap.ensures.1)
