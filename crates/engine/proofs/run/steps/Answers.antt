use mathlib.Core.Path.{◌≡◌, refl, ap, ◌∙◌}
use mathlib.Core.List.{List}
use Prim.Native.Nat.{ℕ, ◌-◌}
use Rattle.std.proofs.Common.{rules}
use Rattle.std.specs.Prelude.{Err}
use Rattle.mcode.specs.declared.Machine.{Machine}
use Rattle.mcode.specs.declared.Registers.{Registers}
use Rattle.mcode.specs.declared.Stop.{Stop}
use Rattle.mcode.specs.Machine.{state, live, machine}
use Rattle.mcode.specs.Run.{Stopped, RunLeft, run_n, tally, step_tally, stopped}
use Rattle.actions.specs.Core.{shown}
use Rattle.engine.specs.declared.steps.Stepping.{Stepping}
use Rattle.engine.specs.Loops.{Advances, lent_by}
use Rattle.engine.proofs.Turns.{near, loaded-few, ready}
use Rattle.engine.proofs.run.steps.Goals as goal

pub core_of-core-requires : goal.core_of-core-requires
core_of-core-requires c = loaded-few _ _ _ _ c.requires.prepared _ c.requires.machine

pub steps-stop-requires : goal.steps-stop-requires
steps-stop-requires c = ready c.requires c.core_of-core.ensures.0 refl c.core_of-core.ensures.1

pub machine_of-last-requires : goal.machine_of-last-requires
machine_of-last-requires c = let R = c.steps-stop.ensures.ready in (R.anchored.few, R.anchored.own, near R)

-- where the loops ended is where the run did, with the last machine and what is left behind the references
ends : {a b : Stepping} {k : Stop} {g : Registers} → Advances step_tally a (Err k) b → shown a.core ≡ g → (last : Machine) → last ≡ machine (shown b.core) b.stack → (store outputs : List ℕ) → store ≡ b.store.now → outputs ≡ b.outputs.now
    → ◌≡◌ {A = RunLeft} (record { ending = Stopped k; count = a.left - b.left; state = live (state last store outputs) b.requests; channels = b.taken })
    (stopped (run_n (step_tally (lent_by a)) a.left (tally (live (state (machine g a.stack) a.store.now a.outputs.now) a.requests) a.taken)))
ends {a} A e last m store outputs s o = rw (m, s, o) (ap stopped A.leads.1 ∙ ap (λ (r : Registers). stopped (run_n (step_tally (lent_by a)) a.left (tally (live (state (machine r a.stack) a.store.now a.outputs.now) a.requests) a.taken))) e)

pub returns : goal.returns
returns c = ends c.steps-stop.ensures c.core_of-core.ensures.0 _ c.machine_of-last.ensures _ _ (search rules) (search rules)
