-- What the stepping loops hold before a turn, and what a turn of each answers. Assumes nothing.
use Rattle.std.specs.Prelude.{◌≡◌, true, ℕ, ◌-◌, ◌≤◌, ◌<◌, length, ltb, eqb, Result, Ok, Err}
use Rattle.mcode.specs.Word.{pick}
use Rattle.mcode.specs.Image.{parse}
use Rattle.mcode.specs.Machine.{State, Live, live, OutcomeOf, machine, is_machine}
use Rattle.mcode.specs.Step.{Lent}
use Rattle.mcode.specs.Run.{RunEnd, Tally, tally, after, run_n, lent_to, instruction_tally}
use Rattle.mcode.specs.declared.Stop.{Stop}
use Rattle.actions.specs.Core.{shown, held}
use Rattle.actions.specs.Table.{Anchored}
use Rattle.execute.specs.Stepping.{Prepared}
use Rattle.engine.specs.declared.steps.Stepping.{Stepping}

-- ---- what is held

abbrev pub lent_by : Stepping → Lent
lent_by a = lent_to a.image.now a.map.now a.inputs.now

abbrev pub held_by : Stepping → State
held_by a = held a.core a.stack a.store.now a.outputs.now

abbrev pub live_at : Stepping → Live
live_at a = live (held_by a) a.requests

abbrev pub tally_at : Stepping → Tally Live
tally_at a = tally (live_at a) a.taken

-- the registers and the stack of a machine that stands, with all that was tested before the first step
pub record Ready (a : Stepping) : Type 0 where
  pub prepared : Prepared a.image.now a.table.now a.map.now (length a.store.now)
  pub good : is_machine (parse a.image.now).program a.map.now (length a.store.now) (machine (shown a.core) a.stack) ≡ true
  pub anchored : Anchored a.table.now a.core
  pub outputs : length a.outputs.now ≡ 16
  pub inputs : length a.inputs.now ≡ 16

-- what was lent is lent still, and the store keeps its length
pub record Keeps (a b : Stepping) : Type 0 where
  pub image : b.image ≡ a.image
  pub table : b.table ≡ a.table
  pub map : b.map ≡ a.map
  pub inputs : b.inputs ≡ a.inputs
  pub store : b.store.ghost_name ≡ a.store.ghost_name
  pub outputs : b.outputs.ghost_name ≡ a.outputs.ghost_name
  pub sized : length b.store.now ≡ length a.store.now

-- ---- what a turn answers

-- where a run ended
abbrev pub ended_at : {S : Type 0} → Stop → ℕ → S → RunEnd S
ended_at stop n x = record { stop = stop; count = n; state = x }

-- from a to b, over steps of f: the rest of the run is still to do, and is less; or it found how the run ends
abbrev pub Leads : (Lent → Tally Live → OutcomeOf (Tally Live)) → Stepping → Result Unit Stop → Stepping → Type 0
Leads f a (Ok done) b = (b.left < a.left) × (run_n (f (lent_by a)) a.left (tally_at a) ≡ after (a.left - b.left) (run_n (f (lent_by a)) b.left (tally_at b)))
Leads f a (Err stop) b = (b.left ≤ a.left) × (ended_at stop (a.left - b.left) (tally_at b) ≡ run_n (f (lent_by a)) a.left (tally_at a))

pub record Advances (f : Lent → Tally Live → OutcomeOf (Tally Live)) (a : Stepping) (answer : Result Unit Stop) (b : Stepping) : Type 0 where
  pub leads : Leads f a answer b
  pub ready : Ready b
  pub keeps : Keeps a b

-- a stretch of up to n instructions, which ended so
pub record Stretched (n : ℕ) (a : Stepping) (stop : Stop) (b : Stepping) : Type 0 where
  pub most : b.left ≤ a.left
  pub ends : ended_at stop (a.left - b.left) (tally (held_by b) b.taken) ≡ run_n (instruction_tally (lent_by a)) n (tally (held_by a) a.taken)
  pub requests : b.requests ≡ a.requests
  pub ready : Ready b
  pub keeps : Keeps a b

-- all that are left where no line is in the requests, one where one waits
abbrev pub stretch_of : ℕ → ℕ → ℕ
stretch_of left requests = pick (ltb requests 256) left (pick (eqb left 0) 0 1)
