-- What load, start and two runs answer and leave, one after another, and that demand 3 holds of them.
use Rattle.std.specs.Prelude.{◌≡◌, List, [], ◌∷◌, ℕ, length, leb, Result, Ok, Err}
use Rattle.mcode.specs.Word.{pick}
use Rattle.mcode.specs.Machine.{State, state}
use Rattle.mcode.specs.Run.{Verdict, start_of, Loads}
use Rattle.mcode.specs.Demands.{Request, answer, AllRuns}
use Rattle.mcode.specs.Answer.{refusal_number, ending_of}
use Rattle.mcode.specs.declared.Refusal.{Refusal}
use Rattle.engine.specs.declared.run.Ran.{Ran}
use Rattle.engine.specs.Ran.{answered}

-- what an accepted start leaves, with the caller's outputs
abbrev pub started_of : List ℕ → List ℕ → List ℕ → State
started_of image store outputs = state (start_of image store).machine (start_of image store).store outputs

-- the two runs of an accepted load and start: each answers what the definition says, and with 16 outputs all that demand 3 owes holds of the list
pub record Ran2 (image map store outputs : List ℕ) (p q : Request) (one two : Ran) (store' outputs' : List ℕ) : Type 0 where
  pub ending : ending_of one.ending ≡ (answer image map p (started_of image store outputs)).ending
  pub count : one.count ≡ (answer image map p (started_of image store outputs)).count
  pub machine : one.machine ≡ (answer image map p (started_of image store outputs)).state.state.machine
  pub requests : one.requests ≡ (answer image map p (started_of image store outputs)).state.requests
  pub channels : one.channels ≡ (answer image map p (started_of image store outputs)).channels
  pub second : answered two store' outputs' ≡ answer image map q (answer image map p (started_of image store outputs)).state.state
  pub owed : length outputs ≡ 16 → AllRuns image map (p ∷ q ∷ []) (started_of image store outputs)

-- a refusal by load or by start: nothing has run
pub record NoRun (store outputs store' outputs' : List ℕ) : Type 0 where
  pub kept : store' ≡ store
  pub unchanged : outputs' ≡ outputs

-- the number of load's or start's refusal, or 0
abbrev pub number_of : Result (Ran × Ran) Refusal → ℕ
number_of (Ok runs) = 0
number_of (Err refusal) = refusal_number refusal

abbrev pub Leaves : List ℕ → List ℕ → List ℕ → List ℕ → Request → Request → Result (Ran × Ran) Refusal → List ℕ → List ℕ → Type 0
Leaves image map store outputs p q (Ok runs) store' outputs' = Ran2 image map store outputs p q runs.0 runs.1 store' outputs'
Leaves image map store outputs p q (Err refusal) store' outputs' = NoRun store outputs store' outputs'

pub record Closes (image before store outputs : List ℕ) (p q : Request) (r : Result (Ran × Ran) Refusal) (after store' outputs' : List ℕ) : Type 0 where
  pub loaded : Verdict
  pub loads : Loads image before loaded after
  pub number : number_of r ≡ pick (leb 1 loaded.number) loaded.number (start_of image store).number
  pub leaves : Leaves image after store outputs p q r store' outputs'
