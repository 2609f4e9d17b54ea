-- Load, start and two runs, case by case, and demand 3 of the list. Assumes nothing.
use mathlib.Core.Path.{◌≡◌, refl, sym, ap, ◌∙◌}
use mathlib.Core.List.{List, [], ◌∷◌}
use Prim.Native.Nat.{ℕ}
use native.Mathlib.Omega.{arith}
use borrow.Author.Tests.{le-leb}
use Rattle.std.proofs.Common.{Ok, Err}
use Rattle.mcode.specs.Machine.{state, live}
use Rattle.mcode.specs.Run as Run
use Rattle.mcode.specs.Run.{RunLeft, verdict, start_of, run_of, Loads}
use Rattle.mcode.specs.Answer.{refusal_number, refusal_verdict}
use Rattle.mcode.specs.Demands.{Request, answer, Demand3}
use Rattle.mcode.specs.declared.Machine.{Machine}
use Rattle.mcode.specs.declared.Refusal.{Refusal}
use Rattle.mcode.specs.declared.Refusal.TheVariants.{ImageSize, ModuleCount, ImageEnds, BytesAfter, BitMap, Field, MapShort, NoDepths, StoreSize, ChannelCount, NotAMachine, MapUnfit, NotWhole, OutputShort}
use Rattle.mcode.proofs.Session.{demand3}
use Rattle.engine.specs.declared.run.Ran.{Ran}
use Rattle.engine.specs.Ran.{answered}
use Rattle.engine.specs.Closed.{started_of, Closes}
use Rattle.loader.specs.Begin.{begun}
use Rattle.loader.specs.Load.{LoadsPlace}
use Rattle.loader.proofs.Begin.{start-leaves, start-low}
use Rattle.loader.proofs.Early.{numbered}

-- the number of a refusal's verdict
pub verdict_number : (k : Refusal) → (refusal_verdict k).number ≡ refusal_number k
verdict_number ImageSize = refl
verdict_number ModuleCount = refl
verdict_number ImageEnds = refl
verdict_number BytesAfter = refl
verdict_number BitMap = refl
verdict_number Field = refl
verdict_number MapShort = refl
verdict_number NoDepths = refl
verdict_number StoreSize = refl
verdict_number ChannelCount = refl
verdict_number NotAMachine = refl
verdict_number MapUnfit = refl
verdict_number (NotWhole unit pc) = refl
verdict_number OutputShort = refl

module _ (image before store outputs : List ℕ) (p q : Request) (after : List ℕ) where
  pub load-ends : (k : Refusal) → Loads image before (refusal_verdict k) after → Closes image before store outputs p q (Err k) after store outputs
  load-ends k L = record {
    loaded = refusal_verdict k;
    loads = L;
    number = rw (verdict_number k, le-leb 1 (refusal_number k) (numbered k)) refl;
    leaves = record { kept = refl; unchanged = refl };
  }

  module _ (L : Loads image before (verdict 0) after) where
    pub start-ends : (k : Refusal) (left : List ℕ) → begun (Err k) left ≡ start_of image store → Closes image before store outputs p q (Err k) after left outputs
    start-ends k left e =
        let n = ap (λ (x : Run.Started). x.number) e in
        record {
          loaded = verdict 0;
          loads = L;
          number = n;
          leaves = record { kept = ap (λ (x : Run.Started). x.store) e ∙ start-leaves image store (omega (arith, n, numbered k)); unchanged = refl };
        }

    pub both_run : (m : Machine) (left : List ℕ) → begun (Ok m) left ≡ start_of image store → (one two : Ran) (store₁ outputs₁ store₂ outputs₂ : List ℕ)
        → answered one store₁ outputs₁ ≡ run_of image after p.inputs p.budget (live (state m left outputs) p.requests)
        → answered two store₂ outputs₂ ≡ run_of image after q.inputs q.budget (live (state one.machine store₁ outputs₁) q.requests)
        → Closes image before store outputs p q (Ok (one, two)) after store₂ outputs₂
    unfolding Demand3
    both_run m left e one two store₁ outputs₁ store₂ outputs₂ a b =
        let first : answered one store₁ outputs₁ ≡ answer image after p (started_of image store outputs) = a ∙ ap (λ (x : Run.Started). run_of image after p.inputs p.budget (live (state x.machine x.store outputs) p.requests)) e in
        let n : 0 ≡ (start_of image store).number = ap (λ (x : Run.Started). x.number) e in
        record {
          loaded = verdict 0;
          loads = L;
          number = n;
          leaves = record {
            ending = ap (λ (x : RunLeft). x.ending) first;
            count = ap (λ (x : RunLeft). x.count) first;
            machine = ap (λ (x : RunLeft). x.state.state.machine) first;
            requests = ap (λ (x : RunLeft). x.state.requests) first;
            channels = ap (λ (x : RunLeft). x.channels) first;
            second = b ∙ ap (λ (x : RunLeft). run_of image after q.inputs q.budget (live x.state.state q.requests)) first;
            owed = λ o. demand3 image before after L store outputs (sym n) o (p ∷ q ∷ []);
          };
        }

-- start's refusals have no place
pub start-placed : (image store before after : List ℕ) (k : Refusal) (left : List ℕ) → begun (Err k) left ≡ start_of image store → LoadsPlace image before after k
start-placed image store before after k left e t =
    absurd (let f : ⊥ = omega (arith, t, ap (λ (x : Run.Started). x.number) e, start-low image store) in f)
