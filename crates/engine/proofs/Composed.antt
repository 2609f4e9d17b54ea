-- Running n and then m, at least 1, is running n + m, where the second run gets the requests that the first returned: of the answers of `run`
-- themselves, from its contract. Assumes nothing.
use mathlib.Core.Path.{◌≡◌, ap, sym, ◌∙◌}
use mathlib.Core.List.{List}
use Prim.Native.Nat.{ℕ, ◌+◌, ◌≤◌}
use Rattle.mcode.specs.Machine.{Live, state, live}
use Rattle.mcode.specs.Run.{RunLeft, run_of}
use Rattle.mcode.specs.Demands.{RunsCompose, joined}
use Rattle.mcode.proofs.RunsCompose.{runs-compose}
use Rattle.engine.specs.declared.run.Ran.{Ran}
use Rattle.engine.specs.Ran.{answered}

-- three answers with the same image, map and inputs: of n steps from x, of m steps from what that left, and of n + m steps from x
pub run-composes : (image map inputs : List ℕ) (n m : ℕ) (x : Live) → 1 ≤ m
    → (a b c : Ran) (store₁ outputs₁ store₂ outputs₂ store outputs : List ℕ)
    → answered a store₁ outputs₁ ≡ run_of image map inputs n x
    → answered b store₂ outputs₂ ≡ run_of image map inputs m (live (state a.machine store₁ outputs₁) a.requests)
    → answered c store outputs ≡ run_of image map inputs (n + m) x
    → answered c store outputs ≡ joined (answered a store₁ outputs₁) (answered b store₂ outputs₂)
unfolding RunsCompose
run-composes image map inputs n m x l a b c store₁ outputs₁ store₂ outputs₂ store outputs p q r =
    let second : answered b store₂ outputs₂ ≡ run_of image map inputs m (run_of image map inputs n x).state = q ∙ ap (λ (y : RunLeft). run_of image map inputs m y.state) p in
    r ∙ runs-compose image map inputs n m x l
    ∙ sym (ap (λ (y : RunLeft). joined y (answered b store₂ outputs₂)) p ∙ ap (λ (y : RunLeft). joined (run_of image map inputs n x) y) second)
