-- Runs one behind another, from the answer of a run of no steps, are one run. Assumes nothing.
use mathlib.Core.Path.{◌≡◌, refl, sym, ap, ◌∙◌}
use mathlib.Core.Bool.{Bool, true, false}
use mathlib.Core.List.{List}
use Prim.Native.Nat.{ℕ, ◌+◌, ◌≤◌}
use lib.Dec.{leb}
use Rattle.mcode.specs.Word.{pick}
use Rattle.mcode.specs.Machine.{Live}
use Rattle.mcode.specs.Run.{RunLeft, tally, ended, refused, stopped, run_n, run_refusal, run_of}
use Rattle.mcode.specs.declared.Stop.TheVariants.{Spent}
use Rattle.mcode.specs.Demands.{joined, RunsCompose}
use Rattle.mcode.proofs.RunsCompose.{runs-compose}

either : (b : Bool) (k : ℕ) (x : Live) → (pick b (refused k x) (stopped (ended Spent (tally x 0)))).state ≡ x
either true k x = refl
either false k x = refl

module _ (image map inputs : List ℕ) where
  unmoved : (x : Live) → (run_of image map inputs 0 x).state ≡ x
  unfolding run_of run_n
  unmoved x = either (leb 1 (run_refusal image map inputs x.state)) (run_refusal image map inputs x.state) x

  -- a run of no steps leaves the state as it was
  kept : (x : Live) (r : RunLeft) → r ≡ run_of image map inputs 0 x → r.state ≡ x
  kept x r e = ap (λ (q : RunLeft). q.state) e ∙ unmoved x

  pub begins : (x : Live) (r : RunLeft) → r ≡ run_of image map inputs 0 x → r ≡ run_of image map inputs 0 r.state
  begins x r e = e ∙ ap (run_of image map inputs 0) (sym (kept x r e))

  -- m steps after k
  pub goes_on : (k m : ℕ) (x : Live) (a b : RunLeft) → 1 ≤ m → a ≡ run_of image map inputs k x → b ≡ joined a (run_of image map inputs m a.state) → b ≡ run_of image map inputs (k + m) x
  unfolding RunsCompose
  goes_on k m x a b l e g = g ∙ ap (λ (q : RunLeft). joined q (run_of image map inputs m q.state)) e ∙ sym (runs-compose image map inputs k m x l)

  pub from_start : (k : ℕ) (x : Live) (r a : RunLeft) → r ≡ run_of image map inputs 0 x → a ≡ run_of image map inputs k r.state → a ≡ run_of image map inputs k x
  from_start k x r a e g = g ∙ ap (run_of image map inputs k) (kept x r e)

  -- the whole budget
  pub all-run : (n k : ℕ) (x : Live) (a : RunLeft) → k ≡ n → a ≡ run_of image map inputs k x → a ≡ run_of image map inputs n x
  all-run n k x a q g = g ∙ ap (λ (j : ℕ). run_of image map inputs j x) q
