-- A run does at most as many steps as its budget. Assumes nothing.
use mathlib.Core.Path.{◌≡◌, subst⁻¹}
use mathlib.Core.Bool.{Bool, true, false}
use mathlib.Core.List.{List}
use Prim.Native.Nat.{ℕ, ◌≤◌}
use native.Mathlib.Omega.{arith}
use lib.Dec.{leb}
use Rattle.mcode.specs.Word.{pick}
use Rattle.mcode.specs.Machine.{Live}
use Rattle.mcode.specs.Run.{RunLeft, run_n, tally, step_tally, run_refusal, run_of, refused, stopped, lent_to}
use Rattle.mcode.proofs.Compose.{count_most}

either : (b : Bool) (e r : RunLeft) (n : ℕ) → e.count ≤ n → r.count ≤ n → (pick b e r).count ≤ n
either true e r n l h = l
either false e r n l h = h

module _ (image map inputs : List ℕ) where
  pub run-most : (n : ℕ) (x : Live) → (run_of image map inputs n x).count ≤ n
  unfolding run_of
  run-most n x =
      either (leb 1 (run_refusal image map inputs x.state)) (refused (run_refusal image map inputs x.state) x) (stopped (run_n (step_tally (lent_to image map inputs)) n (tally x 0))) n
      (omega arith) (count_most (step_tally (lent_to image map inputs)) n (tally x 0))

  pub at_most : (n : ℕ) (x : Live) (r : RunLeft) → r ≡ run_of image map inputs n x → r.count ≤ n
  at_most n x r e = subst⁻¹ (λ (q : RunLeft). q.count ≤ n) e (run-most n x)
