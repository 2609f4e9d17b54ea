-- "A whole reading": load, then start, then one run with load's map; "the desk program gives 0" for the requests. The first refusal ends it,
-- with a machine of zeros.
use Rattle.std.specs.Prelude.{◌≡◌, ℕ, List, leb}
use Rattle.mcode.specs.Word.{pick}
use Rattle.mcode.specs.Machine.{state, live, zero_machine}
use Rattle.mcode.specs.Run.{Verdict, RunLeft, refused, run_of, start_of, Loads}

-- what is left after load has answered a number and left a map
unfoldable pub reading_of : ℕ → List ℕ → List ℕ → List ℕ → List ℕ → List ℕ → ℕ → RunLeft
reading_of number image map store outputs inputs n =
    let s = start_of image store in
    pick (leb 1 number) (refused number (live (state zero_machine store outputs) 0))
    (pick (leb 1 s.number) (refused s.number (live (state zero_machine store outputs) 0))
    (run_of image map inputs n (live (state s.machine s.store outputs) 0)))

-- the answer, the store, the outputs and the map that a whole reading leaves
pub record Reads (image before store outputs inputs : List ℕ) (n : ℕ) (left : RunLeft) (after : List ℕ) : Type 0 where
  pub verdict : Verdict
  pub loads : Loads image before verdict after
  pub rest : left ≡ reading_of verdict.number image after store outputs inputs n
