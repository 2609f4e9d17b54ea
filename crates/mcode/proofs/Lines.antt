-- A step has the right outcome: a transfer that a line or a trap makes keeps a machine standing, as an instruction does. Assumes nothing.
use mathlib.Core.Path.{◌≡◌, refl, ◌∙◌, subst}
use mathlib.Core.Bool.{Bool, true, false, not}
use mathlib.Core.List.{List}
use Prim.Native.Nat.{ℕ, ◌+◌, ◌-◌, ◌*◌, ◌^◌, ◌≤◌}
use native.Mathlib.Omega.{arith}
use lib.ListN.{length, length-set}
use lib.Dec.{leb, eqb}
use borrow.Author.Tests.{leb-true, eqb-true, eqb-false}
use Rattle.mcode.specs.declared.Stop.{Stop}
use Rattle.mcode.specs.Word.{pick, or}
use Rattle.mcode.specs.Machine.{State, Live, live, OutcomeOf, Outcome, go, halt, leaving, handled, stop_number}
use Rattle.mcode.specs.Step.{word_in, is_target, changed, switched, instruction_of, line_of, taken_line, attempt_of, noted, is_caught, caught, trapped, step_of}
use Rattle.mcode.specs.Demands.{Leaves}
use Rattle.mcode.proofs.Tests.{and_both}
use Rattle.mcode.proofs.Shapes.{Here, P, R, D, M, Ok}
use Rattle.mcode.proofs.Faults.{Found}
use Rattle.mcode.proofs.Right.{Rightly, on, off, by-test}
use Rattle.mcode.proofs.Frames.{changed-ok}
use Rattle.mcode.proofs.Keeps.{step-goes, step-halts}

module _ (H : Here) where
  -- what line i did: the process is another, or its target was P
  pub data Took (i : ℕ) (y : State) : Type 0 where
    changes : Leaves (P H) H.x H.x.store (2 * i + 1) y → Took i y
    stays : y.machine ≡ M H → Took i y

  -- a change of process with the whole stack saved
  away : (store : List ℕ) → length store ≡ length H.x.store → (c q : ℕ) → is_target H.lent q H.x ≡ true
      → let y = changed H.lent 1 (R H).pc (D H) c q store H.x in Ok H y × Leaves (P H) H.x store c y
  unfolding changed
  away store z c q t = let k = changed-ok H 1 (R H).pc (D H) c q store z t in (k, record { saves = refl; few = k.good.at.few })

  taken-right : (i : ℕ) → Rightly H (Took i) (taken_line H.lent i H.x)
  unfolding taken_line switched
  taken-right i =
      let q = word_in H.x (2 * i) in
      by-test H (eqb q (R H).p.0)
      (λ t. on (record { good = H.kept.good; sized = length-set H.x.store (2 * i + 1) (R H).p.0 ∙ H.kept.sized; outs = H.kept.outs }) (stays refl))
      (λ t. by-test H (is_target H.lent q H.x) (λ u. let (k, d) = away H.x.store refl (2 * i + 1) q u in on k (changes d)) (λ u. off tt))

  -- what a trap k did that is caught
  abbrev pub Trapped : Stop → State → Type 0
  Trapped k y = (32 ≤ stop_number k) × Leaves (P H) H.x (noted k H.x) 15 y

  caught-right : (k : Stop) → is_caught H.lent k H.x ≡ true → Ok H (caught H.lent k H.x) × Trapped k (caught H.lent k H.x)
  unfolding is_caught caught
  caught-right k t =
      let q = word_in H.x 14 in
      let (a, b) = and_both (leb 32 (stop_number k)) _ t in
      let (c, d) = and_both (not (or (eqb q 0) (eqb q (R H).p.0))) (is_target H.lent q H.x) b in
      let (g, l) = away (noted k H.x) (length-set H.x.store ((R H).p.0 + 6) (stop_number k)) 15 q d in
      (g, (leb-true 32 (stop_number k) a, l))

-- ---- a step of a run, with the requests w

module _ (H : Here) (w : ℕ) where
  abbrev X : Live
  X = live H.x w

  -- it is the instruction's, where no line is taken, or the line's, or that of a trap
  pub data Went (y : Live) : Type 0 where
    instruction : line_of X ≡ 0 → instruction_of H.lent H.x ≡ go y.state → Went y
    line : 1 ≤ line_of X → Took H (line_of X) y.state → Went y
    trap : (k : Stop) → attempt_of H.lent X ≡ halt k → Trapped H k y.state → Went y

  abbrev StepSays : OutcomeOf Live → Type 0
  StepSays (go y) = Ok H y.state × Went y
  StepSays (halt k) = Found k

  by-instruction : line_of X ≡ 0 → (o : Outcome) → instruction_of H.lent H.x ≡ o → StepSays (leaving w o)
  by-instruction z (go y) e = ((step-goes H e).0, instruction z e)
  by-instruction z (halt k) e = step-halts H e

  by-line : 1 ≤ line_of X → (v : ℕ) {o : Outcome} → Rightly H (Took H (line_of X)) o → StepSays (leaving v o)
  by-line z v (on k d) = (k, line z d)
  by-line z v (off f) = f

  attempt-says : StepSays (attempt_of H.lent X)
  unfolding attempt_of
  attempt-says = by (eqb (line_of X) 0) refl
    where
      by : (t : Bool) → eqb (line_of X) 0 ≡ t → StepSays (pick t (leaving w (instruction_of H.lent H.x)) (leaving (w - 2 ^ line_of X) (taken_line H.lent (line_of X) H.x)))
      by true t = by-instruction (eqb-true _ _ t) (instruction_of H.lent H.x) refl
      by false t = let n = eqb-false (line_of X) 0 t in by-line (omega (arith, n)) (w - 2 ^ line_of X) (taken-right H (line_of X))

  step-says : StepSays (step_of H.lent X)
  unfolding step_of trapped
  step-says = by (attempt_of H.lent X) refl attempt-says
    where
      or-caught : (k : Stop) → attempt_of H.lent X ≡ halt k → Found k → (t : Bool) → is_caught H.lent k H.x ≡ t
          → StepSays (leaving w (pick t (go (caught H.lent k H.x)) (halt k)))
      or-caught k e f true t = let (g, d) = caught-right H k t in (g, trap k e d)
      or-caught k e f false t = f

      by : (o : OutcomeOf Live) → attempt_of H.lent X ≡ o → StepSays o → StepSays (handled (λ k. leaving w (trapped H.lent k H.x)) o)
      by (go y) e s = s
      by (halt k) e s = or-caught k e s (is_caught H.lent k H.x) refl

  pub live-goes : {y : Live} → step_of H.lent X ≡ go y → Ok H y.state × Went y
  live-goes e = subst StepSays e step-says

  pub live-halts : {k : Stop} → step_of H.lent X ≡ halt k → Found k
  live-halts e = subst StepSays e step-says
