-- The trap process: what a step is where an attempt goes on, is caught or stops; a run up to its first trap; and one with word 14 at 0.
-- Assumes nothing.
use mathlib.Core.Path.{◌≡◌, refl, sym, ◌∙◌}
use mathlib.Core.Bool.{Bool, true, false}
use Prim.Native.Nat.{ℕ, zero, suc, ◌-◌, ◌<◌}
use native.Mathlib.Omega.{arith}
use lib.Dec.{leb}
use lib.Bits.{bit_or, or_zero_r}
use borrow.Author.Tests.{eq-eqb}
use Rattle.mcode.specs.declared.Stop.{Stop}
use Rattle.mcode.specs.Word.{and}
use Rattle.mcode.specs.Machine.{Live, OutcomeOf, go, halt, leaving, stop_number}
use Rattle.mcode.specs.Step.{Lent, word_in, attempt_of, is_caught, trapped, step_of, attempt_read}
use Rattle.mcode.specs.Run.{after, next, run_n, Tally, tally, tallied, step_tally, attempt_tally}
use Rattle.mcode.specs.Demands.{Steps, none, more, TrapsFollow, Untrapped}
use Rattle.mcode.proofs.Compose.{count_most, run-steps, steps-run, steps_of}
use Rattle.mcode.proofs.Tallies.{tallied-goes}

module _ (lent : Lent) (x : Live) where
  pub step-goes-on : (y : Live) → attempt_of lent x ≡ go y → step_of lent x ≡ go y
  unfolding step_of
  step-goes-on y e = rw e refl

  pub step-traps : (k : Stop) → attempt_of lent x ≡ halt k → step_of lent x ≡ leaving x.requests (trapped lent k x.state)
  unfolding step_of
  step-traps k e = rw e refl

  -- without a trap process
  none-there : (k : Stop) → word_in x.state 14 ≡ 0 → is_caught lent k x.state ≡ false
  unfolding is_caught
  none-there k z = rw (eq-eqb (word_in x.state 14) 0 z) (neither (leb 32 (stop_number k)))
    where
      neither : (t : Bool) → and t false ≡ false
      neither true = refl
      neither false = refl

  without : word_in x.state 14 ≡ 0 → step_of lent x ≡ attempt_of lent x
  unfolding trapped
  without z = by (attempt_of lent x) refl
    where
      by : (o : OutcomeOf Live) → attempt_of lent x ≡ o → step_of lent x ≡ attempt_of lent x
      by (go y) e = step-goes-on y e ∙ sym e
      by (halt k) e = step-traps k e ∙ (rw (none-there k z) refl) ∙ sym e

-- what is attempted and goes on is a step, with the same bits
pub tally-goes-on : (lent : Lent) (s t : Tally Live) → attempt_tally lent s ≡ go t → step_tally lent s ≡ go t
tally-goes-on lent s t e =
    let v = bit_or s.channels (attempt_read lent s.state) in
    let (f, g) = tallied-goes v (attempt_of lent s.state) t e in
    rw (f, step-goes-on lent s.state t.state f, sym g) refl

-- one that traps takes no channel, also where it is caught
pub tally-traps : (lent : Lent) (x : Live) (c : ℕ) (k : Stop) → attempt_of lent x ≡ halt k → step_tally lent (tally x c) ≡ tallied c (leaving x.requests (trapped lent k x.state))
tally-traps lent x c k e = rw (e, step-traps lent x k e, or_zero_r c) refl

-- the steps of what is attempted are steps
pub steps-attempted : (lent : Lent) {k : ℕ} {x y : Live} → Steps (attempt_of lent) k x y → Steps (step_of lent) k x y
steps-attempted lent s = steps_of (attempt_of lent) (step_of lent) (λ u v e. step-goes-on lent u v e) s

pub traps-follow : TrapsFollow
unfolding TrapsFollow
traps-follow lent n x = steps-run (step_of lent) (steps-attempted lent (run-steps (attempt_of lent) n x)) n (count_most (attempt_of lent) n x)

-- the same with the channels
pub tallies-follow : (lent : Lent) (n : ℕ) (x : Tally Live) → let e = run_n (attempt_tally lent) n x in
    run_n (step_tally lent) n x ≡ after e.count (run_n (step_tally lent) (n - e.count) e.state)
tallies-follow lent n x =
    steps-run (step_tally lent) (steps_of (attempt_tally lent) (step_tally lent) (tally-goes-on lent) (run-steps (attempt_tally lent) n x)) n (count_most (attempt_tally lent) n x)

pub untrapped : Untrapped
unfolding Untrapped run_n
untrapped lent zero x h = refl
untrapped lent (suc n) x h = let q = without lent x (h 0 x (omega arith) none) in rw q (from (λ y g. untrapped lent n y g) (attempt_of lent x) q)
  where
    from : ((y : Live) → ((k : ℕ) (z : Live) → k < n → Steps (step_of lent) k y z → word_in z.state 14 ≡ 0) → run_n (step_of lent) n y ≡ run_n (attempt_of lent) n y)
        → (o : OutcomeOf Live) → step_of lent x ≡ o → next (run_n (step_of lent) n) x o ≡ next (run_n (attempt_of lent) n) x o
    from ih (go y) e = rw (ih y (λ k z l s. h (suc k) z (omega arith) (more e s))) refl
    from ih (halt k) e = refl
