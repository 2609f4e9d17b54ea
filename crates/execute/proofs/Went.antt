-- What a step's answer says of the definition's outcome: no stop, and it went on to the state that is held; a stop, and all is as before.
-- Assumes nothing.
use mathlib.Core.Path.{◌≡◌, refl, sym, ap, ◌∙◌}
use mathlib.Core.Logic.{◌⊎◌, inl, inr}
use mathlib.Core.Bool.{Bool, true, false}
use mathlib.Core.List.{List}
use Prim.Native.Nat.{ℕ, ◌≤◌}
use lib.Dec.{eqb}
use native.Mathlib.Omega.{arith}
use borrow.Author.Tests.{eqb-true, eqb-false}
use Rattle.mcode.specs.Word.{pick}
use Rattle.std.specs.Prelude.{Option, Some, None, ok_or, unwrap_or}
use Rattle.mcode.specs.Machine.{State, state, Outcome, go, halt, handled, stop_number}
use Rattle.mcode.specs.declared.Machine.{Machine}
use Rattle.mcode.specs.declared.Stop.{Stop}
use Rattle.mcode.specs.declared.Stop.TheVariants.{Spent, Ended, BadAddress, StackLimit, ReturnMark, BadProcess, ZeroDivisor, ResultRange, CheckFailed, BadChannel, Program as OfProgram}
use Rattle.mcode.specs.Step.{Lent, instruction_of, trapped}
use Rattle.actions.specs.declared.Core.{Core}
use Rattle.actions.specs.Core.{Left, after, left_by}
use Rattle.execute.specs.Stepping.{turned}

-- the numbers of the stops
stop-range : (k : Stop) → (30 ≤ stop_number k) × (stop_number k ≤ 40)
stop-range Spent = (omega arith, omega arith)
stop-range Ended = (omega arith, omega arith)
stop-range BadAddress = (omega arith, omega arith)
stop-range StackLimit = (omega arith, omega arith)
stop-range ReturnMark = (omega arith, omega arith)
stop-range BadProcess = (omega arith, omega arith)
stop-range ZeroDivisor = (omega arith, omega arith)
stop-range ResultRange = (omega arith, omega arith)
stop-range CheckFailed = (omega arith, omega arith)
stop-range BadChannel = (omega arith, omega arith)
stop-range (OfProgram n) = (omega arith, omega arith)

pub stop-most : (k : Stop) → stop_number k ≤ 40
stop-most k = (stop-range k).1

pub a-stop : (k : Stop) → stop_number k ≡ 0 → ⊥
a-stop k z = let l = (stop-range k).0 in omega (arith, l, z)

pub went_on : (x : State) (o : Outcome) (l : Left) → l ≡ left_by x o → l.stop ≡ None → o ≡ go l.state
went_on x (go y) l e z = ap go (sym (ap (λ (a : Left). a.state) e))
went_on x (halt k) l e z = cc (ap (λ (a : Left). a.stop) e, z)

pub record Stopped (x : State) (o : Outcome) (l : Left) : Type 0 where
  pub why : Stop
  pub halts : o ≡ halt why
  pub stop : l.stop ≡ Some why
  pub same : l.state ≡ x

pub stopped : (x : State) (o : Outcome) (l : Left) → l ≡ left_by x o → (l.stop ≡ None → ⊥) → Stopped x o l
stopped x (go y) l e n = absurd (n (ap (λ (a : Left). a.stop) e))
stopped x (halt k) l e n = record { why = k; halts = refl; stop = ap (λ (a : Left). a.stop) e; same = ap (λ (a : Left). a.state) e }

-- ---- the same of a turn with a budget of n steps

pub turn-goes : (lent : Lent) (n : ℕ) (x : State) (l : Left) → l ≡ turned lent n x → l.stop ≡ None → (n ≡ 0 → ⊥) × (instruction_of lent x ≡ go l.state)
turn-goes lent n x l e z = by (eqb n 0) refl e
  where
    by : (spent : Bool) → eqb n 0 ≡ spent → l ≡ pick spent (record { stop = Some Spent; state = x }) (left_by x (instruction_of lent x)) → (n ≡ 0 → ⊥) × (instruction_of lent x ≡ go l.state)
    by true t e = cc (ap (λ (a : Left). a.stop) e, z)
    by false t e = (eqb-false n 0 t, went_on x (instruction_of lent x) l e z)

pub turn-stops : (lent : Lent) (n : ℕ) (x : State) (l : Left) → l ≡ turned lent n x → (l.stop ≡ None → ⊥)
    → ((n ≡ 0) × (l ≡ record { stop = Some Spent; state = x })) ⊎ ((n ≡ 0 → ⊥) × Stopped x (instruction_of lent x) l)
turn-stops lent n x l e s = by (eqb n 0) refl e
  where
    by : (spent : Bool) → eqb n 0 ≡ spent → l ≡ pick spent (record { stop = Some Spent; state = x }) (left_by x (instruction_of lent x))
        → ((n ≡ 0) × (l ≡ record { stop = Some Spent; state = x })) ⊎ ((n ≡ 0 → ⊥) × Stopped x (instruction_of lent x) l)
    by true t e = inl (eqb-true n 0 t, e)
    by false t e = inr (eqb-false n 0 t, stopped x (instruction_of lent x) l e s)

-- ---- the trap of a stop

module _ (lent : Lent) (x : State) where
  pub settled-goes : (o : Outcome) (l : Left) → l ≡ left_by x o → l.stop ≡ None → l ≡ left_by x (handled (λ k. trapped lent k x) o)
  settled-goes (go y) l e z = e
  settled-goes (halt k) l e z = cc (ap (λ (a : Left). a.stop) e, z)

  pub settled-stops : (o : Outcome) (l : Left) (k : Stop) → l ≡ left_by x o → l.stop ≡ Some k → (t : Left) → t ≡ left_by l.state (trapped lent k l.state) → t ≡ left_by x (handled (λ k. trapped lent k x) o)
  settled-stops (go y) l k e n t f = cc (ap (λ (a : Left). a.stop) e, n)
  settled-stops (halt j) l k e n t f =
      let p : Some k ≡ Some j = sym n ∙ ap (λ (a : Left). a.stop) e in
      let q : k ≡ j = cc in
      let s : l.state ≡ x = ap (λ (a : Left). a.state) e in
      f ∙ rw (q, s) refl

-- where none catches it, the registers are those before it
pub after-ok_or : (r : Core) (o : Option Core) (k : Stop) → after r (ok_or o k) ≡ unwrap_or o r
after-ok_or r (Some q) k = refl
after-ok_or r None k = refl

-- what a stop leaves is the machine as it was
pub stop-keeps : (x : State) (o : Outcome) (k : Stop) (m : Machine) (store out : List ℕ) → ◌≡◌ {A = Left} (record { stop = Some k; state = state m store out }) (left_by x o)
    → ◌≡◌ {A = Left} (record { stop = Some k; state = state x.machine store out }) (left_by x o)
stop-keeps x (go y) k m store out e = cc (ap (λ (a : Left). a.stop) e)
stop-keeps x (halt j) k m store out e =
    let s : m ≡ x.machine = ap (λ (a : Left). a.state.machine) e in
    rw s at e
