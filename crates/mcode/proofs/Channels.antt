-- A run's word of channels has bit i exactly when one of its steps is a completed READ of channel i. Assumes nothing.
use mathlib.Core.Path.{◌≡◌, refl, sym, ap, ◌∙◌, subst}
use mathlib.Core.Logic.{◌⊎◌, inl, inr, ⊎_elim}
use mathlib.Core.Bool.{Bool, true, false, false≢true}
use mathlib.Core.List.{List}
use Prim.Native.Nat.{ℕ, zero, suc, ◌+◌, ◌^◌, ◌<◌}
use native.Mathlib.Omega.{arith}
use lib.Dec.{eqb}
use lib.Bits.{bit_or}
use borrow.Author.Tests.{eqb-true, eq-eqb, le-leb, lt-leb}
use Rattle.mcode.specs.Word.{pick, or, bit}
use Rattle.mcode.specs.Machine.{Live, OutcomeOf, go, halt, top}
use Rattle.mcode.specs.Step.{Lent, line_of, attempt_of, step_of, completed, step_read}
use Rattle.mcode.specs.Run.{RunEnd, after, next, run_n, Tally, tally, tallied, lent_to, step_tally, run_refusal, run_of}
use Rattle.mcode.specs.Demands.{opcode_at, Steps, none, more, Reads, ReadAmong, ChannelsTold}
use Rattle.mcode.proofs.Tests.{first-or, second-or}
use Rattle.mcode.proofs.Compose.{run-go}
use Rattle.mcode.proofs.Bits.{bit-or, bit-weight, weight-only, no-bit}
use Rattle.mcode.proofs.Tallies.{from-none}
use Rattle.mcode.proofs.Traps.{step-goes-on}

either : (a b : Bool) → or a b ≡ true → (a ≡ true) ⊎ (b ≡ true)
either true b e = inl refl
either false b e = inr e

no_bits : (i : ℕ) → bit 0 i ≡ true → ⊥
no_bits i e = false≢true (sym (no-bit 0 0 i (omega arith) (omega arith)) ∙ e)

module _ (image map inputs : List ℕ) where
  abbrev A : Lent
  A = lent_to image map inputs

  abbrev F : Tally Live → OutcomeOf (Tally Live)
  F = step_tally A

  -- the bit of a step
  reads_of : (x : Live) (i : ℕ) → bit (step_read A x) i ≡ true → Reads image map inputs x i
  reads_of x i = by (attempt_of A x) refl (eqb (line_of x) 0) refl (eqb (opcode_at image x.state.machine) 0o240) refl
    where
      by : (o : OutcomeOf Live) → attempt_of A x ≡ o → (s : Bool) → eqb (line_of x) 0 ≡ s → (t : Bool) → eqb (opcode_at image x.state.machine) 0o240 ≡ t
          → bit (completed (pick s (pick t (2 ^ top x.state.machine) 0) 0) o) i ≡ true → Reads image map inputs x i
      by (halt k) e s f t g h = absurd (no_bits i h)
      by (go y) e false f t g h = absurd (no_bits i h)
      by (go y) e true f false g h = absurd (no_bits i h)
      by (go y) e true f true g h =
          record { alone = eqb-true (line_of x) 0 f; opcode = eqb-true _ _ g; channel = weight-only (top x.state.machine) i h; next = y; done = e }

  of-reads : (x : Live) (i : ℕ) → Reads image map inputs x i → bit (step_read A x) i ≡ true
  of-reads x i r =
      let k : step_read A x ≡ 2 ^ top x.state.machine = rw (r.done, eq-eqb (line_of x) 0 r.alone, eq-eqb (opcode_at image x.state.machine) 0o240 r.opcode) refl in
      ap (λ (d : ℕ). bit d i) k ∙ subst (λ (j : ℕ). bit (2 ^ top x.state.machine) j ≡ true) r.channel (bit-weight (top x.state.machine))

  -- a step that goes on, and the rest of the run with its bit
  goes : (n : ℕ) (x y : Live) (c : ℕ) → step_of A x ≡ go y → run_n F (suc n) (tally x c) ≡ after 1 (run_n F n (tally y (bit_or c (step_read A x))))
  goes n x y c e = run-go F n (tally x c) (tally y (bit_or c (step_read A x))) (ap (tallied (bit_or c (step_read A x))) e)

  later : {c : ℕ} {x y : Live} {i : ℕ} → step_of A x ≡ go y → ReadAmong image map inputs c y i → ReadAmong image map inputs (1 + c) x i
  later e r = record { step = suc r.step; from = r.from; early = omega (arith, r.early); leads = more e r.leads; reads = r.reads }

  told : (n : ℕ) (x : Live) (c i : ℕ) → bit (run_n F n (tally x c)).state.channels i ≡ true → (bit c i ≡ true) ⊎ ReadAmong image map inputs (run_n F n (tally x c)).count x i
  unfolding run_n
  told zero x c i h = inl h
  told (suc n) x c i h = from (λ y. told n y (bit_or c (step_read A x)) i) (step_of A x) refl h
    where
      from : ((y : Live) → bit (run_n F n (tally y (bit_or c (step_read A x)))).state.channels i ≡ true
          → (bit (bit_or c (step_read A x)) i ≡ true) ⊎ ReadAmong image map inputs (run_n F n (tally y (bit_or c (step_read A x)))).count y i)
          → (o : OutcomeOf Live) → step_of A x ≡ o → bit (next (run_n F n) (tally x c) (tallied (bit_or c (step_read A x)) o)).state.channels i ≡ true
          → (bit c i ≡ true) ⊎ ReadAmong image map inputs (next (run_n F n) (tally x c) (tallied (bit_or c (step_read A x)) o)).count x i
      from ih (go y) e h =
          ⊎_elim
          (λ b.
          ⊎_elim inl
          (λ k. inr (record { step = 0; from = x; early = omega arith; leads = none; reads = reads_of x i k })) (either (bit c i) (bit (step_read A x) i) (sym (bit-or c (step_read A x) i) ∙ b)))
          (λ r. inr (later e r)) (ih y h)
      from ih (halt k) e h = inl h

  -- what was in the word stays there
  stays : (n : ℕ) (x : Live) (c i : ℕ) → bit c i ≡ true → bit (run_n F n (tally x c)).state.channels i ≡ true
  stays n x c i b =
      ap (λ (e : RunEnd (Tally Live)). bit e.state.channels i) (from-none (step_of A) (step_read A) n x c) ∙ bit-or c (run_n F n (tally x 0)).state.channels i
      ∙ first-or (bit c i) (bit (run_n F n (tally x 0)).state.channels i) b

  kept : (k n : ℕ) (x y : Live) (c i : ℕ) → k < (run_n F n (tally x c)).count → Steps (step_of A) k x y → Reads image map inputs y i → bit (run_n F n (tally x c)).state.channels i ≡ true
  unfolding run_n
  kept k zero x y c i l s r = absurd (let z : ⊥ = omega arith in z)
  kept k (suc n) x y c i l none r =
      let v = bit_or c (step_read A x) in
      ap (λ (e : RunEnd (Tally Live)). bit e.state.channels i) (goes n x r.next c (step-goes-on A x r.next r.done))
      ∙ stays n r.next v i (bit-or c (step_read A x) i ∙ second-or (bit c i) (bit (step_read A x) i) (of-reads x i r))
  kept k (suc n) x y c i l (more {k = j} {y = z} e s) r =
      let g = goes n x z c e in
      let h : suc j < 1 + (run_n F n (tally z (bit_or c (step_read A x)))).count = subst (λ (d : RunEnd (Tally Live)). suc j < d.count) g l in
      ap (λ (d : RunEnd (Tally Live)). bit d.state.channels i) g ∙ kept j n z y (bit_or c (step_read A x)) i (omega (arith, h)) s r

  exact : (n : ℕ) (x : Live) (i : ℕ) → let e = run_n F n (tally x 0) in
      (bit e.state.channels i ≡ true → ReadAmong image map inputs e.count x i) × (ReadAmong image map inputs e.count x i → bit e.state.channels i ≡ true)
  exact n x i = (λ b. ⊎_elim (λ z. absurd (no_bits i z)) (λ r. r) (told n x 0 i b), λ r. kept r.step n x r.from 0 i r.early r.leads r.reads)

pub channels-told : ChannelsTold
unfolding ChannelsTold run_of
channels-told image map inputs n x =
    (λ l. rw (le-leb 1 (run_refusal image map inputs x.state) l) refl, λ z i. rw (lt-leb 1 (run_refusal image map inputs x.state) (omega (arith, z))) (exact image map inputs n x i))
