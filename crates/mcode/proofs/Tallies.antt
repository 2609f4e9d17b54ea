-- A run that keeps a word beside its state: the word changes nothing of the run, and what it held before is only united. Assumes nothing.
use mathlib.Core.Path.{◌≡◌, refl, sym, ap, ◌∙◌}
use Prim.Native.Nat.{ℕ, zero, suc}
use lib.Bits.{bit_or, or_zero_r}
use Rattle.mcode.specs.declared.Stop.{Stop}
use Rattle.mcode.specs.Machine.{OutcomeOf, go, halt}
use Rattle.mcode.specs.Run.{RunEnd, after, next, run_n, Tally, tally, tallied, tallying}
use Rattle.mcode.proofs.Bits.{or_assoc}

-- without the word; and with c united
abbrev pub bare : {S : Type 0} → RunEnd (Tally S) → RunEnd S
bare e = record { stop = e.stop; count = e.count; state = e.state.state }

abbrev pub united : {S : Type 0} → ℕ → RunEnd (Tally S) → RunEnd (Tally S)
united c e = record { stop = e.stop; count = e.count; state = tally e.state.state (bit_or c e.state.channels) }

-- a step that went on did so without its word, and left it
untallied : {S : Type 0} → OutcomeOf (Tally S) → OutcomeOf S
untallied (go t) = go t.state
untallied (halt k) = halt k

word-or : {S : Type 0} → ℕ → OutcomeOf (Tally S) → ℕ
word-or v (go t) = t.channels
word-or v (halt k) = v

pub tallied-goes : {S : Type 0} (v : ℕ) (o : OutcomeOf S) (y : Tally S) → tallied v o ≡ go y → (o ≡ go y.state) × (y.channels ≡ v)
unfolding untallied word-or
tallied-goes v (go z) y e = (ap untallied e, sym (ap (word-or v) e))
tallied-goes v (halt j) y e = (ap untallied e, sym (ap (word-or v) e))

pub tallied-halts : {S : Type 0} (v : ℕ) (o : OutcomeOf S) (k : Stop) → tallied v o ≡ halt k → o ≡ halt k
unfolding untallied
tallied-halts v (go z) k e = ap untallied e
tallied-halts v (halt j) k e = ap untallied e

module _ {S : Type 0} (f : S → OutcomeOf S) (bits : S → ℕ) where
  abbrev g : Tally S → OutcomeOf (Tally S)
  g = tallying f bits

  pub plain : (n : ℕ) (x : S) (c : ℕ) → bare (run_n g n (tally x c)) ≡ run_n f n x
  unfolding run_n
  plain zero x c = refl
  plain (suc n) x c = from (λ y d. plain n y d) (f x)
    where
      from : ((y : S) (d : ℕ) → bare (run_n g n (tally y d)) ≡ run_n f n y) → (o : OutcomeOf S) → bare (next (run_n g n) (tally x c) (tallied (bit_or c (bits x)) o)) ≡ next (run_n f n) x o
      from ih (go y) = ap (after 1) (ih y (bit_or c (bits x)))
      from ih (halt k) = refl

  unites : (n : ℕ) (x : S) (c d : ℕ) → run_n g n (tally x (bit_or c d)) ≡ united c (run_n g n (tally x d))
  unfolding run_n
  unites zero x c d = refl
  unites (suc n) x c d = from (λ y e. unites n y c e) (f x)
    where
      from : ((y : S) (e : ℕ) → run_n g n (tally y (bit_or c e)) ≡ united c (run_n g n (tally y e))) → (o : OutcomeOf S)
          → next (run_n g n) (tally x (bit_or c d)) (tallied (bit_or (bit_or c d) (bits x)) o) ≡ united c (next (run_n g n) (tally x d) (tallied (bit_or d (bits x)) o))
      from ih (go y) = ap (λ (e : ℕ). after 1 (run_n g n (tally y e))) (or_assoc c d (bits x)) ∙ ap (after 1) (ih y (bit_or d (bits x)))
      from ih (halt k) = refl

  -- a run that begins with c is one that begins with none, united with c
  pub from-none : (n : ℕ) (x : S) (c : ℕ) → run_n g n (tally x c) ≡ united c (run_n g n (tally x 0))
  from-none n x c = ap (λ (e : ℕ). run_n g n (tally x e)) (sym (or_zero_r c)) ∙ unites n x c 0
