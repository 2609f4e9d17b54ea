-- No refusal has the number 0, nor one above 14.
use Rattle.std.proofs.Common.{◌≡◌, ℕ, ◌<◌, ◌≤◌, refl, rules, arith}
use Rattle.std.proofs.Output.{has_written_of_eq}
use Rattle.std.proofs.lemmas.List.{get_or_past}
use native.Mathlib.Decide.{dec_lt}
use Rattle.console.specs.Words.{no_refusal, refusal_words}
use Rattle.console.proofs.words.RefusalWordsDisplay.fmt.Goals as goal

none : (n : ℕ) → n ≡ 0 → no_refusal ≡ refusal_words n
none n e = rw e refl

beyond : (n : ℕ) → 15 ≤ n → no_refusal ≡ refusal_words n
beyond n h = search (rules, get_or_past)

other : (n : ℕ) → (n < 15 → n ≡ 0) → no_refusal ≡ refusal_words n
other n h = within (dec_lt n 15)
  where
    within : Dec (n < 15) → no_refusal ≡ refusal_words n
    within (yes l) = none n (h l)
    within (no l) = beyond n (omega arith)

pub returns-in_default-clause-writes : goal.returns-in_default-clause-writes
returns-in_default-clause-writes g c = λ p ok. has_written_of_eq _ _ _ _ _ (other _ (λ l. omega arith)) (search rules)
