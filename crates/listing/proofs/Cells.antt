-- Text of a mark, letter by letter. Assumes nothing.
use Rattle.std.proofs.Common.{◌≡◌, refl, sym, ◌∙◌, List, [], ◌∷◌, ◌++◌, append_assoc, append-nil, ℕ, suc, ◌+◌, ◌/◌, ◌%◌, ◌≤◌, ◌<◌, arith}
use borrow.Author.Tests.{lt-ltb, le-ltb, ne_eqb}
use Rattle.mcode.specs.Depths.{depth_of, promised, saves}
use Rattle.listing.specs.Cell.{number_text, results_text, saves_text}

-- a number by its digits
pub one-digit : (n : ℕ) → n < 10 → (48 + n % 10) ∷ [] ≡ number_text n
unfolding number_text
one-digit n h = let e : n % 10 ≡ n = omega arith in rw (lt-ltb n 10 h, e) refl

pub two_digits : (t : List ℕ) (n : ℕ) → 10 ≤ n → (t ++ ((48 + n / 10) ∷ [])) ++ ((48 + n % 10) ∷ []) ≡ t ++ number_text n
unfolding number_text
two_digits t n h = rw (le-ltb n 10 h) (append_assoc t _ _)

pub no-results : (t : List ℕ) → t ≡ t ++ results_text 0
unfolding results_text
no-results t = sym (append-nil t)

pub some-results : (t : List ℕ) (n : ℕ) → (n ≡ 0 → ⊥) → (t ++ (47 ∷ [])) ++ ((48 + n) ∷ []) ≡ t ++ results_text n
unfolding results_text
some-results t n h = rw (ne_eqb n 0 h) (append_assoc t _ _)

-- the saved depths from the front
pub no-saves : (t : List ℕ) (l : ℕ) → t ≡ t ++ saves_text 0 l
unfolding saves_text
no-saves t l = sym (append-nil t)

pub next-save : (t : List ℕ) (n l : ℕ) → ((t ++ (43 ∷ [])) ++ number_text (l % 32)) ++ saves_text n (l / 32) ≡ t ++ saves_text (suc n) l
unfolding saves_text
next-save t n l = append_assoc (t ++ (43 ∷ [])) (number_text (l % 32)) (saves_text n (l / 32)) ∙ append_assoc t (43 ∷ []) (number_text (l % 32) ++ saves_text n (l / 32))

-- each field is small
pub depth_small : (k : ℕ) → depth_of k < 100
unfolding depth_of
depth_small k = omega arith

pub results-small : (k : ℕ) → promised k < 8
unfolding promised
results-small k = omega arith

pub saves-small : (k : ℕ) → saves k < 8
unfolding saves
saves-small k = omega arith
