-- The word of requests: which line is taken, what is left of the word, and a run without a line in it. Assumes nothing.
use mathlib.Core.Path.{◌≡◌, refl, sym, ap, ap₂, ◌∙◌, subst}
use mathlib.Core.Logic.{◌⊎◌, inl, inr}
use mathlib.Core.Bool.{Bool, true, false, not, false≢true}
use Prim.Native.Nat.{ℕ, zero, suc, ◌+◌, ◌-◌, ◌*◌, ◌^◌, ◌≤◌, ◌<◌}
use native.Mathlib.Nat.{pow-suc}
use native.Mathlib.Omega.{arith}
use lib.Dec.{eqb}
use lib.Bits.{bit_and, bit_or, or_zero_r}
use borrow.Author.Tests.{eqb-true, eqb-false, ne_eqb}
use Rattle.mcode.specs.Word.{pick, and, or, bit}
use Rattle.mcode.specs.Machine.{State, Live, live, OutcomeOf, Outcome, go, halt, leaving, handled}
use Rattle.mcode.specs.Step.{Lent, instruction_of, is_open, highest, line_of, taken_line, attempt_of, trapped, step_of, quiet_of, read_of, attempt_read, completed, step_read, quiet_read}
use Rattle.mcode.specs.Run.{next, run_n, Tally, tally, tallied, step_tally, attempt_tally, instruction_tally, quiet_tally}
use Rattle.mcode.specs.Demands.{HighestLine, Lineless, holding, QuietRuns, ClearsBit, RequestsLeft}
use Rattle.mcode.proofs.Tests.{and_both}
use Rattle.mcode.proofs.Bits.{clears-bit, bit_not, bit-and, bit-or, top_bit, no-bit}

-- ---- the highest line

-- two tests that agree on the lines
highest-same : (f g : ℕ → Bool) → ((i : ℕ) → 8 ≤ i → i < 16 → f i ≡ g i) → (k : ℕ) → k ≤ 8 → highest f k ≡ highest g k
unfolding highest
highest-same f g e zero h = refl
highest-same f g e (suc k) h = rw (e (8 + k) (omega arith) (omega arith), highest-same f g e k (omega arith)) refl

no-highest : (k : ℕ) → highest (λ i. false) k ≡ 0
unfolding highest
no-highest zero = refl
no-highest (suc k) = no-highest k

-- a line that passes the test, where one does
highest-is : (f : ℕ → Bool) (k : ℕ) → 1 ≤ highest f k → (8 ≤ highest f k) × (highest f k < 8 + k) × (f (highest f k) ≡ true)
unfolding highest
highest-is f zero h = absurd (let z : ⊥ = omega arith in z)
highest-is f (suc k) h = by (λ l. highest-is f k l) (f (8 + k)) refl h
  where
    by : (1 ≤ highest f k → (8 ≤ highest f k) × (highest f k < 8 + k) × (f (highest f k) ≡ true)) → (t : Bool) → f (8 + k) ≡ t → 1 ≤ pick t (8 + k) (highest f k)
        → (8 ≤ pick t (8 + k) (highest f k)) × (pick t (8 + k) (highest f k) < 8 + suc k) × (f (pick t (8 + k) (highest f k)) ≡ true)
    by ih true e l = (omega arith, omega arith, e)
    by ih false e l = let (a, b, c) = ih l in (a, omega (arith, b), c)

-- and none above it does
highest-above : (f : ℕ → Bool) (k i : ℕ) → 8 ≤ i → i < 8 + k → f i ≡ true → i ≤ highest f k
unfolding highest
highest-above f zero i l h e = absurd (let z : ⊥ = omega arith in z)
highest-above f (suc k) i l h e = by (λ m. highest-above f k i l m e) (f (8 + k)) refl
  where
    by : (i < 8 + k → i ≤ highest f k) → (t : Bool) → f (8 + k) ≡ t → i ≤ pick t (8 + k) (highest f k)
    by ih true t = omega arith
    by ih false t = let n : i ≡ 8 + k → ⊥ = (λ z. false≢true (sym t ∙ ap f (sym z) ∙ e)) in ih (omega (arith, n))

-- so where one passes and none above it does, it is that one
highest-one : (f : ℕ → Bool) (k i : ℕ) → 8 ≤ i → i < 8 + k → f i ≡ true → ((j : ℕ) → i < j → f j ≡ false) → highest f k ≡ i
highest-one f k i l h e none =
    let a = highest-above f k i l h e in
    let (b, c, d) = highest-is f k (omega (arith, a, l)) in
    let n : i < highest f k → ⊥ = (λ z. false≢true (sym (none (highest f k) z) ∙ d)) in
    omega (arith, a, n)

-- the highest line of a word is the one whose weight is the greatest that the word holds
pub highest-bit : (w i : ℕ) → 8 ≤ i → i < 16 → 2 ^ i ≤ w → w < 2 ^ i * 2 → highest (bit w) 8 ≡ i
highest-bit w i l h a b =
    highest-one (bit w) 8 i l h (top_bit w i a b) (λ j m. no-bit w (suc i) j (subst (λ (k : ℕ). w < k) (sym (pow-suc 2 i)) b) (omega arith))

pub highest-line : HighestLine
unfolding HighestLine
highest-line x = (λ i l h e. highest-above (is_open x) 8 i l h e, λ l. highest-is (is_open x) 8 l)

-- the open lines as one word: the requests w without the lines of M, which is m, and of store word 3, which is v
pub open-lines : (w m v : ℕ) → bit_or m v < 65536 → highest (λ i. and (bit w i) (not (or (bit m i) (bit v i)))) 8 ≡ highest (bit (bit_and w (65535 - bit_or m v))) 8
open-lines w m v small =
    highest-same (λ i. and (bit w i) (not (or (bit m i) (bit v i)))) (bit (bit_and w (65535 - bit_or m v)))
    (λ i l h. rw (bit-and w (65535 - bit_or m v) i, bit_not (bit_or m v) i h small, bit-or m v i) refl) 8 (omega arith)

-- a word below 256 has no line
pub none_below : (w : ℕ) → w < 256 → highest (bit w) 8 ≡ 0
none_below w h = highest-same (bit w) (λ i. false) (λ i l m. no-bit w 8 i h l) 8 (omega arith) ∙ no-highest 8

-- ---- where the requests have no line, a step is the instruction's or its trap's, takes the channel that it takes, and runs agree

no_line : (x : Live) → Lineless x.requests → line_of x ≡ 0
no_line x q = highest-same (is_open x) (λ i. false) (λ i l h. rw (q i l h) refl) 8 (omega arith) ∙ no-highest 8

-- a step without a line, and one with it
pub instruction-step : (lent : Lent) (x : Live) → line_of x ≡ 0 → attempt_of lent x ≡ leaving x.requests (instruction_of lent x.state)
unfolding attempt_of
instruction-step lent x z = rw z refl

pub line_step : (lent : Lent) (x : Live) → 1 ≤ line_of x → attempt_of lent x ≡ leaving (x.requests - 2 ^ line_of x) (taken_line lent (line_of x) x.state)
unfolding attempt_of
line_step lent x l = rw (ne_eqb (line_of x) 0 (λ z. omega (arith, l, z))) refl

-- the bits that an attempt takes without a line, and with it
instruction-read : (lent : Lent) (x : Live) → line_of x ≡ 0 → attempt_read lent x ≡ read_of lent x.state
instruction-read lent x z = rw z refl

line_read : (lent : Lent) (x : Live) → 1 ≤ line_of x → attempt_read lent x ≡ 0
line_read lent x l = rw (ne_eqb (line_of x) 0 (λ z. omega (arith, l, z))) refl

pub line-tally : (lent : Lent) (x : Live) (c : ℕ) → 1 ≤ line_of x → attempt_tally lent (tally x c) ≡ tallied c (attempt_of lent x)
line-tally lent x c l = rw (line_read lent x l, or_zero_r c) refl

-- what an instruction, or the step where no line is taken, leads to, with the word w beside it
abbrev beside : ℕ → Tally State → Tally Live
beside w t = tally (live t.state w) t.channels

abbrev besides : ℕ → OutcomeOf (Tally State) → OutcomeOf (Tally Live)
besides w (go t) = go (beside w t)
besides w (halt k) = halt k

tallied-beside : (v w : ℕ) (o : Outcome) → tallied v (leaving w o) ≡ besides w (tallied v o)
tallied-beside v w (go x) = refl
tallied-beside v w (halt k) = refl

instruction-tally : (lent : Lent) (x : State) (w c : ℕ) → line_of (live x w) ≡ 0 → attempt_tally lent (tally (live x w) c) ≡ besides w (instruction_tally lent (tally x c))
instruction-tally lent x w c z =
    ap₂ (λ (b : ℕ) (o : OutcomeOf Live). tallied (bit_or c b) o) (instruction-read lent (live x w) z) (instruction-step lent (live x w) z) ∙ tallied-beside (bit_or c (read_of lent x)) w (instruction_of lent x)

pub quiet_step : (lent : Lent) (x : State) (w : ℕ) → Lineless w → step_of lent (live x w) ≡ leaving w (quiet_of lent x)
unfolding step_of quiet_of
quiet_step lent x w q = rw (instruction-step lent (live x w) (no_line (live x w) q)) (by (instruction_of lent x))
  where
    by : (o : Outcome) → handled (λ k. leaving w (trapped lent k x)) (leaving w o) ≡ leaving w (handled (λ k. trapped lent k x) o)
    by (go y) = refl
    by (halt k) = refl

quiet-read : (lent : Lent) (x : State) (w : ℕ) → Lineless w → step_read lent (live x w) ≡ quiet_read lent x
quiet-read lent x w q =
    let z = no_line (live x w) q in
    ap₂ (λ (b : ℕ) (o : OutcomeOf Live). completed b o) (instruction-read lent (live x w) z) (instruction-step lent (live x w) z) ∙ by (instruction_of lent x)
  where
    by : (o : Outcome) → completed (read_of lent x) (leaving w o) ≡ completed (read_of lent x) o
    by (go y) = refl
    by (halt k) = refl

quiet-tally : (lent : Lent) (x : State) (w c : ℕ) → Lineless w → step_tally lent (tally (live x w) c) ≡ besides w (quiet_tally lent (tally x c))
quiet-tally lent x w c q =
    ap₂ (λ (b : ℕ) (o : OutcomeOf Live). tallied (bit_or c b) o) (quiet-read lent x w q) (quiet_step lent x w q) ∙ tallied-beside (bit_or c (quiet_read lent x)) w (quiet_of lent x)

-- where g holds w and does what f does, runs agree
module _ (f : Tally State → OutcomeOf (Tally State)) (g : Tally Live → OutcomeOf (Tally Live)) (w : ℕ) where
  first-agrees : (n : ℕ) (x : Tally State) → g (beside w x) ≡ besides w (f x) → ((y : Tally State) → run_n g n (beside w y) ≡ holding w (run_n f n y)) → run_n g (suc n) (beside w x) ≡ holding w (run_n f (suc n) x)
  unfolding run_n
  first-agrees n x e rest = rw e (first (f x))
    where
      first : (o : OutcomeOf (Tally State)) → next (run_n g n) (beside w x) (besides w o) ≡ holding w (next (run_n f n) x o)
      first (go y) = rw (rest y) refl
      first (halt k) = refl

  all-agree : ((x : Tally State) → g (beside w x) ≡ besides w (f x)) → (n : ℕ) (x : Tally State) → run_n g n (beside w x) ≡ holding w (run_n f n x)
  unfolding run_n
  all-agree e zero x = refl
  all-agree e (suc n) x = first-agrees n x (e x) (λ y. all-agree e n y)

pub quiet-runs : QuietRuns
unfolding QuietRuns
quiet-runs lent n x w c q = all-agree (quiet_tally lent) (step_tally lent) w (λ t. quiet-tally lent t.state w t.channels q) n (tally x c)

-- what is attempted are instructions: all of them, or one where a line waits and none is taken
pub quiet-attempts : (lent : Lent) (n : ℕ) (x : State) (w c : ℕ) → Lineless w → run_n (attempt_tally lent) n (tally (live x w) c) ≡ holding w (run_n (instruction_tally lent) n (tally x c))
quiet-attempts lent n x w c q = all-agree (instruction_tally lent) (attempt_tally lent) w (λ t. instruction-tally lent t.state w t.channels (no_line (live t.state w) q)) n (tally x c)

pub quiet_one : (lent : Lent) (x : State) (w c : ℕ) → line_of (live x w) ≡ 0 → run_n (attempt_tally lent) 1 (tally (live x w) c) ≡ holding w (run_n (instruction_tally lent) 1 (tally x c))
unfolding run_n
quiet_one lent x w c z = first-agrees (instruction_tally lent) (attempt_tally lent) w 0 (tally x c) (instruction-tally lent x w c z) (λ y. refl)

pub quiet_none : (lent : Lent) (x : State) (w c : ℕ) → run_n (attempt_tally lent) 0 (tally (live x w) c) ≡ holding w (run_n (instruction_tally lent) 0 (tally x c))
unfolding run_n
quiet_none lent x w c = refl

-- a word below 256 has no line
pub below-lineless : (w : ℕ) → w < 256 → Lineless w
below-lineless w h i l m = no-bit w 8 i h l

-- ---- what is left of the word

-- a step leaves the word, or takes the line's bit off
abbrev Leaves : Live → OutcomeOf Live → Type 0
Leaves x (go y) = (y.requests ≡ x.requests) ⊎ ((1 ≤ line_of x) × (y.requests ≡ x.requests - 2 ^ line_of x))
Leaves x (halt k) = Unit

same_left : (x : Live) (o : Outcome) → Leaves x (leaving x.requests o)
same_left x (go y) = inl refl
same_left x (halt k) = tt

attempt-leaves : (lent : Lent) (x : Live) → Leaves x (attempt_of lent x)
attempt-leaves lent x = by (eqb (line_of x) 0) refl
  where
    less : 1 ≤ line_of x → (o : Outcome) → Leaves x (leaving (x.requests - 2 ^ line_of x) o)
    less l (go y) = inr (l, refl)
    less l (halt k) = tt

    by : (t : Bool) → eqb (line_of x) 0 ≡ t → Leaves x (attempt_of lent x)
    by true t = rw (instruction-step lent x (eqb-true _ _ t)) (same_left x (instruction_of lent x.state))
    by false t =
        let n = eqb-false (line_of x) 0 t in
        let l : 1 ≤ line_of x = omega (arith, n) in
        rw (line_step lent x l) (less l (taken_line lent (line_of x) x.state))

step-leaves : (lent : Lent) (x : Live) → Leaves x (step_of lent x)
unfolding step_of
step-leaves lent x = by (attempt_of lent x) (attempt-leaves lent x)
  where
    by : (o : OutcomeOf Live) → Leaves x o → Leaves x (handled (λ k. leaving x.requests (trapped lent k x.state)) o)
    by (go y) e = e
    by (halt k) e = same_left x (trapped lent k x.state)

-- of the bits of w, v has no more, and all below 8
abbrev Fewer : ℕ → ℕ → ℕ → Type 0
Fewer w v i = (bit v i ≡ true → bit w i ≡ true) × (i < 8 → bit v i ≡ bit w i)

fewer-step : (x : Live) (i : ℕ) (v : ℕ) → (v ≡ x.requests) ⊎ ((1 ≤ line_of x) × (v ≡ x.requests - 2 ^ line_of x)) → Fewer x.requests v i
unfolding ClearsBit
fewer-step x i v (inl e) = rw e (λ b. b, λ l. refl)
fewer-step x i v (inr (l, e)) =
    let (a, b, c) = highest-is (is_open x) 8 l in
    let (d, f) = and_both (bit x.requests (line_of x)) _ c in
    let g = clears-bit x.requests (line_of x) i d in
    rw (e, g) (only (eqb i (line_of x)), λ h. rw (ne_eqb i (line_of x) (λ z. omega (arith, h, a, z))) refl)
  where
    only : (t : Bool) → pick t false (bit x.requests i) ≡ true → bit x.requests i ≡ true
    only false b = b
    only true b = absurd (false≢true b)

pub requests-left : RequestsLeft
unfolding RequestsLeft run_n
requests-left lent zero x i = (λ b. b, λ l. refl)
requests-left lent (suc n) x i = from (λ y. requests-left lent n y i) (step_of lent x) (step-leaves lent x)
  where
    from : ((y : Live) → Fewer y.requests (run_n (step_of lent) n y).state.requests i) → (o : OutcomeOf Live) → Leaves x o
        → Fewer x.requests (next (run_n (step_of lent) n) x o).state.requests i
    from ih (go y) e =
        let (a, b) = fewer-step x i y.requests e in
        let (c, d) = ih y in
        (λ t. a (c t), λ l. d l ∙ b l)
    from ih (halt k) e = (λ b. b, λ l. refl)
