-- A name is what stands before the blanks of its row. The letters of the table are seen by one test that antt computes over all of them.
-- Assumes nothing.
use Rattle.std.proofs.Common.{◌≡◌, refl, ◌∙◌, ap, Bool, true, false, not, ℕ, zero, suc, ◌+◌, ◌-◌, ◌*◌, ◌≤◌, ◌<◌, ltb, eqb, List, [], ◌∷◌, ◌++◌, length, get_or, take, drop, replicate, arith, add-one, drop-cons, get_or-take, get_or-drop}
use Rattle.std.specs.Char.{is_ascii_whitespace}
use Rattle.std.specs.Str.{IsCharBoundary, IsTrimAsciiEnd}
use Rattle.std.specs.List.{slice_range}
use Rattle.std.proofs.lemmas.Str.{IsCharBoundary-from_ascii}
use Rattle.std.proofs.lemmas.Str.Ascii.{IsAscii-from_reads}
use lib.Dec.{T, eqb→eq}
use borrow.Author.Tests.{ltb-true}
use Rattle.mcode.specs.Word.{and, or}
use Rattle.mcode.proofs.Every.{at}
use Rattle.listing.specs.Mnemonics.{letters, name_of}

-- each letter is ASCII, and a blank or no white space
fine : ℕ → Bool
fine b = and (ltb b 128) (or (eqb b 32) (not (is_ascii_whitespace b)))

are-fine : (k : ℕ) → k < length letters → T (fine (get_or letters k 0))
unfolding letters fine
are-fine = at (λ k b. fine b) letters tt

pub letters-length : length letters ≡ 1280
unfolding letters
letters-length = refl

is-ascii : (b : ℕ) → T (fine b) → b < 128
unfolding fine
is-ascii b t = go (ltb b 128) refl t
  where
    go : (x : Bool) → ltb b 128 ≡ x → T (and x (or (eqb b 32) (not (is_ascii_whitespace b)))) → b < 128
    go true e u = ltb-true b 128 e
    go false e u = absurd u

is-blank : (b : ℕ) → T (fine b) → is_ascii_whitespace b ≡ true → b ≡ 32
unfolding fine
is-blank b t w = go (ltb b 128) (eqb b 32) refl (rw w at t)
  where
    go : (x y : Bool) → eqb b 32 ≡ y → T (and x (or y false)) → b ≡ 32
    go true true e u = eqb→eq b 32 (rw e tt)
    go true false e u = absurd u
    go false y e u = absurd u

pub letters-boundary : (i : ℕ) → i ≤ 1280 → IsCharBoundary letters i
letters-boundary i h =
    IsCharBoundary-from_ascii letters i
    (IsAscii-from_reads letters 1280 (omega (arith, letters-length)) (λ k l. is-ascii _ (are-fine k (omega (arith, letters-length)))))
    (omega (arith, letters-length))

-- a row, by its five letters
next : (xs : List ℕ) (i j : ℕ) → i + 1 ≡ j → i < length xs → drop i xs ≡ get_or xs i 0 ∷ drop j xs
next xs i j e l = rw (← e, add-one i) (drop-cons xs i 0 l)

five : (xs : List ℕ) (i : ℕ) → i + 5 ≤ length xs → take 5 (drop i xs) ≡ get_or xs i 0 ∷ get_or xs (i + 1) 0 ∷ get_or xs (i + 2) 0 ∷ get_or xs (i + 3) 0 ∷ get_or xs (i + 4) 0 ∷ []
five xs i h =
    rw (next xs i (i + 1) refl (omega arith), next xs (i + 1) (i + 2) (omega arith) (omega arith), next xs (i + 2) (i + 3) (omega arith) (omega arith), next xs (i + 3) (i + 4) (omega arith) (omega arith), next xs (i + 4) (i + 5) (omega arith) (omega arith)) refl

-- what follows place n of a list is blanks
blank-end : (s : List ℕ) (n : ℕ) → n ≤ length s → ((k : ℕ) → n ≤ k → k < length s → get_or s k 0 ≡ 32) → take n s ++ replicate (length s - n) 32 ≡ s
blank-end [] zero h f = refl
blank-end [] (suc n) h f = absurd (let z : ⊥ = omega arith in z)
blank-end (x ∷ s) zero h f =
    let e : suc (length s) - 0 ≡ suc (length s - 0) = omega arith in
    let b : x ≡ 32 = f 0 (omega arith) (omega arith) in
    rw (e, b) (ap (λ t. 32 ∷ t) (blank-end s 0 (omega arith) (λ k l m. f (suc k) (omega arith) (omega arith))))
blank-end (x ∷ s) (suc n) h f =
    let e : suc (length s) - suc n ≡ length s - n = omega arith in
    rw e (ap (λ t. x ∷ t) (blank-end s n (omega arith) (λ k l m. f (suc k) (omega arith) (omega arith))))

module _ (op : ℕ) (h : op < 256) where
  row : List ℕ
  row = slice_range letters (5 * op) (5 * op + 5)

  row-is : row ≡ name_of op
  unfolding row
  row-is = let e : 5 * op + 5 - 5 * op ≡ 5 = omega arith in rw e (five letters (5 * op) (omega (arith, letters-length)))

  row-fine : (k : ℕ) → k < 5 → T (fine (get_or row k 0))
  unfolding row
  row-fine k l =
      let e : 5 * op + 5 - 5 * op ≡ 5 = omega arith in
      rw (e, get_or-take 5 (drop (5 * op) letters) k 0 l, get_or-drop (5 * op) letters k 0) (are-fine (5 * op + k) (omega (arith, letters-length)))

  pub filled : (name : List ℕ) → IsTrimAsciiEnd (slice_range letters (5 * op) (5 * op + 5)) name → name ++ replicate (5 - length name) 32 ≡ name_of op
  unfolding row
  filled name (n, r, l, m, w, last) =
      let five-long : length row ≡ 5 = ap length row-is in
      let b = blank-end row n m (λ k p q. is-blank _ (row-fine k (omega (arith, five-long))) (w k p q)) in
      rw (l, r) (rw five-long at b ∙ row-is)

  pub unnamed : (name : List ℕ) → length name ≡ 0 → IsTrimAsciiEnd (slice_range letters (5 * op) (5 * op + 5)) name → replicate 5 32 ≡ name_of op
  unnamed [] e t = filled [] t
  unnamed (x ∷ name) e t = absurd (let z : ⊥ = omega arith in z)
