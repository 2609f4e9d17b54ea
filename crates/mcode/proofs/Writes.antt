-- Words or bytes written one behind another: next to those written before, and in the place of as many. Assumes nothing.
use mathlib.Core.Path.{◌≡◌, refl, sym, ap, ◌∙◌}
use mathlib.Core.List.{List, [], ◌∷◌, ◌++◌, append_assoc}
use Prim.Native.Nat.{ℕ, suc, ◌+◌, ◌≤◌, ◌<◌}
use native.Mathlib.Omega.{arith}
use native.Mathlib.Numerals.{add-one}
use lib.ListN.{length, get_or, set, drop, length-append, length-drop}
use lib.Seq.{drop-cons}
use Rattle.mcode.specs.Step.{written}

pub next-written : (xs : List ℕ) (a k : ℕ) (store : List ℕ) → k < length xs
    → written (drop k xs) (a + k) store ≡ written (drop (k + 1) xs) (a + (k + 1)) (set store (a + k) (get_or xs k 0))
unfolding written
next-written xs a k store h =
    let p : a + (k + 1) ≡ a + k + 1 = omega arith in
    rw (p, add-one k, drop-cons xs k 0 h) refl

pub none_written : (xs : List ℕ) (a k : ℕ) (store : List ℕ) → length xs ≤ k → written (drop k xs) a store ≡ store
unfolding written
none_written xs a k store h = rw (nothing (drop k xs) (simp length-drop (omega arith)))
  where
    nothing : (l : List ℕ) → length l ≡ 0 → l ≡ []
    nothing [] e = refl
    nothing (x ∷ l) e = absurd (let z : ⊥ = omega (arith, e) in z)

pub written_both : (xs ys : List ℕ) (a : ℕ) (s : List ℕ) → written (xs ++ ys) a s ≡ written ys (a + length xs) (written xs a s)
unfolding written
written_both [] ys a s = let e : a ≡ a + 0 = omega arith in ap (λ (n : ℕ). written ys n s) e
written_both (x ∷ xs) ys a s =
    let e : a + 1 + length xs ≡ a + suc (length xs) = omega arith in
    written_both xs ys (a + 1) (set s a x) ∙ ap (λ (n : ℕ). written ys n (written xs (a + 1) (set s a x))) e

-- behind a front that stays: the bytes take the place of as many
written_at : (p xs s : List ℕ) → length xs ≤ length s → written xs (length p) (p ++ s) ≡ p ++ (xs ++ drop (length xs) s)
unfolding written
written_at p [] s l = refl
written_at p (x ∷ xs) [] l = absurd (let z : ⊥ = omega (arith, l) in z)
written_at p (x ∷ xs) (y ∷ s) l =
    let e : length p + 1 ≡ length (p ++ (x ∷ [])) = omega (arith, length-append p (x ∷ [])) in
    rw (set_at p, e) (ap (written xs (length (p ++ (x ∷ [])))) (sym (append_assoc p (x ∷ []) s)) ∙ written_at (p ++ (x ∷ [])) xs s (omega (arith, l)) ∙ append_assoc p (x ∷ []) (xs ++ drop (length xs) s))
  where
    set_at : (q : List ℕ) → set (q ++ (y ∷ s)) (length q) x ≡ q ++ (x ∷ s)
    set_at [] = refl
    set_at (a ∷ q) = ap (λ (l : List ℕ). a ∷ l) (set_at q)

pub written-whole : (xs s : List ℕ) → length xs ≤ length s → written xs 0 s ≡ xs ++ drop (length xs) s
written-whole xs s l = written_at [] xs s l
