-- Bytes put one behind another into an output. Assumes nothing.
use Rattle.std.proofs.Common.{Bor}
use mathlib.Core.Path.{◌≡◌, refl, sym, ap, ◌∙◌, subst}
use mathlib.Core.List.{List, [], ◌∷◌, ◌++◌, append_assoc, append-nil}
use Prim.Native.Nat.{ℕ, zero, suc, ◌+◌, ◌-◌, ◌≤◌, ◌<◌}
use native.Mathlib.Nat.{not-suc-le-zero}
use native.Mathlib.Omega.{arith}
use lib.ListN.{length, get_or, set, take, drop, length-append}
use borrow.Rule.Slice.PartMut.{put_mid}
use Rattle.mcode.specs.Step.{written}
use Rattle.mcode.proofs.Zeros.{length-written}
use Rattle.mcode.proofs.Writes.{written_both, written-whole}
use Rattle.archive.specs.Form.{joined, Put}

pub put-none : (at : ℕ) (s : List ℕ) → Put [] at s at s
unfolding written
put-none at s = record { next-is = omega arith; after_is = refl }

-- what is put behind what was put
pub put_both : (xs ys : List ℕ) (at : ℕ) (s : List ℕ) (n : ℕ) (t : List ℕ) (next : ℕ) (u : List ℕ) → Put xs at s n t → Put ys n t next u → Put (xs ++ ys) at s next u
put_both xs ys at s n t next u X Y = record {
  next-is = omega (arith, X.next-is, Y.next-is, length-append xs ys);
  after_is = Y.after_is ∙ rw (X.next-is, X.after_is) (sym (written_both xs ys at s));
}

pub put-length : (xs : List ℕ) (at : ℕ) (s : List ℕ) (next : ℕ) (t : List ℕ) → Put xs at s next t → length t ≡ length s
put-length xs at s next t X = ap (λ (l : List ℕ). length l) X.after_is ∙ length-written xs at s

-- ---- bytes copied over a part of an output

written-behind : (xs : List ℕ) (a y : ℕ) (s : List ℕ) → written xs (suc a) (y ∷ s) ≡ y ∷ written xs a s
unfolding written
written-behind [] a y s = refl
written-behind (x ∷ xs) a y s = let e : suc a + 1 ≡ suc (a + 1) = omega arith in ap (λ (k : ℕ). written xs k (y ∷ set s a x)) e ∙ written-behind xs (a + 1) y (set s a x)

copied : (xs : List ℕ) (at : ℕ) (s : List ℕ) → at + length xs ≤ length s → take at s ++ (xs ++ drop (length xs) (drop at s)) ≡ written xs at s
copied xs zero s r = sym (written-whole xs s (omega (arith, r)))
copied xs (suc at) [] r = absurd (let z : ⊥ = omega (arith, r) in z)
copied xs (suc at) (y ∷ s) r = ap (λ (l : List ℕ). y ∷ l) (copied xs at s (omega (arith, r))) ∙ sym (written-behind xs at y s)

pub put-copied : (xs : List ℕ) (at : ℕ) (s : List ℕ) → at + length xs ≤ length s → (ys : List ℕ) → ys ≡ xs → Put xs at s (at + length xs) (put_mid at (at + length xs - at) s ys)
put-copied xs at s r ys e =
    let n : at + length xs - at ≡ length xs = omega arith in
    record { next-is = refl; after_is = rw (n, e) (copied xs at s r) }

-- ---- pieces, one behind another

joined-next : (xs : List (Bor (List ℕ))) (i : ℕ) (d : Bor (List ℕ)) → i < length xs → joined (take (i + 1) xs) ≡ joined (take i xs) ++ (get_or xs i d).now
joined-next [] i d l = absurd (not-suc-le-zero l)
joined-next (x ∷ xs) zero d l = append-nil x.now
joined-next (x ∷ xs) (suc i) d l =
    let e : suc i + 1 ≡ suc (i + 1) = omega arith in
    rw e (ap (λ (y : List ℕ). x.now ++ y) (joined-next xs i d (omega (arith, l))) ∙ sym (append_assoc x.now (joined (take i xs)) (get_or xs i d).now))

joined-within : (xs : List (Bor (List ℕ))) (i : ℕ) → length (joined (take i xs)) ≤ length (joined xs)
joined-within xs zero = omega arith
joined-within [] (suc i) = omega arith
joined-within (x ∷ xs) (suc i) = omega (arith, joined-within xs i, length-append x.now (joined (take i xs)), length-append x.now (joined xs))

module _ (xs : List (Bor (List ℕ))) (i : ℕ) (d : Bor (List ℕ)) (l : i < length xs) (at : ℕ) (s : List ℕ) (n : ℕ) (t : List ℕ) (P : Put (joined (take i xs)) at s n t) where
  pub piece-room : at + length (joined xs) ≤ length s → n + length (get_or xs i d).now ≤ length t
  piece-room r =
      omega (
        arith,
        r,
        joined-within xs (i + 1),
        ap (λ (y : List ℕ). length y) (joined-next xs i d l),
        length-append (joined (take i xs)) (get_or xs i d).now,
        P.next-is,
        put-length (joined (take i xs)) at s n t P,
      )

  pub piece-put : (n' : ℕ) (t' : List ℕ) → Put (get_or xs i d).now n t n' t' → Put (joined (take (i + 1) xs)) at s n' t'
  piece-put n' t' Q = subst (λ (y : List ℕ). Put y at s n' t') (sym (joined-next xs i d l)) (put_both (joined (take i xs)) (get_or xs i d).now at s n t n' t' P Q)
