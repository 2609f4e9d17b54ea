-- Facts about lists: reads inside at any default, and the count of free places.
use Rattle.std.proofs.Common.{◌≡◌, ℕ, zero, suc, ◌<◌, Bool, true, false, cond, eqb, List, [], ◌∷◌, length, get_or, set, replicate, refl, ap, le_of_suc-le-suc, not-suc-le-zero, arith, eq-eqb, ne_eqb}
use Rattle.depths.specs.Queue.{free}

-- a read inside does not depend on the default
pub get_d_any : (l : List ℕ) (i a b : ℕ) → i < length l → get_or l i a ≡ get_or l i b
get_d_any [] i a b h = absurd (not-suc-le-zero h)
get_d_any (x ∷ l) zero a b h = refl
get_d_any (x ∷ l) (suc i) a b h = get_d_any l i a b (le_of_suc-le-suc h)

-- marking a free place leaves one fewer
pub free-set : (n : ℕ) (m : List ℕ) (q d : ℕ) → q < length m → get_or m q n ≡ n → (d ≡ n → ⊥) → suc (free n (set m q d)) ≡ free n m
unfolding free
free-set n [] q d h e r = absurd (not-suc-le-zero h)
free-set n (x ∷ m) zero d h e r = simp (ne_eqb d n r, eq-eqb x n e)
free-set n (x ∷ m) (suc q) d h e r = go (eqb x n) (free-set n m q d (le_of_suc-le-suc h) e r)
  where
    go : (b : Bool) → suc (free n (set m q d)) ≡ free n m
        → suc (cond b (suc (free n (set m q d))) (free n (set m q d))) ≡ cond b (suc (free n m)) (free n m)
    go true i = ap suc i
    go false i = i

pub free_all : (n k : ℕ) → free n (replicate k n) ≡ k
unfolding free
free_all n zero = refl
free_all n (suc k) = simp (eq-eqb n n refl) (ap suc (free_all n k))

pub free-pos : (n : ℕ) (m : List ℕ) (q : ℕ) → q < length m → get_or m q n ≡ n → 0 < free n m
unfolding free
free-pos n [] q h e = absurd (not-suc-le-zero h)
free-pos n (x ∷ m) zero h e = simp (eq-eqb x n e) (omega arith)
free-pos n (x ∷ m) (suc q) h e = go (eqb x n) (free-pos n m q (le_of_suc-le-suc h) e)
  where
    go : (b : Bool) → 0 < free n m → 0 < cond b (suc (free n m)) (free n m)
    go true i = omega arith
    go false i = i
