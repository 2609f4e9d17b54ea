-- Laws of marks that the code goes by: a list is read from its front, and what is packed. Assumes nothing.
use mathlib.Core.Path.{◌≡◌, refl, sym, ap, ◌∙◌}
use mathlib.Core.Bool.{Bool, true, false}
use Prim.Native.Nat.{ℕ, zero, suc, ◌+◌, ◌-◌, ◌*◌, ◌/◌, ◌%◌, ◌≤◌, ◌<◌}
use native.Mathlib.Omega.{arith}
use lib.Dec.{leb, eqb}
use borrow.Author.Tests.{le-leb, lt-leb}
use Rattle.mcode.specs.Word.{and}
use Rattle.mcode.specs.Depths.{mark_of, depth_of, promised, saves, list_of, front_of, is_list, is_mark, stored, fetched}
use Rattle.mcode.proofs.Marks.{depth-mark, promised-mark, saves-mark, list-mark}

list_over : (n l : ℕ) → 0 < n → 16 < l % 32 → is_list n l ≡ false
unfolding is_list
list_over zero l h o = absurd (let z : ⊥ = omega arith in z)
list_over (suc n) l h o = rw (lt-leb (l % 32) 16 o) refl

list-next : (n l : ℕ) → 0 < n → l % 32 ≤ 16 → is_list n l ≡ is_list (n - 1) (l / 32)
unfolding is_list
list-next zero l h o = absurd (let z : ⊥ = omega arith in z)
list-next (suc n) l h o = let e : suc n - 1 ≡ n = omega arith in rw (le-leb (l % 32) 16 o, e) refl

list-end : (l : ℕ) → is_list 0 l ≡ eqb l 0
unfolding is_list
list-end l = refl

-- below 160 only the depth can be too large
pub by-depth : (k : ℕ) → k < 160 → is_mark k ≡ leb (depth_of k) 16
unfolding is_mark promised saves list_of is_list
by-depth k h =
    let a : k / 32 % 8 ≤ 4 = omega arith in
    let b : k / 256 % 8 ≡ 0 = omega arith in
    let c : k / 2048 ≡ 0 = omega arith in
    rw (le-leb (k / 32 % 8) 4 a, b, c) (bare (leb (depth_of k) 16))
  where
    bare : (t : Bool) → and t true ≡ t
    bare true = refl
    bare false = refl

-- the loop over a list, with i of its n depths read
pub list-begins : (n l : ℕ) → is_list n l ≡ is_list (n - 0) l
list-begins n l = let e : n ≡ n - 0 = omega arith in ap (λ (j : ℕ). is_list j l) e

pub list-fails : (n i l r : ℕ) → i < n → is_list n l ≡ is_list (n - i) r → 16 < r % 32 → false ≡ is_list n l
list-fails n i l r h e o = sym (e ∙ list_over (n - i) r (omega arith) o)

pub list-goes-on : (n i l r : ℕ) → i < n → is_list n l ≡ is_list (n - i) r → r % 32 ≤ 16 → is_list n l ≡ is_list (n - (i + 1)) (r / 32)
list-goes-on n i l r h e o = let z : n - i - 1 ≡ n - (i + 1) = omega arith in e ∙ list-next (n - i) r (omega arith) o ∙ ap (λ (j : ℕ). is_list j (r / 32)) z

pub list-ends : (n i l r : ℕ) → n ≤ i → is_list n l ≡ is_list (n - i) r → eqb r 0 ≡ is_list n l
list-ends n i l r h e = let z : n - i ≡ 0 = omega arith in sym (e ∙ ap (λ (j : ℕ). is_list j r) z ∙ list-end r)

-- what is packed
pub packed : (k d r n l : ℕ) → d ≤ 31 → r ≤ 7 → n ≤ 7 → k ≡ mark_of d r n l → (k ≡ mark_of d r n l) × (depth_of k ≡ d) × (promised k ≡ r) × (saves k ≡ n) × (list_of k ≡ l)
packed k d r n l a b c e = (e, ap depth_of e ∙ depth-mark d r n l a, ap promised e ∙ promised-mark d r n l a b c, ap saves e ∙ saves-mark d r n l a b c, ap list_of e ∙ list-mark d r n l a b c)

pub stored-by : (k r a b d l : ℕ) → r ≡ mark_of 0 a (b + 1) (d + l) → a ≡ promised k → b ≡ saves k → d ≡ depth_of k → l ≡ 32 * list_of k → r ≡ stored k
unfolding stored
stored-by k r a b d l e p q s t = e ∙ rw (p, q, s, t) refl

pub fetched-by : (k r f a b l : ℕ) → r ≡ mark_of (f + 1) a (b - 1) l → f ≡ front_of k → a ≡ promised k → b ≡ saves k → l ≡ list_of k / 32 → r ≡ fetched k
unfolding fetched
fetched-by k r f a b l e o p q t = e ∙ rw (o, p, q, t) refl
