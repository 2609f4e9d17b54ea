-- The words of a stack in the store, one by one: as they are saved and as they are restored. Assumes nothing.
use mathlib.Core.Path.{◌≡◌, refl, sym, ap, ◌∙◌}
use mathlib.Core.List.{List}
use Prim.Native.Nat.{ℕ, zero, suc, ◌+◌, ◌-◌, ◌<◌, ◌≤◌}
use native.Mathlib.Omega.{arith}
use lib.ListN.{get_or, set}
use lib.Seq.{set_comm}
use Rattle.mcode.specs.Step.{saved, restored}

-- a place above the restored words keeps what was put there
restored-over : (store : List ℕ) (n m a v : ℕ) (stack : List ℕ) → n ≤ m → restored store n a (set stack m v) ≡ set (restored store n a stack) m v
unfolding restored
restored-over store zero m a v stack l = refl
restored-over store (suc n) m a v stack l =
    ap (restored store n (a + 1)) (set_comm stack m n v (get_or store a 0) (λ e. omega (arith, l, e)))
    ∙ restored-over store n m (a + 1) v (set stack n (get_or store a 0)) (omega (arith, l))

-- of k words from a up n are restored, from the last one down: one word more, above those
pub restored-up : (store : List ℕ) (k n a : ℕ) (stack : List ℕ) → n < k
    → set (restored store n (a + (k - n)) stack) n (get_or store (a + k - (n + 1)) 0) ≡ restored store (n + 1) (a + (k - (n + 1))) stack
unfolding restored
restored-up store k n a stack h =
    let v : ℕ = get_or store (a + k - (n + 1)) 0 in
    let z : n + 1 ≡ suc n = omega arith in
    let p : a + (k - n) ≡ a + (k - suc n) + 1 = omega (arith, h) in
    let q : a + k - suc n ≡ a + (k - suc n) = omega (arith, h) in
    rw (z, p, q) (sym (restored-over store n n (a + (k - suc n) + 1) (get_or store (a + (k - suc n)) 0) stack (omega arith)))

-- of n words i are saved: one word more
pub saved-on : (stack : List ℕ) (n i s : ℕ) (store : List ℕ) → i < n
    → saved stack (n - i) (s + i) store ≡ saved stack (n - (i + 1)) (s + (i + 1)) (set store (s + i) (get_or stack (n - (i + 1)) 0))
unfolding saved
saved-on stack n i s store l =
    let q : n - i ≡ suc (n - (i + 1)) = omega arith in
    let p : s + i + 1 ≡ s + (i + 1) = omega arith in
    rw (q, ← p) refl

-- none left
pub saved-all : (stack : List ℕ) (n i s : ℕ) (store : List ℕ) → n ≤ i → saved stack (n - i) (s + i) store ≡ store
unfolding saved
saved-all stack n i s store l = let q : n - i ≡ zero = omega arith in rw q refl
