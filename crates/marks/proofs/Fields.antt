-- A number is no mark by its first field that is too large; and what RTN and LODFW ask of a mark. Assumes nothing.
use mathlib.Core.Path.{◌≡◌, refl}
use mathlib.Core.Bool.{false}
use Prim.Native.Nat.{ℕ, ◌≤◌, ◌<◌}
use lib.Dec.{leb, eqb}
use borrow.Author.Tests.{le-leb, lt-leb, eq-eqb, ne_eqb}
use Rattle.mcode.specs.Depths.{depth_of, promised, saves, list_of, front_of, is_list, is_mark, permits}

-- the fields in their order
pub too-deep : (k : ℕ) → 16 < depth_of k → is_mark k ≡ false
unfolding is_mark
too-deep k h = rw (lt-leb (depth_of k) 16 h) refl

pub too_many : (k : ℕ) → depth_of k ≤ 16 → 4 < promised k → is_mark k ≡ false
unfolding is_mark
too_many k a h = rw (le-leb (depth_of k) 16 a, lt-leb (promised k) 4 h) refl

pub too_long : (k : ℕ) → depth_of k ≤ 16 → promised k ≤ 4 → 4 < saves k → is_mark k ≡ false
unfolding is_mark
too_long k a b h = rw (le-leb (depth_of k) 16 a, le-leb (promised k) 4 b, lt-leb (saves k) 4 h) refl

pub by-list : (k : ℕ) → depth_of k ≤ 16 → promised k ≤ 4 → saves k ≤ 4 → is_mark k ≡ is_list (saves k) (list_of k)
unfolding is_mark
by-list k a b h = rw (le-leb (depth_of k) 16 a, le-leb (promised k) 4 b, le-leb (saves k) 4 h) refl

-- RTN and LODFW
pub returns-with : (k : ℕ) → depth_of k ≡ promised k → permits k 0o354 ≡ eqb (saves k) 0
unfolding permits
returns-with k e = rw (eq-eqb (depth_of k) (promised k) e) refl

pub returns-without : (k : ℕ) → (depth_of k ≡ promised k → ⊥) → permits k 0o354 ≡ false
unfolding permits
returns-without k n = rw (ne_eqb (depth_of k) (promised k) n) refl

pub fetches-front : (k : ℕ) → depth_of k ≡ 1 → 1 ≤ saves k → permits k 0o260 ≡ leb (front_of k) 15
unfolding permits
fetches-front k e l = rw (eq-eqb (depth_of k) 1 e, le-leb 1 (saves k) l) refl

pub fetches-none : (k : ℕ) → depth_of k ≡ 1 → saves k < 1 → permits k 0o260 ≡ false
unfolding permits
fetches-none k e l = rw (eq-eqb (depth_of k) 1 e, lt-leb 1 (saves k) l) refl

pub fetches-not : (k : ℕ) → (depth_of k ≡ 1 → ⊥) → permits k 0o260 ≡ false
unfolding permits
fetches-not k n = rw (ne_eqb (depth_of k) 1 n) refl
