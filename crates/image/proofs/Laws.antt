-- Laws of the two loops of the reader: one part more, one that is refused, and the end.
use mathlib.Core.Path.{◌≡◌, refl}
use mathlib.Core.List.{List}
use Prim.Native.Nat.{ℕ, zero, suc, ◌+◌, ◌-◌, ◌<◌, ◌≤◌}
use native.Mathlib.Omega.{arith}
use borrow.Author.Tests.{eq-eqb, ne_eqb}
use lib.ListN.{length, set}
use Rattle.mcode.specs.declared.Module.{Module}
use Rattle.mcode.specs.Image.{Got, Refused, Read, NoHead, record_at, records_at, module_at, modules_from, refused_by}

module _ (s : List ℕ) (length limit : ℕ) where
  pub more-records : (n i at v next : ℕ) → i < n → record_at s length limit at ≡ Got v next → records_at s length limit (n - i) at ≡ records_at s length 16 (n - (i + 1)) next
  unfolding records_at
  more-records n i at v next l e = let q : n - i ≡ suc (n - (i + 1)) = omega arith in rw (q, e) refl

  pub unread-record : (n i at k : ℕ) → i < n → record_at s length limit at ≡ Refused k → records_at s length limit (n - i) at ≡ Refused k
  unfolding records_at
  unread-record n i at k l e = let q : n - i ≡ suc (n - (i + 1)) = omega arith in rw (q, e) refl

pub first-record : (s : List ℕ) (length limit n at : ℕ) → records_at s length limit n at ≡ records_at s length limit (n - 0) at
first-record s length limit n at = let q : n - 0 ≡ n = omega arith in rw q refl

module _ (s : List ℕ) where
  pub more-modules : (count i at base : ℕ) (table : List Module) (m : Module) (next : ℕ) → i < count → module_at s i base at ≡ Read m next
      → modules_from s (count - i) i at base table ≡ modules_from s (count - (i + 1)) (i + 1) next (base + 3 + m.size) (set table i m)
  unfolding modules_from
  more-modules count i at base table m next l e = let q : count - i ≡ suc (count - (i + 1)) = omega arith in rw (q, e) refl

  pub unread-module : (count i at base : ℕ) (table : List Module) (k : ℕ) → i < count → module_at s i base at ≡ NoHead k → modules_from s (count - i) i at base table ≡ refused_by k
  unfolding modules_from
  unread-module count i at base table k l e = let q : count - i ≡ suc (count - (i + 1)) = omega arith in rw (q, e) refl

  pub last-module : (count i at base : ℕ) (table : List Module) → i ≤ count → count ≤ i → at ≡ length s
      → modules_from s (count - i) i at base table ≡ record { refusal = 0; program = record { count = count; end = base; modules = table } }
  unfolding modules_from
  last-module count i at base table h l e =
      let q : count - i ≡ zero = omega arith in
      let p : i ≡ count = omega arith in
      rw (q, p, eq-eqb _ _ e) refl

  pub bytes_after : (count i at base : ℕ) (table : List Module) → count ≤ i → (at ≡ length s → ⊥) → modules_from s (count - i) i at base table ≡ refused_by 4
  unfolding modules_from
  bytes_after count i at base table l e = let q : count - i ≡ zero = omega arith in rw (q, ne_eqb _ _ e) refl

  pub first-module : (count at base : ℕ) (table : List Module) → modules_from s count 0 at base table ≡ modules_from s (count - 0) 0 at base table
  first-module count at base table = let q : count - 0 ≡ count = omega arith in rw q refl
