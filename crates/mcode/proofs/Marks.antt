-- Laws of marks: packing and its fields are inverse, what makes a mark, that none is the number of an unmarked position, and what an
-- instruction permits and leaves.
-- Assumes nothing.
use mathlib.Core.Path.{◌≡◌, refl, subst}
use mathlib.Core.Bool.{Bool, true, false}
use Prim.Native.Nat.{ℕ, zero, suc, ◌+◌, ◌-◌, ◌*◌, ◌/◌, ◌%◌, ◌≤◌, ◌<◌}
use native.Mathlib.Omega.{arith}
use lib.Dec.{eqb, leb}
use borrow.Author.Tests.{ltb-true, leb-true, le-leb, eqb-true}
use Rattle.mcode.specs.Word.{pick, and}
use Rattle.mcode.specs.Depths.{unmarked, mark_of, depth_of, promised, saves, list_of, front_of, is_list, is_mark, passed, stored, fetched, leaves, permits}
use Rattle.mcode.proofs.Tests.{and_both, both-and}

-- a number with a depth is a mark
pub depth-real : (k : ℕ) → depth_of k ≤ 16 → k ≡ unmarked → ⊥
unfolding depth_of
depth-real k l e = omega arith

pub depth_below : (k : ℕ) → depth_of k ≤ k
unfolding depth_of
depth_below k = omega arith

pub depth-mark : (d r n l : ℕ) → d ≤ 31 → depth_of (mark_of d r n l) ≡ d
unfolding depth_of mark_of
depth-mark d r n l h = omega arith

-- ---- the fields of what is packed

module _ (d r n l : ℕ) (a : d ≤ 31) (b : r ≤ 7) (c : n ≤ 7) where
  pub promised-mark : promised (mark_of d r n l) ≡ r
  unfolding promised mark_of
  promised-mark = omega arith

  pub saves-mark : saves (mark_of d r n l) ≡ n
  unfolding saves mark_of
  saves-mark = omega arith

  pub list-mark : list_of (mark_of d r n l) ≡ l
  unfolding list_of mark_of
  list-mark = omega arith

-- a number is what its fields pack
pub mark-own : (k : ℕ) → mark_of (depth_of k) (promised k) (saves k) (list_of k) ≡ k
unfolding mark_of depth_of promised saves list_of
mark-own k = omega arith

pub depth-passed : (k e : ℕ) → e ≤ 16 → depth_of (passed k e) ≡ e
unfolding depth_of passed
depth-passed k e l = omega arith

pub promised-passed : (k e : ℕ) → e ≤ 31 → promised (passed k e) ≡ promised k
unfolding promised passed
promised-passed k e l = omega arith

-- the mark itself is that of its depth; as many words less and more as taken and put; a successor passes the same on
pub passed-own : (k : ℕ) → passed k (depth_of k) ≡ k
unfolding passed depth_of
passed-own k = omega arith

pub passed-twice : (k e d : ℕ) → e ≤ 31 → passed (passed k e) d ≡ passed k d
unfolding passed
passed-twice k e d l = omega arith

pub passed-floor : (k d : ℕ) → passed k d ≡ passed k 0 + d
unfolding passed
passed-floor k d = omega arith

pub passed-row : (k t l : ℕ) → t ≤ depth_of k → passed k (depth_of k - t + l) ≡ k - t + l
unfolding passed depth_of
passed-row k t l h = omega arith

pub depth-stored : (k : ℕ) → depth_of (stored k) ≡ 0
unfolding stored
depth-stored k = depth-mark 0 (promised k) (saves k + 1) (depth_of k + 32 * list_of k) (omega arith)

pub depth-fetched : (k : ℕ) → front_of k ≤ 15 → depth_of (fetched k) ≡ front_of k + 1
unfolding fetched
depth-fetched k l = depth-mark (front_of k + 1) (promised k) (saves k - 1) (list_of k / 32) (omega arith)

pub promised-stored : (k : ℕ) → saves k ≤ 6 → promised (stored k) ≡ promised k
unfolding stored promised
promised-stored k l = promised-mark 0 (promised k) (saves k + 1) (depth_of k + 32 * list_of k) (omega arith) (omega arith) (omega arith)

pub promised-fetched : (k : ℕ) → front_of k ≤ 15 → promised (fetched k) ≡ promised k
unfolding fetched promised saves
promised-fetched k l = promised-mark (front_of k + 1) (promised k) (saves k - 1) (list_of k / 32) (omega arith) (omega arith) (omega arith)

-- RTN, STORE and LODFW where they are permitted
pub return-permitted : (k : ℕ) → permits k 0o354 ≡ true → depth_of k ≡ promised k
unfolding permits
return-permitted k t = eqb-true _ _ (and_both (eqb (depth_of k) (promised k)) (eqb (saves k) 0) t).0

pub store-permitted : (k : ℕ) → permits k 0o262 ≡ true → saves k < 4
unfolding permits
store-permitted k t = ltb-true (saves k) 4 t

pub fetch-permitted : (k : ℕ) → permits k 0o260 ≡ true → (depth_of k ≡ 1) × (front_of k ≤ 15) × (1 ≤ saves k)
unfolding permits
fetch-permitted k t =
    let (a, b) = and_both (eqb (depth_of k) 1) (and (leb 1 (saves k)) (leb (front_of k) 15)) t in
    let (c, d) = and_both (leb 1 (saves k)) (leb (front_of k) 15) b in
    (eqb-true _ _ a, leb-true _ _ d, leb-true _ _ c)

-- what an instruction leaves: STORE, LODFW, and any other
pub leaves-stored : (k e : ℕ) → leaves k 0o262 e ≡ stored k
unfolding leaves
leaves-stored k e = refl

pub leaves-fetched : (k e : ℕ) → leaves k 0o260 e ≡ fetched k
unfolding leaves
leaves-fetched k e = refl

pub leaves-passed : (k op e : ℕ) → eqb op 0o262 ≡ false → eqb op 0o260 ≡ false → leaves k op e ≡ passed k e
unfolding leaves
leaves-passed k op e p q = rw (p, q) refl

-- ---- an instruction that is permitted leaves marks, and a mark has less than 32 bits

-- the fields of a mark
pub record Fields (k : ℕ) : Type 0 where
  pub deep : depth_of k ≤ 16
  pub few : promised k ≤ 4
  pub short : saves k ≤ 4
  pub list : is_list (saves k) (list_of k) ≡ true

pub fields : (k : ℕ) → is_mark k ≡ true → Fields k
unfolding is_mark
fields k t =
    let (a, u) = and_both (leb (depth_of k) 16) (and (leb (promised k) 4) (and (leb (saves k) 4) (is_list (saves k) (list_of k)))) t in
    let (b, v) = and_both (leb (promised k) 4) (and (leb (saves k) 4) (is_list (saves k) (list_of k))) u in
    let (c, d) = and_both (leb (saves k) 4) (is_list (saves k) (list_of k)) v in
    record { deep = leb-true _ _ a; few = leb-true _ _ b; short = leb-true _ _ c; list = d }

fields-mark : (k : ℕ) → Fields k → is_mark k ≡ true
unfolding is_mark
fields-mark k f = both-and _ _ (le-leb _ _ f.deep) (both-and _ _ (le-leb _ _ f.few) (both-and _ _ (le-leb _ _ f.short) f.list))

mark-is : (d r n l : ℕ) → d ≤ 16 → r ≤ 4 → n ≤ 4 → is_list n l ≡ true → is_mark (mark_of d r n l) ≡ true
mark-is d r n l a b c t =
    let e = promised-mark d r n l (omega arith) (omega arith) (omega arith) in
    let f = saves-mark d r n l (omega arith) (omega arith) (omega arith) in
    let g = list-mark d r n l (omega arith) (omega arith) (omega arith) in
    fields-mark (mark_of d r n l) (record { deep = omega (arith, depth-mark d r n l (omega arith)); few = omega arith; short = omega arith; list = rw (f, g) t })

-- an entry's
pub entry-mark : (d r : ℕ) → d ≤ 16 → r ≤ 4 → is_mark (mark_of d r 0 0) ≡ true
unfolding is_list
entry-mark d r a b = mark-is d r 0 0 a b (omega arith) refl

passed_is : (k e : ℕ) → passed k e ≡ mark_of e (promised k) (saves k) (list_of k)
unfolding passed mark_of promised saves list_of
passed_is k e = omega arith

pub passed-mark : (k e : ℕ) → is_mark k ≡ true → e ≤ 16 → is_mark (passed k e) ≡ true
passed-mark k e t l =
    let f = fields k t in
    rw (passed_is k e) (mark-is e (promised k) (saves k) (list_of k) l f.few f.short f.list)

stored-mark : (k : ℕ) → is_mark k ≡ true → permits k 0o262 ≡ true → is_mark (stored k) ≡ true
unfolding stored permits is_list
stored-mark k t p =
    let f = fields k t in
    let d = f.deep in
    let m : (depth_of k + 32 * list_of k) % 32 ≡ depth_of k = omega arith in
    let q : (depth_of k + 32 * list_of k) / 32 ≡ list_of k = omega arith in
    let h : suc (saves k) ≡ saves k + 1 = omega arith in
    mark-is 0 (promised k) (saves k + 1) (depth_of k + 32 * list_of k) (omega arith) f.few (omega (arith, ltb-true (saves k) 4 p))
    (subst (λ (n : ℕ). is_list n (depth_of k + 32 * list_of k) ≡ true) h (rw (m, q) (both-and _ _ (le-leb _ _ d) f.list)))

popped : (n l : ℕ) → 1 ≤ n → is_list n l ≡ true → is_list (n - 1) (l / 32) ≡ true
unfolding is_list
popped zero l h e = absurd (let z : ⊥ = omega arith in z)
popped (suc n) l h e = let q : n ≡ suc n - 1 = omega arith in subst (λ (j : ℕ). is_list j (l / 32) ≡ true) q (and_both (leb (l % 32) 16) (is_list n (l / 32)) e).1

fetched-mark : (k : ℕ) → is_mark k ≡ true → permits k 0o260 ≡ true → is_mark (fetched k) ≡ true
unfolding fetched
fetched-mark k t p =
    let f = fields k t in
    let (one, few, some) = fetch-permitted k p in
    mark-is (front_of k + 1) (promised k) (saves k - 1) (list_of k / 32) (omega arith) f.few (omega (arith, f.short)) (popped (saves k) (list_of k) some f.list)

pub leaves-mark : (k op e : ℕ) → is_mark k ≡ true → permits k op ≡ true → e ≤ 16 → is_mark (leaves k op e) ≡ true
unfolding leaves
leaves-mark k op e t p l = by (eqb op 0o262) refl (eqb op 0o260) refl
  where
    by : (u : Bool) → eqb op 0o262 ≡ u → (v : Bool) → eqb op 0o260 ≡ v → is_mark (pick u (stored k) (pick v (fetched k) (passed k e))) ≡ true
    by true q v r = stored-mark k t (rw (eqb-true op 0o262 q) at p)
    by false q true r = fetched-mark k t (rw (eqb-true op 0o260 r) at p)
    by false q false r = passed-mark k e t l

limit : ℕ → ℕ
limit zero = 1
limit (suc n) = 32 * limit n

list-small : (n l : ℕ) → is_list n l ≡ true → l < limit n
unfolding is_list limit
list-small zero l e = omega (arith, eqb-true l 0 e)
list-small (suc n) l e =
    let (a, b) = and_both (leb (l % 32) 16) (is_list n (l / 32)) e in
    omega (arith, leb-true (l % 32) 16 a, list-small n (l / 32) b)

limit-grows : (n m : ℕ) → n ≤ m → limit n ≤ limit m
unfolding limit
limit-grows zero zero l = omega arith
limit-grows zero (suc m) l = omega (arith, limit-grows zero m (omega arith))
limit-grows (suc n) zero l = absurd (let z : ⊥ = omega arith in z)
limit-grows (suc n) (suc m) l = omega (arith, limit-grows n m (omega arith))

below-list : (k : ℕ) → list_of k < 1048576 → k < 0x8000_0000
unfolding list_of
below-list k l = omega arith

pub mark-small : (k : ℕ) → is_mark k ≡ true → k < 0x8000_0000
unfolding limit
mark-small k t =
    let f = fields k t in
    below-list k (omega (arith, list-small (saves k) (list_of k) f.list, limit-grows (saves k) 4 f.short))

-- a list with room for one more
pub list-room : (k : ℕ) → is_mark k ≡ true → saves k < 4 → list_of k < 32768
unfolding limit
list-room k t h = omega (arith, list-small (saves k) (list_of k) (fields k t).list, limit-grows (saves k) 3 (omega arith))

-- so that none is the number of an unmarked position
pub mark-real : (k : ℕ) → is_mark k ≡ true → k ≡ unmarked → ⊥
mark-real k t = depth-real k (fields k t).deep
