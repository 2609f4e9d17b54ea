-- Laws of the tests of a lent map: one that fails, marks with the same floor, and the test of one position as the code makes it.
use Rattle.std.proofs.Common.{◌≡◌, ℕ, ◌+◌, ◌-◌, ◌%◌, ◌<◌, ◌≤◌, Bool, true, false, eqb, leb, List, length, get_or, sym, refl, ap, ◌∙◌, arith, eq-eqb, ne_eqb, eqb-true, le-leb}
use mathlib.Core.Bool.{false≢true}
use native.Mathlib.Decide.{dec_lt}
use borrow.Author.Tests.{lt-leb}
use Rattle.mcode.specs.Word.{pick, and, all_below}
use Rattle.mcode.specs.Depths.{unmarked, depth_of, is_mark, passed, followed}
use Rattle.mcode.specs.declared.Flow.{Flow}
use Rattle.mcode.specs.declared.Flow.TheVariants.{Fault, Ends, To, Fork}
use Rattle.mcode.proofs.Tests.{refuted, and_both, both-and, all-at}
use Rattle.mcode.proofs.Marks.{fields, depth-passed, passed-own, passed-twice, passed-floor, passed-mark, mark-small}
use Rattle.depths.specs.Lent.{depths_of}
use Rattle.depths.specs.declared.code.Rules.{Rules}
use Rattle.depths.specs.Test.{followed_in, mark_fits}
use Rattle.depths.proofs.Lists.{get_d_any}
use Rattle.depths.proofs.Flows.{flow-unmarked}

-- one of many tests fails
pub one-fails : (n : ℕ) (f : ℕ → Bool) (k : ℕ) → k < n → f k ≡ false → all_below n f ≡ false
one-fails n f k l e = refuted (all_below n f) (λ a. false≢true (sym e ∙ all-at n f a k l))

-- a mark at depth 0: the one with the results and the saved depths of any mark
abbrev pub Floor : ℕ → Type 0
Floor k = (is_mark k ≡ true) × (depth_of k ≡ 0)

pub floor-real : (k : ℕ) → is_mark k ≡ true → Floor (passed k 0)
floor-real k t = (passed-mark k 0 t (omega arith), depth-passed k 0 (omega arith))

-- a mark has the results and the saved depths of a floor where the difference, modulo 2^32, is a depth
pub same-floor : (k f : ℕ) → Floor f → k < 0x1_0000_0000 → leb ((k + (0x1_0000_0000 - f)) % 0x1_0000_0000) 16 ≡ and (is_mark k) (eqb (passed k 0) f)
same-floor k f (t, z) r = go (dec_lt 16 x)
  where
    x : ℕ
    x = (k + (0x1_0000_0000 - f)) % 0x1_0000_0000

    small : f < 0x8000_0000
    small = mark-small f t

    h : x < 0x1_0000_0000
    h = omega arith

    e : (x + f) % 0x1_0000_0000 ≡ k
    e = omega (arith, small)

    apart : 16 < x → and (is_mark k) (eqb (passed k 0) f) ≡ true → ⊥
    apart n u =
        let (a, b) = and_both (is_mark k) (eqb (passed k 0) f) u in
        let s = mark-small k a in
        let d = (fields k a).deep in
        let v : passed k 0 ≡ f = eqb-true _ _ b in
        let w : k ≡ passed k 0 + depth_of k = sym (passed-own k) ∙ passed-floor k (depth_of k) in
        omega arith

    near : x ≤ 16 → k ≡ passed f x
    near l = let w : passed f x ≡ f + x = passed-floor f x ∙ ap (λ (j : ℕ). j + x) (ap (passed f) (sym z) ∙ passed-own f) in omega (arith, small)

    go : Dec (16 < x) → leb x 16 ≡ and (is_mark k) (eqb (passed k 0) f)
    go (yes n) = rw (lt-leb x 16 n) (sym (refuted (and (is_mark k) (eqb (passed k 0) f)) (apart n)))
    go (no n) =
        let l : x ≤ 16 = omega arith in
        let r = ap is_mark (near l) ∙ passed-mark f x t l in
        let q = ap (λ (j : ℕ). passed j 0) (near l) ∙ passed-twice f x 0 (omega arith) ∙ ap (passed f) (sym z) ∙ passed-own f in
        rw (le-leb x 16 l) (sym (both-and (is_mark k) (eqb (passed k 0) f) r (eq-eqb (passed k 0) f q)))

-- RTN and TRAP ask nothing of a successor
pub last-follows : (map : List ℕ) (t : Bool) → followed_in map (pick t Ends Fault) ≡ t
last-follows map true = refl
last-follows map false = refl

module _ (r : Rules) (map : List ℕ) where
  -- the test of the successors is the same in every analysis of marks
  followed-in : (f : Flow) → followed_in map f ≡ followed (depths_of r) map f
  followed-in Fault = refl
  followed-in Ends = refl
  followed-in (To q d) = refl
  followed-in (Fork q d r e) = refl

  -- the code reads a mark inside the map, with no default
  pub mark-tested : (p : ℕ) (ok : Bool) → p < length map → (get_or map p 0 ≡ unmarked → ⊥)
      → ok ≡ followed_in map ((depths_of r).flow p (get_or map p 0))
      → mark_fits (depths_of r) map p ≡ ok
  mark-tested p ok l n o = rw (get_d_any map p unmarked 0 l, ne_eqb _ _ n) (sym (o ∙ followed-in ((depths_of r).flow p (get_or map p 0))))

  pub mark-absent : (p : ℕ) → p < length map → get_or map p 0 ≡ unmarked → mark_fits (depths_of r) map p ≡ true
  mark-absent p l e = rw (get_d_any map p unmarked 0 l, eq-eqb _ _ e) refl

  pub mark-odd : (p : ℕ) → p < length map → (get_or map p 0 ≡ unmarked → ⊥) → is_mark (get_or map p 0) ≡ false → mark_fits (depths_of r) map p ≡ false
  mark-odd p l n o = rw (get_d_any map p unmarked 0 l, ne_eqb _ _ n, flow-unmarked r.code.image.now r.program.now r.code.m p (get_or map p 0) o) refl
