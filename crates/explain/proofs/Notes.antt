-- What the loop over the positions keeps: those before p have their marks and notes.
use mathlib.Core.Path.{◌≡◌, refl, sym, ◌∙◌}
use mathlib.Core.Logic.{inl, inr}
use mathlib.Core.Bool.{Bool, true, false}
use mathlib.Core.List.{List}
use Prim.Native.Nat.{ℕ, ◌+◌, ◌<◌}
use native.Mathlib.Omega.{arith}
use lib.ListN.{length, get_or, set, length-set}
use lib.Seq.{get_or-set_same, get_or-set_other}
use lib.Dec.{eqb}
use borrow.Author.Count.{below_more}
use borrow.Author.Tests.{eqb-false}
use Rattle.mcode.specs.declared.Module.{Module}
use Rattle.std.proofs.Common.{Option, None}
use Rattle.mcode.specs.declared.Program.{Program}
use Rattle.mcode.specs.Word.{pick}
use Rattle.mcode.specs.Depths.{unmarked, Fewest}
use Rattle.mcode.specs.Walk.{walk, cause_at, Reached}
use Rattle.mcode.proofs.Reached.{walk-reached}
use Rattle.depths.proofs.Lists.{get_d_any}
use Rattle.explain.specs.declared.shown.Note.{Note}
use Rattle.explain.specs.Shown.{note_of, no_depth, depth_mark, Noted, Shown}

depth-real : (x : ℕ) → depth_mark x ≡ unmarked → ⊥
depth-real x = go (eqb x unmarked) refl
  where
    go : (t : Bool) → eqb x unmarked ≡ t → pick t no_depth x ≡ unmarked → ⊥
    go true e z = omega (arith, z)
    go false e z = eqb-false x unmarked e z

module _ (image : List ℕ) (program : Program) (m : Module) where
  pub record Begun (map : List ℕ) (notes : List (Option Note)) (p : ℕ) : Type 0 where
    pub marks-long : length map ≡ m.length
    pub notes-long : length notes ≡ m.length
    pub shown : (q : ℕ) → q < p → Shown image program m q (get_or map q 0) (get_or notes q None)

  module _ (seen : List ℕ) (W : Fewest (walk image m) seen) (map : List ℕ) (notes : List (Option Note)) (p : ℕ) (B : Begun map notes p) (l : p < m.length) where
    same : get_or seen p 0 ≡ get_or seen p unmarked
    same = get_d_any seen p 0 unmarked (omega (arith, l, W.fits.sized))

    unreached : get_or seen p 0 ≡ unmarked → Reached image m p → ⊥
    unreached e r = (walk-reached image m seen W p).1 r (sym same ∙ e)

    reached : (get_or seen p 0 ≡ unmarked → ⊥) → Reached image m p
    reached n = (walk-reached image m seen W p).0 (λ z. n (same ∙ z))

    -- both lists with what is new at p
    put : (x : ℕ) (y : Option Note) → Shown image program m p x y → Begun (set map p x) (set notes p y) (p + 1)
    put x y S = record {
      marks-long = length-set map p x ∙ B.marks-long;
      notes-long = length-set notes p y ∙ B.notes-long;
      shown = below_more (λ (q : ℕ). Shown image program m q (get_or (set map p x) q 0) (get_or (set notes p y) q None)) p
          (λ q h. rw (get_or-set_other map p q x 0 (λ z. omega (arith, z, h)), get_or-set_other notes p q y None (λ z. omega (arith, z, h))) (B.shown q h))
          (rw (get_or-set_same map p x 0 (omega (arith, l, B.marks-long)), get_or-set_same notes p y None (omega (arith, l, B.notes-long))) S);
    }

    pub one_more : (map' : List ℕ) (notes' : List (Option Note)) → Noted image program m p (get_or seen p 0) map notes map' notes' → Begun map' notes' (p + 1)
    one_more map' notes' (inl (e, a, b)) = rw (a, b) (put unmarked None (inl (unreached e, refl, refl)))
    one_more map' notes' (inr (n, a, b)) = rw (a, b) (put (depth_mark (get_or map p 0)) (note_of (cause_at image program m p)) (inr (reached n, depth-real (get_or map p 0), refl)))
