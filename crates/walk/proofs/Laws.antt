-- The walk as an analysis: its marks are 0, a visit is one of the search, and a step of it is one of the search.
use mathlib.Core.Path.{◌≡◌, refl, sym, ap, ◌∙◌, subst}
use mathlib.Core.Logic.{inl, inr}
use mathlib.Core.Bool.{Bool, true, false}
use mathlib.Core.List.{List}
use Rattle.std.proofs.Common.{Some}
use Prim.Native.Nat.{ℕ, ◌+◌, ◌≤◌, ◌<◌}
use native.Mathlib.Decide.{dec_lt}
use native.Mathlib.Omega.{arith}
use lib.ListN.{length, get_or, replicate, length-set, get_or-replicate}
use lib.Dec.{ltb}
use borrow.Author.Tests.{lt-ltb, le-ltb}
use Rattle.mcode.specs.declared.Flow.{Flow}
use Rattle.mcode.specs.declared.Flow.TheVariants.{Fault, Ends, To, Fork}
use Rattle.mcode.specs.declared.Module.{Module}
use Rattle.mcode.specs.Word.{pick, byte}
use Rattle.mcode.specs.Image.{code_byte}
use Rattle.depths.specs.declared.code.Code.{Code}
use Rattle.mcode.specs.Depths.{unmarked, Analysis, mark}
use Rattle.mcode.specs.Walk.{ways_at, legible, within}
use Rattle.mcode.proofs.Reached.{Seen, seen-ways, walk-fits}
use Rattle.depths.specs.Queue.{free, Queue, Visited, Stepped}
use Rattle.depths.proofs.Lists.{free-set}
use Rattle.depths.proofs.Flows.{code-byte}
use Rattle.depths.proofs.Theory.{Real, turn-ends, turn-to, turn-fork-first, turn-fork}
use Rattle.walk.specs.Set.{walk_of, Noted}

marked-none : (d : ℕ) → d ≡ 0 → d ≡ unmarked → ⊥
marked-none d x z = omega (arith, x, z)

-- a visit leaves room in the queue, and the map's length
pub noted-room : (s w : List ℕ) (t q t' : ℕ) (s' w' : List ℕ) → Noted s w t q t' s' w' → t + free unmarked s ≤ length w → (t' + free unmarked s' ≤ length w') × (length s' ≡ length s)
noted-room s w t q t' s' w' (inl n) l =
    rw (n.2, n.3, n.4) (simp length-set (omega (arith, l, free-set unmarked s q 0 n.0 n.1 (marked-none 0 refl))), length-set s q 0)
noted-room s w t q t' s' w' (inr n) l = rw (n.1, n.2, n.3) (l, refl)

-- the bytes of a code are the image's from its beginning on
pub code-at : (c : Code) (i : ℕ) → byte c.bytes.now i ≡ code_byte c.image.now c.m i
code-at c i = code-byte c.image.now c.bytes.now c.m.code i c.begins

module _ (c : Code) where
  abbrev image : List ℕ
  image = c.image.now

  abbrev m : Module
  m = c.m

  abbrev W : Analysis
  W = walk_of c

  -- where position p leads, in the code or not
  abbrev pub way : ℕ → Flow
  way p = pick (legible image m p) (ways_at image m p) Ends

  seen-way : (p : ℕ) → Seen (way p)
  unfolding ways_at
  seen-way p = go (legible image m p)
    where
      go : (u : Bool) → Seen (pick u (ways_at image m p) Ends)
      go true = seen-ways _ _ _
      go false = tt

  flow-way : (p k : ℕ) → W.flow p k ≡ within m.length (way p)
  flow-way p k = go (legible image m p)
    where
      go : (u : Bool) → pick u (within m.length (ways_at image m p)) Ends ≡ within m.length (pick u (ways_at image m p) Ends)
      go true = refl
      go false = refl

  real-within : (g : Flow) → Seen g → Real unmarked (within m.length g)
  real-within Fault x = tt
  real-within Ends x = tt
  real-within (To q d) x = go (ltb q m.length)
    where
      go : (u : Bool) → Real unmarked (pick u (To q d) Ends)
      go true = marked-none d x
      go false = tt
  real-within (Fork q d r e) x = go (ltb q m.length) (ltb r m.length)
    where
      go : (u v : Bool) → Real unmarked (pick u (pick v (Fork q d r e) (To q d)) (pick v (To r e) Ends))
      go true true = (marked-none d x.0, marked-none e x.1)
      go true false = marked-none d x.0
      go false true = marked-none e x.1
      go false false = tt

  pub real : (p k : ℕ) → Real unmarked (W.flow p k)
  real p k = subst (Real unmarked) (sym (flow-way p k)) (real-within (way p) (seen-way p))

  pub reals : (k : ℕ) → k < W.entries → W.entry_mark k ≡ unmarked → ⊥
  reals k l = marked-none 0 refl

  -- a visit of a position in the code is one for the mark 0
  pub visited : (s w : List ℕ) (h t : ℕ) → Queue W s w h t → (q : ℕ) → q < m.length
      → (t' : ℕ) (s' w' : List ℕ) → Noted s w t q t' s' w' → Visited unmarked s w t q 0 (Some t') s' w'
  visited s w h t Q q l t' s' w' (inl n) = (n.0, inl (n.1, n.2, n.3, n.4))
  visited s w h t Q q l t' s' w' (inr n) =
      let i : q < length s = omega (arith, l, Q.sized) in
      (i, inr (sym (Q.implied q (n.0 i) (replicate m.length 0) (walk-fits image m c.sound)) ∙ get_or-replicate m.length q 0 unmarked l, n.1, n.2, n.3))

  outside : (s w : List ℕ) (t q : ℕ) → length s ≤ q → (t' : ℕ) (s' w' : List ℕ) → Noted s w t q t' s' w' → (s' ≡ s) × (w' ≡ w) × (t' ≡ t)
  outside s w t q l t' s' w' (inl n) = absurd (let z : ⊥ = omega (arith, l, n.0) in z)
  outside s w t q l t' s' w' (inr n) = (n.1, n.2, n.3)

  -- the turn at h, whose position leads to g
  module _ (s w : List ℕ) (h t : ℕ) (Q : Queue W s w h t) (lt : h < t) where
    abbrev At : Flow → Type 0
    At f = W.flow (get_or w h 0) (mark W s (get_or w h 0)) ≡ f

    at : (g : Flow) → way (get_or w h 0) ≡ g → At (within m.length g)
    at g e = flow-way (get_or w h 0) (mark W s (get_or w h 0)) ∙ ap (within m.length) e

    pub turn-none : (g : Flow) → way (get_or w h 0) ≡ g → within m.length g ≡ Ends → Stepped W (h + 1) s (Some t) s w
    turn-none g e z = turn-ends W real s w h t Q lt (at g e ∙ z)

    one : (q d : ℕ) → d ≡ 0 → At (within m.length (To q d)) → (t' : ℕ) (s' w' : List ℕ) → Noted s w t q t' s' w' → Stepped W (h + 1) s (Some t') s' w'
    one q d z e t' s' w' N = go (dec_lt q m.length)
      where
        go : Dec (q < m.length) → Stepped W (h + 1) s (Some t') s' w'
        go (yes l) = turn-to W real s w h t Q lt q 0 (e ∙ rw (lt-ltb _ _ l, z) refl) (Some t') s' w' (visited s w h t Q q l t' s' w' N)
        go (no n) =
            let (a, b, c) = outside s w t q (omega (arith, Q.sized)) t' s' w' N in
            rw (a, b, c) (turn-ends W real s w h t Q lt (e ∙ rw (le-ltb q m.length (omega arith)) refl))

    pub turn_one : (q d : ℕ) → way (get_or w h 0) ≡ To q d → (t' : ℕ) (s' w' : List ℕ) → Noted s w t q t' s' w' → Stepped W (h + 1) s (Some t') s' w'
    turn_one q d e = one q d (subst Seen e (seen-way (get_or w h 0))) (at (To q d) e)

    -- one way of a fork may lie outside
    pub turn_two : (q d r e : ℕ) → way (get_or w h 0) ≡ Fork q d r e → (t₁ : ℕ) (s₁ w₁ : List ℕ) → Noted s w t q t₁ s₁ w₁
        → (t' : ℕ) (s' w' : List ℕ) → Noted s₁ w₁ t₁ r t' s' w' → Stepped W (h + 1) s (Some t') s' w'
    turn_two q d r e f t₁ s₁ w₁ N t' s' w' N' = go (dec_lt q m.length) (dec_lt r m.length)
      where
        zeros : (d ≡ 0) × (e ≡ 0)
        zeros = subst Seen f (seen-way (get_or w h 0))

        fork : At (within m.length (Fork q d r e))
        fork = at (Fork q d r e) f

        go : Dec (q < m.length) → Dec (r < m.length) → Stepped W (h + 1) s (Some t') s' w'
        go (yes k) (yes l) =
            let both : At (Fork q 0 r 0) = fork ∙ rw (lt-ltb _ _ k, lt-ltb _ _ l, zeros.0, zeros.1) refl in
            let D = visited s w h t Q q k t₁ s₁ w₁ N in
            let M = (turn-fork-first W real s w h t Q lt q 0 r 0 both t₁ s₁ w₁ D).0 in
            turn-fork W real s w h t Q lt q 0 r 0 both t₁ s₁ w₁ D (Some t') s' w' (visited s₁ w₁ h t₁ M.queue r l t' s' w' N')
        go (yes k) (no n) =
            let first = one q d zeros.0 (fork ∙ rw (le-ltb r m.length (omega arith)) refl) t₁ s₁ w₁ N in
            let (a, b, c) = outside s₁ w₁ t₁ r (omega (arith, first.0.sized)) t' s' w' N' in
            rw (a, b, c) first
        go (no n) l =
            let (a, b, c) = outside s w t q (omega (arith, Q.sized)) t₁ s₁ w₁ N in
            one r e zeros.1 (fork ∙ rw (le-ltb q m.length (omega arith)) refl) t' s' w' (rw (a, b, c) at N')
