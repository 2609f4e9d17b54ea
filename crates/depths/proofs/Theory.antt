-- The search for the fewest assignment, for any analysis: what a visit keeps, and what holds at the end.
use Rattle.std.proofs.Common.{◌≡◌, ℕ, zero, suc, ◌+◌, ◌<◌, ◌≤◌, ◌⊎◌, List, length, get_or, set, replicate, sym, refl, ap, ◌∙◌, subst, inl, inr, not-suc-le-zero, arith, length-set, get_or-set_other, get_or-set_same, below_more, Option, Some, None}
use native.Mathlib.Decide.{ℕ_discrete}
use lib.ListN.{get_or-eq_default, length-replicate}
use Rattle.mcode.specs.declared.Flow.{Flow}
use Rattle.mcode.specs.declared.Flow.TheVariants.{Fault, Ends, To, Fork}
use Rattle.depths.specs.declared.Turn.{Turn}
use Rattle.mcode.specs.Depths.{Analysis, mark, Marked, Follows, Fits, Fewest, NoneFits}
use Rattle.mcode.proofs.Tests.{inside}
use Rattle.depths.specs.Queue.{Implied, Grows, Queue, Entered, Visited, Stepped, Headed, Advanced}
use Rattle.depths.proofs.Lists.{free-set, free_all}

-- the marks that f asks are marks
abbrev pub Real : ℕ → Flow → Type 0
Real none Fault = Unit {0}
Real none Ends = Unit {0}
Real none (To q d) = d ≡ none → ⊥
Real none (Fork q d r e) = (d ≡ none → ⊥) × (e ≡ none → ⊥)

-- the search went on from the map m and the queue w, with its turn still at h
pub record Moved (A : Analysis) (m w : List ℕ) (h t : ℕ) (m' w' : List ℕ) (t' : ℕ) : Type 0 where
  pub queue : Queue A m' w' h t'
  pub grows : Grows A m m'
  pub longer : t ≤ t'
  pub kept : (k : ℕ) → k < t → get_or w' k 0 ≡ get_or w k 0

module _ (A : Analysis) where
  -- a mark that some assignment has is there
  is-mark : (m : List ℕ) (q d : ℕ) → (d ≡ A.none → ⊥) → mark A m q ≡ d → Marked A m q
  is-mark m q d r e z = r (sym e ∙ z)

  pub follows-grows : (f : Flow) (m m' : List ℕ) → Real A.none f → Grows A m m' → Follows A m f → Follows A m' f
  follows-grows Fault m m' r g w = w
  follows-grows Ends m m' r g w = tt
  follows-grows (To q d) m m' r g w = g q (is-mark m q d r w) ∙ w
  follows-grows (Fork q d p e) m m' r g w = (g q (is-mark m q d r.0 w.0) ∙ w.0, g p (is-mark m p e r.1 w.1) ∙ w.1)

  pub grows-trans : (a b c : List ℕ) → Grows A a b → Grows A b c → Grows A a c
  grows-trans a b c g h p k = h p (λ z. k (sym (g p k) ∙ z)) ∙ g p k

  moved-trans : (m w : List ℕ) (h t : ℕ) (m₁ w₁ : List ℕ) (s : ℕ) (m' w' : List ℕ) (t' : ℕ)
      → Moved A m w h t m₁ w₁ s → Moved A m₁ w₁ h s m' w' t' → Moved A m w h t m' w' t'
  moved-trans m w h t m₁ w₁ s m' w' t' M N = record {
    queue = N.queue;
    grows = grows-trans m m₁ m' M.grows N.grows;
    longer = omega (arith, M.longer, N.longer);
    kept = λ k l. N.kept k (omega (arith, M.longer)) ∙ M.kept k l;
  }

  -- what a fitting assignment has after an implied mark
  pub implied-follows : (p d : ℕ) → (d ≡ A.none → ⊥) → Implied A p d → (m : List ℕ) → Fits A m → Follows A m (A.flow p d)
  implied-follows p d r i m F = subst (λ (x : ℕ). Follows A m (A.flow p x)) (i m F) (F.follows p (is-mark m p d r (i m F)))

  module _ (m w : List ℕ) (h t : ℕ) (Q : Queue A m w h t) (q d : ℕ) (imp : Implied A q d) (r : d ≡ A.none → ⊥) where
    pub visit-clash : (m' w' : List ℕ) → Visited A.none m w t q d None m' w' → NoneFits A
    visit-clash m' w' (inl out) n F = r (sym (imp n F) ∙ get_or-eq_default n A.none (omega (arith, F.sized, Q.sized)))
    visit-clash m' w' (inr c) n F = c.2 (sym (Q.implied q c.1 n F) ∙ imp n F)

    module _ (inside : q < length m) (blank : mark A m q ≡ A.none) where
      t-lt : t < length w
      t-lt = omega (arith, Q.room, free-set A.none m q d inside blank r)

      new-mark : mark A (set m q d) q ≡ d
      new-mark = get_or-set_same m q d A.none inside

      new-other : (p : ℕ) → (p ≡ q → ⊥) → mark A (set m q d) p ≡ mark A m p
      new-other p n = get_or-set_other m q p d A.none n

      not_new : (p : ℕ) → Marked A m p → p ≡ q → ⊥
      not_new p k e = k (ap (mark A m) e ∙ blank)

      new-grows : Grows A m (set m q d)
      new-grows p k = new-other p (not_new p k)

      old-work : (k : ℕ) → k < t → get_or (set w t q) k 0 ≡ get_or w k 0
      old-work k l = get_or-set_other w t k q 0 (omega arith)

      new-implied : (p : ℕ) → Dec (p ≡ q) → Marked A (set m q d) p → Implied A p (mark A (set m q d) p)
      new-implied p (yes e) k n F = ap (mark A n) e ∙ imp n F ∙ sym new-mark ∙ sym (ap (mark A (set m q d)) e)
      new-implied p (no e) k n F = Q.implied p (λ z. k (new-other p e ∙ z)) n F ∙ sym (new-other p e)

      new-listed : (p : ℕ) → Dec (p ≡ q) → Marked A (set m q d) p → (k : ℕ) × (k < t + 1) × (get_or (set w t q) k 0 ≡ p)
      new-listed p (yes e) k = (t, omega arith, get_or-set_same w t q 0 t-lt ∙ sym e)
      new-listed p (no e) k =
          let (j, l, s) = Q.listed p (λ z. k (new-other p e ∙ z)) in
          (j, omega arith, old-work j l ∙ s)

      still : (p : ℕ) → Marked A m p → Marked A (set m q d) p
      still p k z = k (sym (new-grows p k) ∙ z)

      new-marked : (k : ℕ) → Dec (k ≡ t) → k < t + 1 → Marked A (set m q d) (get_or (set w t q) k 0)
      new-marked k (yes e) l z =
          r (sym new-mark ∙ ap (mark A (set m q d)) (sym (get_or-set_same w t q 0 t-lt) ∙ ap (λ (j : ℕ). get_or (set w t q) j 0) (sym e)) ∙ z)
      new-marked k (no e) l z =
          let l' : k < t = omega arith in
          still (get_or w k 0) (Q.marked k l') (ap (mark A (set m q d)) (sym (old-work k l')) ∙ z)

      new-done : ((p e : ℕ) → Real A.none (A.flow p e)) → (k : ℕ) → k < h
          → Follows A (set m q d) (A.flow (get_or (set w t q) k 0) (mark A (set m q d) (get_or (set w t q) k 0)))
      new-done real k l =
          let l' : k < t = omega (arith, Q.ordered) in
          let p = get_or w k 0 in
          rw (old-work k l', new-grows p (Q.marked k l'))
          (follows-grows (A.flow p (mark A m p)) m (set m q d) (real p (mark A m p)) new-grows (Q.done k l))

      pub visit-new : ((p e : ℕ) → Real A.none (A.flow p e)) → Queue A (set m q d) (set w t q) h (t + 1)
      visit-new real = record {
        sized = length-set m q d ∙ Q.sized;
        ordered = omega (arith, Q.ordered);
        implied = λ p. new-implied p (ℕ_discrete p q);
        room = simp length-set (omega (arith, Q.room, free-set A.none m q d inside blank r));
        listed = λ p. new-listed p (ℕ_discrete p q);
        marked = λ k. new-marked k (ℕ_discrete k t);
        done = new-done real;
      }

    -- a visit that finds no clash moves the search on, and leaves the mark
    pub visit-tail : ((p e : ℕ) → Real A.none (A.flow p e)) → (t' : ℕ) (m' w' : List ℕ) → Visited A.none m w t q d (Some t') m' w'
        → Moved A m w h t m' w' t' × (mark A m' q ≡ d)
    visit-tail real t' m' w' D = go D.1
      where
        go : ((mark A m q ≡ A.none) × (m' ≡ set m q d) × (w' ≡ set w t q) × (t' ≡ t + 1)) ⊎ ((mark A m q ≡ d) × (m' ≡ m) × (w' ≡ w) × (t' ≡ t))
            → Moved A m w h t m' w' t' × (mark A m' q ≡ d)
        go (inl v) = rw (v.1, v.2, v.3) (
          record {
            queue = visit-new D.0 v.0 real;
            grows = new-grows D.0 v.0;
            longer = omega arith;
            kept = old-work D.0 v.0;
          },
          new-mark D.0 v.0,
        )
        go (inr v) = rw (v.1, v.2, v.3) (record { queue = Q; grows = λ p k. refl; longer = omega arith; kept = λ k l. refl }, v.0)

  -- the turn at h, whose position p has the flow f
  module _ (real : (p e : ℕ) → Real A.none (A.flow p e)) (m w : List ℕ) (h t : ℕ) (Q : Queue A m w h t) (lt : h < t) (f : Flow)
      (flow : A.flow (get_or w h 0) (mark A m (get_or w h 0)) ≡ f) where
    asked : (n : List ℕ) → Fits A n → Follows A n f
    asked n F =
        subst (Follows A n) flow
        (implied-follows (get_or w h 0) (mark A m (get_or w h 0)) (Q.marked h lt) (Q.implied (get_or w h 0) (Q.marked h lt)) n F)

    turned : (m' w' : List ℕ) (t' : ℕ) → Moved A m w h t m' w' t' → Follows A m' f → Queue A m' w' (h + 1) t' × Grows A m m'
    turned m' w' t' M F = (
      record {
        sized = M.queue.sized;
        ordered = omega (arith, M.longer);
        implied = M.queue.implied;
        room = M.queue.room;
        listed = M.queue.listed;
        marked = M.queue.marked;
        done = below_more (λ (k : ℕ). Follows A m' (A.flow (get_or w' k 0) (mark A m' (get_or w' k 0)))) h M.queue.done
            (rw (M.kept h lt, M.grows (get_or w h 0) (Q.marked h lt), flow) F);
      },
      M.grows,
    )

    stay : Moved A m w h t m w t
    stay = record { queue = Q; grows = λ p k. refl; longer = omega arith; kept = λ k l. refl }

  module _ (real : (p e : ℕ) → Real A.none (A.flow p e)) (m w : List ℕ) (h t : ℕ) (Q : Queue A m w h t) (lt : h < t) where
    -- the flow of the position at h
    abbrev At : Flow → Type 0
    At f = A.flow (get_or w h 0) (mark A m (get_or w h 0)) ≡ f

    real-at : (f : Flow) → At f → Real A.none f
    real-at f e = subst (Real A.none) e (real (get_or w h 0) (mark A m (get_or w h 0)))

    pub turn-fault : At Fault → NoneFits A
    turn-fault e = asked real m w h t Q lt Fault e

    pub turn-ends : At Ends → Queue A m w (h + 1) t × Grows A m m
    turn-ends e = turned real m w h t Q lt Ends e m w t (stay real m w h t Q lt Ends e) tt

    pub turn-to : (q d : ℕ) → At (To q d) → (v : Option ℕ) (m' w' : List ℕ) → Visited A.none m w t q d v m' w' → Stepped A (h + 1) m v m' w'
    turn-to q d e None m' w' D = visit-clash m w h t Q q d (asked real m w h t Q lt (To q d) e) (real-at (To q d) e) m' w' D
    turn-to q d e (Some t') m' w' D =
        let (M, k) = visit-tail m w h t Q q d (asked real m w h t Q lt (To q d) e) (real-at (To q d) e) real t' m' w' D in
        turned real m w h t Q lt (To q d) e m' w' t' M k

    pub turn-fork-clash : (q d r g : ℕ) → At (Fork q d r g) → (m' w' : List ℕ) → Visited A.none m w t q d None m' w' → NoneFits A
    turn-fork-clash q d r g e m' w' D =
        visit-clash m w h t Q q d (λ n F. (asked real m w h t Q lt (Fork q d r g) e n F).0) (real-at (Fork q d r g) e).0 m' w' D

    -- the first way of a fork was visited: the queue stands at the same turn
    pub turn-fork-first : (q d r g : ℕ) → At (Fork q d r g) → (s : ℕ) (m₁ w₁ : List ℕ) → Visited A.none m w t q d (Some s) m₁ w₁
        → Moved A m w h t m₁ w₁ s × (mark A m₁ q ≡ d)
    turn-fork-first q d r g e s m₁ w₁ D =
        visit-tail m w h t Q q d (λ n F. (asked real m w h t Q lt (Fork q d r g) e n F).0) (real-at (Fork q d r g) e).0 real s m₁ w₁ D

    pub turn-fork : (q d r g : ℕ) → At (Fork q d r g) → (s : ℕ) (m₁ w₁ : List ℕ) → Visited A.none m w t q d (Some s) m₁ w₁
        → (v : Option ℕ) (m' w' : List ℕ) → Visited A.none m₁ w₁ s r g v m' w' → Stepped A (h + 1) m v m' w'
    turn-fork q d r g e s m₁ w₁ D None m' w' D' =
        let (M, k) = turn-fork-first q d r g e s m₁ w₁ D in
        visit-clash m₁ w₁ h s M.queue r g (λ n F. (asked real m w h t Q lt (Fork q d r g) e n F).1) (real-at (Fork q d r g) e).1 m' w' D'
    turn-fork q d r g e s m₁ w₁ D (Some t') m' w' D' =
        let (M, k) = turn-fork-first q d r g e s m₁ w₁ D in
        let (N, j) = visit-tail m₁ w₁ h s M.queue r g (λ n F. (asked real m w h t Q lt (Fork q d r g) e n F).1) (real-at (Fork q d r g) e).1 real t' m' w' D' in
        turned real m w h t Q lt (Fork q d r g) e m' w' t' (moved-trans m w h t m₁ w₁ s m' w' t' M N)
        (N.grows q (is-mark m₁ q d (real-at (Fork q d r g) e).0 k) ∙ k, j)

  -- an empty queue: the map is the fewest
  pub drained : (m w : List ℕ) (t : ℕ) → Queue A m w t t → Entered A m A.entries → Fewest A m
  drained m w t Q E = record {
    fits = record {
      sized = Q.sized;
      enters = E;
      follows = λ p k.
          let (j, l, s) = Q.listed p k in
          subst (λ (x : ℕ). Follows A m (A.flow x (mark A m x))) s (Q.done j l);
    };
    least = λ n F p k. Q.implied p k n F;
  }

  -- the start: nothing is marked
  pub blank-map : (p : ℕ) → mark A (replicate A.size A.none) p ≡ A.none
  blank-map p = go A.size p
    where
      go : (k p : ℕ) → get_or (replicate k A.none) p A.none ≡ A.none
      go zero p = refl
      go (suc k) zero = refl
      go (suc k) (suc p) = go k p

  pub blank-queue : (w : List ℕ) → A.size ≤ length w → Queue A (replicate A.size A.none) w 0 0
  blank-queue w l = record {
    sized = length-replicate A.size A.none;
    ordered = omega arith;
    implied = λ p k. absurd (k (blank-map p));
    room = omega (arith, free_all A.none A.size);
    listed = λ p k. absurd (k (blank-map p));
    marked = λ k l'. absurd (not-suc-le-zero l');
    done = λ k l'. absurd (not-suc-le-zero l');
  }

  -- entry i is visited
  module _ (m w : List ℕ) (t i : ℕ) (Q : Queue A m w 0 t) (E : Entered A m i) (l : i < A.entries)
      (reals : (k : ℕ) → k < A.entries → A.entry_mark k ≡ A.none → ⊥) where
    pub enter-clash : (m' w' : List ℕ) → Visited A.none m w t (A.entry_at i) (A.entry_mark i) None m' w' → NoneFits A
    enter-clash m' w' D = visit-clash m w 0 t Q (A.entry_at i) (A.entry_mark i) (λ n F. F.enters i l) (reals i l) m' w' D

    pub enter-tail : ((p e : ℕ) → Real A.none (A.flow p e)) → (t' : ℕ) (m' w' : List ℕ)
        → Visited A.none m w t (A.entry_at i) (A.entry_mark i) (Some t') m' w' → Queue A m' w' 0 t' × Entered A m' (i + 1)
    enter-tail real t' m' w' D =
        let (M, k) = visit-tail m w 0 t Q (A.entry_at i) (A.entry_mark i) (λ n F. F.enters i l) (reals i l) real t' m' w' D in (
          M.queue,
          below_more (λ (j : ℕ). mark A m' (A.entry_at j) ≡ A.entry_mark j) i
              (λ j l'. M.grows (A.entry_at j) (is-mark m (A.entry_at j) (A.entry_mark j) (reals j (omega arith)) (E j l')) ∙ E j l') k,
        )

  -- a grown map keeps the entries' marks
  pub entered-grows : (m m' : List ℕ) (i : ℕ) → ((k : ℕ) → k < i → A.entry_mark k ≡ A.none → ⊥) → Grows A m m' → Entered A m i → Entered A m' i
  entered-grows m m' i reals g E k l = g (A.entry_at k) (is-mark m (A.entry_at k) (A.entry_mark k) (reals k l) (E k l)) ∙ E k l

  -- the head of the queue lies in the map
  pub in-queue : (m w : List ℕ) (h t : ℕ) → Queue A m w h t → h < t → (h < length w) × (get_or w h 0 < length m)
  in-queue m w h t Q l = (omega (arith, Q.room), inside A m (get_or w h 0) (Q.marked h l))

  -- a step, and then the turn of the queue's head
  pub headed : (h : ℕ) (m m' w' : List ℕ) (s : ℕ) → Queue A m' w' h s × Grows A m m' → (r : Turn) → Headed A.none m' w' h s r → Advanced A h m (Some r) m' w'
  headed h m m' w' s S r (e, f) = rw e (S.0, S.1, f)

  -- a position that was queued at t is there
  pub queued : (m w : List ℕ) (t q d s : ℕ) (m' w' : List ℕ) → Visited A.none m w t q d (Some s) m' w' → s ≤ length w → t < s → (get_or w' t 0 ≡ q) × (mark A m' q ≡ d)
  queued m w t q d s m' w' D l h = go D.1
    where
      go : ((mark A m q ≡ A.none) × (m' ≡ set m q d) × (w' ≡ set w t q) × (s ≡ t + 1)) ⊎ ((mark A m q ≡ d) × (m' ≡ m) × (w' ≡ w) × (s ≡ t)) → (get_or w' t 0 ≡ q) × (mark A m' q ≡ d)
      go (inl v) = rw (v.1, v.2) (get_or-set_same w t q 0 (omega arith), get_or-set_same m q d A.none D.0)
      go (inr v) = absurd (let z : ⊥ = omega (arith, v.3) in z)

  -- the search between two turns: the queue's head is the position whose turn is next
  abbrev pub Going : List ℕ → List ℕ → ℕ → Turn → Type 0
  Going m w h r = Queue A m w h r.tail × Entered A m A.entries × (h < r.tail → (get_or w h 0 ≡ r.position) × (mark A m r.position ≡ r.found))

  pub first-going : (m w : List ℕ) (h t : ℕ) → Queue A m w h t → Entered A m A.entries → (r : Turn) → Headed A.none m w h t r → Going m w h r
  first-going m w h t Q E r (e, f) = rw e (Q, E, f)

  pub more-going : (h : ℕ) (m m' w' : List ℕ) → ((k : ℕ) → k < A.entries → A.entry_mark k ≡ A.none → ⊥) → Entered A m A.entries
      → (r : Turn) → Advanced A h m (Some r) m' w' → Going m' w' h r
  more-going h m m' w' reals E r (Q, g, f) = (Q, entered-grows m m' A.entries reals g E, f)
