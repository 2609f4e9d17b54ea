-- A computed test of load's answer on one image: the marks that the rules force are gathered from the entries on. Every fitting
-- assignment has the forced marks; so a fitting map whose marks are all forced is the fewest, and where forced marks clash none
-- fits. The fuel bounds the search only: too little of it proves nothing. Assumes nothing.
use mathlib.Core.Path.{◌≡◌, refl, sym, ap, ◌∙◌, subst}
use mathlib.Core.Logic.{◌⊎◌, inl, inr, ⊎_elim}
use mathlib.Core.Bool.{Bool, true, false, not, false≢true}
use mathlib.Core.List.{List, [], ◌∷◌, ◌++◌}
use Prim.Native.Nat.{ℕ, zero, suc, ◌+◌, ◌*◌, ◌≤◌, ◌<◌}
use native.Mathlib.Omega.{arith}
use lib.ListN.{length, replicate, length-replicate, get_or-eq_default, get_or-replicate}
use lib.Dec.{ltb, leb, eqb}
use borrow.Author.Tests.{ltb-true, le-ltb, leb-true, eqb-true, eqb-false}
use Rattle.mcode.specs.declared.Flow.{Flow}
use Rattle.mcode.specs.declared.Flow.TheVariants.{Fault, Ends, To, Fork}
use Rattle.mcode.specs.Word.{pick, and, or, all_below, any_below}
use Rattle.mcode.specs.Image.{parse, module_of, in_code}
use Rattle.mcode.specs.Depths.{Analysis, mark, Follows, Fits, Fewest, NoneFits, fits, unmarked, entry, depths, marks_of, map_fits, KeptPast, Blanked}
use Rattle.mcode.specs.Walk.{whole_at, walk, Reached, Whole}
use Rattle.mcode.specs.Run.{verdict, fault_at, accepts as judges, breaks, unfit, Loads}
use Rattle.mcode.proofs.Tests.{and_both, or-either, or-second, not_is, all-at, any_at, inside, fits-says}

-- a position and a mark
pub record Place : Type 0 where
  pub at : ℕ
  pub mark : ℕ

abbrev pub place : ℕ → ℕ → Place
place p d = record { at = p; mark = d }

module _ (A : Analysis) where
  -- p with d is among the places
  unfoldable pub member : ℕ → ℕ → List Place → Bool
  member p d [] = false
  member p d (x ∷ xs) = or (and (eqb x.at p) (eqb x.mark d)) (member p d xs)

  -- the places that a place forces
  abbrev pub onward : Flow → List Place
  onward Fault = []
  onward Ends = []
  onward (To q d) = place q d ∷ []
  onward (Fork q d r e) = place q d ∷ place r e ∷ []

  abbrev pub after : Place → List Place
  after x = pick (eqb x.mark A.none) [] (onward (A.flow x.at x.mark))

  -- the places forced by those to do and those that are done; n bounds the search
  unfoldable pub gather : ℕ → List Place → List Place → List Place
  gather zero todo done = done
  gather (suc n) [] done = done
  gather (suc n) (x ∷ todo) done = elim (member x.at x.mark done) [ true ↦ gather n todo done | false ↦ gather n (after x ++ todo) (x ∷ done) ]

  -- the first k entries
  unfoldable pub entered : ℕ → List Place
  entered zero = []
  entered (suc k) = place (A.entry_at k) (A.entry_mark k) ∷ entered k

  unfoldable pub forced : List Place
  forced = gather (A.entries + 4 * suc A.size) (entered A.entries) []

  -- every mark of m is forced
  unfoldable pub least_test : List ℕ → Bool
  least_test m = let all = forced in all_below A.size (λ p. or (eqb (mark A m p) A.none) (member p (mark A m p) all))

  abbrev pub is_fault : Flow → Bool
  is_fault Fault = true
  is_fault Ends = false
  is_fault (To q d) = false
  is_fault (Fork q d r e) = false

  -- another mark at the same position
  unfoldable pub other : Place → List Place → Bool
  other x [] = false
  other x (y ∷ ys) = or (and (eqb y.at x.at) (not (eqb y.mark x.mark))) (other x ys)

  -- a forced mark outside of the code, at a fault, or beside another
  unfoldable pub wrong : List Place → Place → Bool
  wrong all x = and (not (eqb x.mark A.none)) (or (leb A.size x.at) (or (is_fault (A.flow x.at x.mark)) (other x all)))

  unfoldable pub any_wrong : List Place → List Place → Bool
  any_wrong all [] = false
  any_wrong all (x ∷ xs) = or (wrong all x) (any_wrong all xs)

  unfoldable pub clash_test : Bool
  clash_test = let all = forced in any_wrong all all

  -- ---- what they say of a fitting assignment m
  module _ (m : List ℕ) (F : Fits A m) where
    abbrev Agrees : List Place → Type 0
    Agrees [] = Unit {0}
    Agrees (x ∷ xs) = (mark A m x.at ≡ x.mark) × Agrees xs

    agrees-both : (xs ys : List Place) → Agrees xs → Agrees ys → Agrees (xs ++ ys)
    agrees-both [] ys a b = b
    agrees-both (x ∷ xs) ys a b = (a.0, agrees-both xs ys a.1 b)

    agrees_after : (x : Place) → mark A m x.at ≡ x.mark → Agrees (after x)
    agrees_after x e = go (eqb x.mark A.none) refl
      where
        flows : (f : Flow) → Follows A m f → Agrees (onward f)
        flows Fault w = tt
        flows Ends w = tt
        flows (To q d) w = (w, tt)
        flows (Fork q d r g) w = (w.0, (w.1, tt))

        go : (t : Bool) → eqb x.mark A.none ≡ t → Agrees (pick t [] (onward (A.flow x.at x.mark)))
        go true z = tt
        go false z =
            flows (A.flow x.at x.mark)
            (subst (λ (d : ℕ). Follows A m (A.flow x.at d)) e (F.follows x.at (λ y. eqb-false _ _ z (sym e ∙ y))))

    agrees-gather : (n : ℕ) (todo done : List Place) → Agrees todo → Agrees done → Agrees (gather n todo done)
    unfolding gather
    agrees-gather zero todo done a b = b
    agrees-gather (suc n) [] done a b = b
    agrees-gather (suc n) (x ∷ todo) done a b =
        go (λ u v p q. agrees-gather n u v p q) (member x.at x.mark done)
      where
        go : ((u v : List Place) → Agrees u → Agrees v → Agrees (gather n u v)) → (t : Bool)
            → Agrees (elim t [ true ↦ gather n todo done | false ↦ gather n (after x ++ todo) (x ∷ done) ])
        go ih true = ih todo done a.1 b
        go ih false = ih (after x ++ todo) (x ∷ done) (agrees-both (after x) todo (agrees_after x a.0) a.1) (a.0, b)

    agrees-entered : (k : ℕ) → k ≤ A.entries → Agrees (entered k)
    unfolding entered
    agrees-entered zero l = tt
    agrees-entered (suc k) l = (F.enters k l, agrees-entered k (omega arith))

    agrees-forced : Agrees forced
    unfolding forced
    agrees-forced = agrees-gather (A.entries + 4 * suc A.size) (entered A.entries) [] (agrees-entered A.entries (omega arith)) tt

    member-agrees : (p d : ℕ) (xs : List Place) → Agrees xs → member p d xs ≡ true → mark A m p ≡ d
    unfolding member
    member-agrees p d [] a e = absurd (false≢true e)
    member-agrees p d (x ∷ xs) a e = go (or-either (and (eqb x.at p) (eqb x.mark d)) (member p d xs) e) (λ h. member-agrees p d xs a.1 h)
      where
        go : (and (eqb x.at p) (eqb x.mark d) ≡ true) ⊎ (member p d xs ≡ true) → (member p d xs ≡ true → mark A m p ≡ d) → mark A m p ≡ d
        go (inl t) ih =
            let (u, v) = and_both (eqb x.at p) (eqb x.mark d) t in
            ap (mark A m) (sym (eqb-true _ _ u)) ∙ a.0 ∙ eqb-true _ _ v
        go (inr t) ih = ih t

    other-clash : (x : Place) → mark A m x.at ≡ x.mark → (ys : List Place) → Agrees ys → other x ys ≡ true → ⊥
    unfolding other
    other-clash x h [] a e = false≢true e
    other-clash x h (y ∷ ys) a e = go (or-either (and (eqb y.at x.at) (not (eqb y.mark x.mark))) (other x ys) e) (λ t. other-clash x h ys a.1 t)
      where
        go : (and (eqb y.at x.at) (not (eqb y.mark x.mark)) ≡ true) ⊎ (other x ys ≡ true) → (other x ys ≡ true → ⊥) → ⊥
        go (inl t) ih =
            let (u, v) = and_both (eqb y.at x.at) (not (eqb y.mark x.mark)) t in
            eqb-false _ _ (not_is _ v) (sym a.0 ∙ ap (mark A m) (eqb-true _ _ u) ∙ h)
        go (inr t) ih = ih t

    fault-clash : (f : Flow) → Follows A m f → is_fault f ≡ true → ⊥
    fault-clash Fault w e = w
    fault-clash Ends w e = false≢true e
    fault-clash (To q d) w e = false≢true e
    fault-clash (Fork q d r g) w e = false≢true e

    wrong-clash : (all : List Place) → Agrees all → (x : Place) → mark A m x.at ≡ x.mark → wrong all x ≡ true → ⊥
    unfolding wrong
    wrong-clash all a x h e =
        let (u, v) = and_both (not (eqb x.mark A.none)) (or (leb A.size x.at) (or (is_fault (A.flow x.at x.mark)) (other x all))) e in
        let real : x.mark ≡ A.none → ⊥ = eqb-false _ _ (not_is _ u) in
        ⊎_elim
        (λ t. real (sym h ∙ get_or-eq_default m A.none (omega (arith, F.sized, leb-true A.size x.at t))))
        (λ t. ⊎_elim
        (λ y. fault-clash (A.flow x.at x.mark)
        (subst (λ (z : ℕ). Follows A m (A.flow x.at z)) h (F.follows x.at (λ z. real (sym h ∙ z)))) y)
        (λ y. other-clash x h all a y)
        (or-either (is_fault (A.flow x.at x.mark)) (other x all) t))
        (or-either (leb A.size x.at) (or (is_fault (A.flow x.at x.mark)) (other x all)) v)

    any-clash : (all : List Place) → Agrees all → (xs : List Place) → Agrees xs → any_wrong all xs ≡ true → ⊥
    unfolding any_wrong
    any-clash all a [] b e = false≢true e
    any-clash all a (x ∷ xs) b e = go (or-either (wrong all x) (any_wrong all xs) e) (λ t. any-clash all a xs b.1 t)
      where
        go : (wrong all x ≡ true) ⊎ (any_wrong all xs ≡ true) → (any_wrong all xs ≡ true → ⊥) → ⊥
        go (inl t) ih = wrong-clash all a x b.0 t
        go (inr t) ih = ih t

  pub least : (m : List ℕ) → fits A m ≡ true → least_test m ≡ true → Fewest A m
  unfolding least_test
  least m f e =
      let F = fits-says A m f in
      record {
        fits = F;
        least = λ m' F' p k.
            member-agrees m' F' p (mark A m p) forced (agrees-forced m' F')
            (or-second (eqb (mark A m p) A.none) (member p (mark A m p) forced) (λ z. k (eqb-true _ _ z))
            (all-at A.size (λ p. or (eqb (mark A m p) A.none) (member p (mark A m p) forced)) e p (omega (arith, inside A m p k, F.sized))));
      }

  pub clash : clash_test ≡ true → NoneFits A
  unfolding clash_test
  clash e m F = any-clash m F forced (agrees-forced m F) forced (agrees-forced m F) e

-- ---- load's answer, where a map of the image's length is lent

kept-short : (image : List ℕ) (a b : List ℕ) → length a ≡ length image → length b ≡ length image → KeptPast image a b
kept-short image a b p q = record {
  long = q ∙ sym p;
  past = λ i l. get_or-eq_default b 0 (omega arith) ∙ sym (get_or-eq_default a 0 (omega arith));
}

-- the test of an accepted load's map
unfoldable pub accept_test : List ℕ → List ℕ → Bool
accept_test image map =
    and (eqb (length map) (length image))
    (and (map_fits image (parse image).program map)
    (all_below (parse image).program.count (λ k. least_test (depths image (parse image).program (module_of (parse image).program k)) (marks_of map (module_of (parse image).program k)))))

-- the n positions from p on, marked 0 where they are among the places
unfoldable pub set_from : Analysis → List Place → ℕ → ℕ → List ℕ
set_from A all zero p = []
set_from A all (suc n) p = pick (member A p 0 all) 0 A.none ∷ set_from A all n (p + 1)

-- the forced marks of the walk, as a set of positions
unfoldable pub set_of : Analysis → List ℕ
set_of A = set_from A (forced A) A.size 0

-- the set of module k is closed, and its positions below p are not at fault
unfoldable pub whole_test : List ℕ → ℕ → ℕ → Bool
whole_test image k p =
    let P = (parse image).program in
    let A = walk image (module_of P k) in
    let s = set_of A in
    and (fits A s) (all_below p (λ q. or (eqb (mark A s q) unmarked) (whole_at image P (module_of P k) q)))

unfoldable pub unfit_test : List ℕ → Bool
unfit_test image =
    let P = (parse image).program in
    and (all_below P.count (λ k. whole_test image k (module_of P k).length))
    (any_below P.count (λ k. clash_test (depths image P (module_of P k))))

unfoldable pub broken_test : List ℕ → ℕ → ℕ → Bool
broken_test image k p =
    let P = (parse image).program in
    and (ltb k P.count)
    (and (member (walk image (module_of P k)) p 0 (forced (walk image (module_of P k))))
    (and (not (whole_at image P (module_of P k) p))
    (and (all_below k (λ j. whole_test image j (module_of P j).length)) (whole_test image k p))))

long-enough : (image : List ℕ) → ltb (length (replicate {A = ℕ} (length image) 0)) (length image) ≡ false
long-enough image = le-ltb (length (replicate {A = ℕ} (length image) 0)) (length image) (omega (arith, length-replicate {A = ℕ} (length image) 0))

pub accepts : (image map : List ℕ) → (parse image).refusal ≡ 0 → accept_test image map ≡ true → Loads image (replicate (length image) 0) (verdict 0) map
unfolding accept_test map_fits
accepts image map e t =
    let P = (parse image).program in
    let (a, r) = and_both _ _ t in
    let (b, c) = and_both _ _ r in
    let (x, y) = and_both _ _ b in
    rw (e, long-enough image)
    (judges refl
    (record {
      fewest = λ k l.
          let A = depths image P (module_of P k) in
          least A (marks_of map (module_of P k))
          (all-at P.count (λ k. fits (depths image P (module_of P k)) (marks_of map (module_of P k))) x k l)
          (all-at P.count (λ k. least_test (depths image P (module_of P k)) (marks_of map (module_of P k))) c k l);
      outside = λ i l o.
          eqb-true _ _ (or-second (in_code P i) (eqb (entry map i) unmarked) (λ q. false≢true (sym o ∙ q))
          (all-at (length image) (λ i. or (in_code P i) (eqb (entry map i) unmarked)) y i l));
      kept = kept-short image (replicate (length image) 0) map (length-replicate (length image) 0) (eqb-true _ _ a);
    }))

-- a blank map
abbrev blank : List ℕ → List ℕ
blank image = replicate (length image) unmarked

blanked : (image : List ℕ) → Blanked image (replicate (length image) 0) (blank image)
blanked image = record {
  blank = λ i h. get_or-replicate (length image) i unmarked 0 h;
  kept = kept-short image (replicate (length image) 0) (blank image) (length-replicate (length image) 0) (length-replicate (length image) unmarked);
}

whole_below : (image : List ℕ) (k p : ℕ) → whole_test image k p ≡ true → (q : ℕ) → q < p → Reached image (module_of (parse image).program k) q
    → whole_at image (parse image).program (module_of (parse image).program k) q ≡ true
unfolding whole_test
whole_below image k p t q l r =
    let P = (parse image).program in
    let A = walk image (module_of P k) in
    let s = set_of A in
    let (f, e) = and_both (fits A s) (all_below p (λ q. or (eqb (mark A s q) unmarked) (whole_at image P (module_of P k) q))) t in
    or-second (eqb (mark A s q) unmarked) (whole_at image P (module_of P k) q) (λ z. r s (fits-says A s f) (eqb-true _ _ z))
    (all-at p (λ q. or (eqb (mark A s q) unmarked) (whole_at image P (module_of P k) q)) e q l)

-- a reached position lies in the set, and so in the code
whole-module : (image : List ℕ) (k : ℕ) → whole_test image k (module_of (parse image).program k).length ≡ true → Whole image (parse image).program (module_of (parse image).program k)
unfolding whole_test
whole-module image k t q r =
    let P = (parse image).program in
    let A = walk image (module_of P k) in
    let s = set_of A in
    let F = fits-says A s (and_both (fits A s) (all_below A.size (λ q. or (eqb (mark A s q) unmarked) (whole_at image P (module_of P k) q))) t).0 in
    whole_below image k (module_of P k).length t q (omega (arith, inside A s q (r s F), F.sized)) r

pub refuses-8 : (image : List ℕ) → (parse image).refusal ≡ 0 → unfit_test image ≡ true → Loads image (replicate (length image) 0) (verdict 8) (blank image)
unfolding unfit_test
refuses-8 image e t =
    let P = (parse image).program in
    let (a, b) = and_both (all_below P.count (λ k. whole_test image k (module_of P k).length)) _ t in
    let (k, l, c) = any_at P.count (λ k. clash_test (depths image P (module_of P k))) b in
    rw (e, long-enough image)
    (unfit refl (λ j h. whole-module image j (all-at P.count (λ k. whole_test image k (module_of P k).length) a j h))
    (record { unfit = k; loaded = l; none = clash (depths image P (module_of P k)) c }) (blanked image))

pub refuses-13 : (image : List ℕ) (k p : ℕ) → (parse image).refusal ≡ 0 → broken_test image k p ≡ true → Loads image (replicate (length image) 0) (fault_at k p) (blank image)
unfolding broken_test
refuses-13 image k p e t =
    let P = (parse image).program in
    let A = walk image (module_of P k) in
    let (a, r₁) = and_both (ltb k P.count) _ t in
    let (b, r₂) = and_both (member A p 0 (forced A)) _ r₁ in
    let (c, r₃) = and_both (not (whole_at image P (module_of P k) p)) _ r₂ in
    let (d, f) = and_both (all_below k (λ j. whole_test image j (module_of P j).length)) (whole_test image k p) r₃ in
    rw (e, long-enough image)
    (breaks refl
    (record {
      loaded = ltb-true _ _ a;
      reached = λ s F z. let y : ◌≡◌ {A = ℕ} 0 unmarked = sym (member-agrees A s F p 0 (forced A) (agrees-forced A s F) b) ∙ z in omega arith;
      fault = not_is _ c;
      first = λ j h. whole-module image j (all-at k (λ j. whole_test image j (module_of P j).length) d j h);
      lowest = whole_below image k p f;
    }) (blanked image))
