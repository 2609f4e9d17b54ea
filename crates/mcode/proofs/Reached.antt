-- The code without regard to depth, beside its depths: what an assignment of depths marks has no fault, and the fewest one marks what is
-- reached and no more. Assumes nothing.
use mathlib.Core.Path.{◌≡◌, refl, sym, ap, ◌∙◌, subst}
use mathlib.Core.Logic.{◌⊎◌, inl, inr, ⊎_elim}
use mathlib.Core.Bool.{Bool, true, false}
use mathlib.Core.List.{List, [], ◌∷◌}
use Prim.Native.Nat.{ℕ, zero, suc, ◌+◌, ◌-◌, ◌≤◌, ◌<◌}
use native.Mathlib.Nat.{le_of_suc-le-suc, not-suc-le-zero}
use native.Mathlib.Decide.{dec_lt}
use native.Mathlib.Omega.{arith}
use lib.ListN.{length, get_or, replicate, length-replicate, get_or-replicate, get_or-eq_default}
use lib.Dec.{ltb, leb, eqb}
use borrow.Author.Tests.{ltb-true, ltb-false, leb-true, eqb-true, eqb-false, lt-ltb, le-leb, le-ltb, eq-eqb, ne_eqb}
use Rattle.mcode.specs.declared.Module.{Module}
use Rattle.mcode.specs.declared.Program.{Program}
use Rattle.mcode.specs.declared.Flow.{Flow}
use Rattle.mcode.specs.declared.Flow.TheVariants.{Fault, Ends, To, Fork}
use Rattle.mcode.specs.Word.{pick, and, or}
use Rattle.mcode.specs.Opcode.{lengths, takens, lefts}
use Rattle.mcode.specs.Image.{parse, module_of, code_byte, proc_count, entry_of, params_of, results_of}
use Rattle.mcode.specs.Layout.{Sound, Told}
use Rattle.mcode.specs.Depths.{Analysis, mark, Marked, Follows, Fits, Fewest, unmarked, depth_of, is_mark, leaves, permits, target, jumps, calls, calls_in, names_module, onward, depth_flow, carry, flow_at, depths}
use Rattle.mcode.specs.Walk.{seen, ways, ways_at, legible, named, stays_in, cause_at, whole_at, within, walk, Reached, Whole}
use Rattle.mcode.specs.Demands.{MarksReached}
use Rattle.mcode.proofs.Tests.{and_both, both-and, or-either, inside}
use Rattle.mcode.proofs.Marks.{entry-mark, mark-real, leaves-mark}
use Rattle.mcode.proofs.Reader.{told}

-- ---- a list of n numbers, each by its place

table : ℕ → (ℕ → ℕ) → List ℕ
table zero f = []
table (suc n) f = f 0 ∷ table n (λ i. f (suc i))

length-table : (n : ℕ) (f : ℕ → ℕ) → length (table n f) ≡ n
unfolding table
length-table zero f = refl
length-table (suc n) f = ap suc (length-table n (λ i. f (suc i)))

get_or-table : (n : ℕ) (f : ℕ → ℕ) (i d : ℕ) → i < n → get_or (table n f) i d ≡ f i
unfolding table
get_or-table zero f i d l = absurd (not-suc-le-zero l)
get_or-table (suc n) f zero d l = refl
get_or-table (suc n) f (suc i) d l = get_or-table n (λ i. f (suc i)) i d (le_of_suc-le-suc l)

-- ---- successors

-- each successor with its mark
abbrev Into : (ℕ → ℕ → Type 0) → Flow → Type 0
Into P Fault = ⊥
Into P Ends = Unit {0}
Into P (To q d) = P q d
Into P (Fork q d r e) = P q d × P r e

into : (P Q : ℕ → ℕ → Type 0) → ((q d : ℕ) → P q d → Q q d) → (g : Flow) → Into P g → Into Q g
into P Q h Fault x = x
into P Q h Ends x = tt
into P Q h (To q d) x = h q d x
into P Q h (Fork q d r e) x = (h q d x.0, h r e x.1)

-- the rules ask depths of at most 16, just of the successors in g, and only if t
data Alike (t : Bool) : Flow → Flow → Type 0 where
  faulty : {g : Flow} → Alike t Fault g
  ends : t ≡ true → Alike t Ends Ends
  one : {q d : ℕ} → t ≡ true → d ≤ 16 → Alike t (To q d) (To q 0)
  two : {q d r e : ℕ} → t ≡ true → d ≤ 16 → e ≤ 16 → Alike t (Fork q d r e) (Fork q 0 r 0)

alike : {t u : Bool} {f g : Flow} → (t ≡ true → u ≡ true) → Alike t f g → Alike u f g
alike h faulty = faulty
alike h (ends t) = ends (h t)
alike h (one t l) = one (h t) l
alike h (two t l k) = two (h t) l k

module _ {t : Bool} where
  by-test : (u : Bool) {f f' g : Flow} → (u ≡ true → Alike t f g) → (u ≡ false → Alike t f' g) → Alike t (pick u f f') g
  by-test true x y = x refl
  by-test false x y = y refl

  by_both : (u : Bool) {f f' g g' : Flow} → (u ≡ true → Alike t f g) → (u ≡ false → Alike t f' g') → Alike t (pick u f f') (pick u g g')
  by_both true x y = x refl
  by_both false x y = y refl

jumps-alike : {t : Bool} (op x n e : ℕ) → t ≡ true → e ≤ 16 → Alike t (jumps op x n e) (carry seen (jumps op x n 0))
unfolding jumps
jumps-alike {t} op x n e h l = go (leb 0o36 op) (or (eqb op 0o31) (or (eqb op 0o33) (eqb op 0o35)))
  where
    go : (u v : Bool) → Alike t (pick u (Fork x e n (e - 1)) (pick v (To x e) (Fork x e n e))) (carry seen (pick u (Fork x 0 n (0 - 1)) (pick v (To x 0) (Fork x 0 n 0))))
    go true v = let k : e - 1 ≤ 16 = omega arith in two h l k
    go false true = one h l
    go false false = two h l l

module _ (image : List ℕ) (program : Program) (T : Told image program) (k : ℕ) (loaded : k < program.count) where
  abbrev m : Module
  m = module_of program k

  abbrev D : Analysis
  D = depths image program m

  abbrev W : Analysis
  W = walk image m

  calls-alike : {t : Bool} (j : ℕ) → j < program.count → (i n e : ℕ) → (ltb i (proc_count (module_of program j)) ≡ true → t ≡ true) → Alike t (calls image (module_of program j) i n e) (To n 0)
  unfolding calls
  calls-alike j l i n e h =
      let u = module_of program j in
      by-test (ltb i (proc_count u)) (λ x. by-test (eqb e (params_of image u i)) (λ y. one (h x) (omega (arith, (T.laid.sound j l).results i (ltb-true _ _ x)))) (λ y. faulty)) (λ x. faulty)

  module _ (op b c : ℕ) where
    named-ends : (op ≡ 0o304) ⊎ (op ≡ 0o354) → named program m op b c ≡ true
    unfolding named
    named-ends (inl e) = subst (λ (o : ℕ). named program m o b c ≡ true) (sym e) refl
    named-ends (inr e) = subst (λ (o : ℕ). named program m o b c ≡ true) (sym e) refl

    named-jump : 0o30 ≤ op → op < 0o40 → named program m op b c ≡ true
    unfolding named
    named-jump h l = rw (ne_eqb op 0o27 (λ z. omega arith), ne_eqb op 0o42 (λ z. omega arith), ne_eqb op 0o62 (λ z. omega arith), ne_eqb op 0o43 (λ z. omega arith), ne_eqb op 0o63 (λ z. omega arith), lt-ltb op 0o355 (omega arith)) refl

    onward-alike : (p n e : ℕ) → e ≤ 16 → Alike (named program m op b c) (onward image program m p op b c n e) (ways op (target op (p + 1) b c) n)
    unfolding onward ways calls_in named
    onward-alike p n e l =
        by_both (or (eqb op 0o304) (eqb op 0o354)) (λ h. ends (named-ends (⊎_elim (λ z. inl (eqb-true _ _ z)) (λ z. inr (eqb-true _ _ z)) (or-either (eqb op 0o304) (eqb op 0o354) h)))) (λ h.
        by_both (and (leb 0o30 op) (ltb op 0o40)) (λ x. let (y, z) = and_both (leb 0o30 op) (ltb op 0o40) x in jumps-alike op (target op (p + 1) b c) n e (named-jump (leb-true 0o30 op y) (ltb-true op 0o40 z)) l) (λ x.
        by-test (names_module op) (λ y. by-test (ltb b program.count) (λ z. one (rw (y, z) refl) l) (λ z. faulty)) (λ y.
        by-test (ltb op 0o355) (λ z. one (rw (y, z) refl) l) (λ z.
        by-test (eqb op 0o355) (λ v. by-test (ltb b program.count) (λ a. calls-alike b (ltb-true _ _ a) c n e (λ i. rw (y, z, v, a, i) refl)) (λ a. faulty)) (λ v.
        by-test (leb op 0o360) (λ a. calls-alike k loaded b n e (λ i. rw (y, z, v, a, i) refl)) (λ a. calls-alike k loaded (op - 0o360) n e (λ i. rw (y, z, v, a, i) refl)))))))

  module _ (p : ℕ) where
    abbrev Legal : Bool
    Legal = and (legible image m p) (named program m (code_byte image m p) (code_byte image m (p + 1)) (code_byte image m (p + 2)))

    depth-alike : (d : ℕ) → Alike Legal (depth_flow image program m p d) (ways_at image m p)
    unfolding depth_flow ways_at legible
    depth-alike d =
        let op = code_byte image m p in
        let size = get_or lengths op 0 in
        let e = d - get_or takens op 0 + get_or lefts op 0 in
        by-test (eqb size 0) (λ x. faulty) (λ x.
        by-test (ltb m.length (p + size)) (λ y. faulty) (λ y.
        by-test (ltb d (get_or takens op 0)) (λ z. faulty) (λ z.
        by-test (ltb 16 e) (λ v. faulty) (λ v.
        let nonzero : size ≡ 0 → ⊥ = eqb-false _ _ x in
        let some : leb 1 size ≡ true = le-leb 1 size (omega arith) in
        let whole : leb (p + size) m.length ≡ true = le-leb (p + size) m.length (ltb-false m.length (p + size) y) in
        alike (λ n. rw (some, whole) n) (onward-alike op (code_byte image m (p + 1)) (code_byte image m (p + 2)) p (p + size) e (ltb-false 16 e v))))))

  -- the marks that the rules ask are marks: of the successors in g, if t
  data Leads (t : Bool) : Flow → Flow → Type 0 where
    nowhere : {g : Flow} → Leads t Fault g
    stays : t ≡ true → Leads t Ends Ends
    onto : {q d : ℕ} → t ≡ true → (d ≡ unmarked → ⊥) → Leads t (To q d) (To q 0)
    forks : {q d r e : ℕ} → t ≡ true → (d ≡ unmarked → ⊥) → (e ≡ unmarked → ⊥) → Leads t (Fork q d r e) (Fork q 0 r 0)

  carried : {t : Bool} {f g : Flow} (k op : ℕ) → is_mark k ≡ true → permits k op ≡ true → Alike t f g → Leads t (carry (leaves k op) f) g
  carried k op m h faulty = nowhere
  carried k op m h (ends t) = stays t
  carried k op m h (one t l) = onto t (mark-real _ (leaves-mark k op _ m h l))
  carried k op m h (two t l r) = forks t (mark-real _ (leaves-mark k op _ m h l)) (mark-real _ (leaves-mark k op _ m h r))

  leads : (p k : ℕ) → Leads (Legal p) (flow_at image program m p k) (ways_at image m p)
  unfolding flow_at
  leads p k = go (is_mark k) refl (permits k (code_byte image m p)) refl
    where
      go : (u : Bool) → is_mark k ≡ u → (v : Bool) → permits k (code_byte image m p) ≡ v → Leads (Legal p) (pick u (pick v (carry (leaves k (code_byte image m p)) (depth_flow image program m p (depth_of k))) Fault) Fault) (ways_at image m p)
      go true r true h = carried k (code_byte image m p) r h (depth-alike p (depth_of k))
      go true r false h = nowhere
      go false r v h = nowhere

  follows-into : (w : List ℕ) {t : Bool} {f g : Flow} → Leads t f g → Follows D w f → (t ≡ true) × Into (λ q d. (d ≡ 0) × Marked D w q) g
  follows-into w nowhere x = absurd x
  follows-into w (stays t) x = (t, tt)
  follows-into w (onto t r) x = (t, (refl, λ z. r (sym x ∙ z)))
  follows-into w (forks t r s) x = (t, ((refl, λ z. r (sym x.0 ∙ z)), (refl, λ z. s (sym x.1 ∙ z))))

  follows-kept : (w c : List ℕ) {t : Bool} {f g : Flow} → Leads t f g → Into (λ q d. mark D c q ≡ mark D w q) g → Follows D w f → Follows D c f
  follows-kept w c nowhere i x = x
  follows-kept w c (stays t) i x = tt
  follows-kept w c (onto t r) i x = i ∙ x
  follows-kept w c (forks t r s) i x = (i.0 ∙ x.0, i.1 ∙ x.1)

  -- what a set follows inside the code
  within-follows : (s : List ℕ) (g : Flow) → Into (λ q d. mark W s q ≡ d) g → Follows W s (within m.length g)
  within-follows s Fault x = absurd x
  within-follows s Ends x = tt
  within-follows s (To q d) x = go (ltb q m.length)
    where
      go : (u : Bool) → Follows W s (pick u (To q d) Ends)
      go true = x
      go false = tt
  within-follows s (Fork q d r e) x = go (ltb q m.length) (ltb r m.length)
    where
      go : (u v : Bool) → Follows W s (pick u (pick v (Fork q d r e) (To q d)) (pick v (To r e) Ends))
      go true true = x
      go true false = x.0
      go false true = x.1
      go false false = tt

  follows-within : (s : List ℕ) (g : Flow) → Into (λ q d. q < m.length) g → Follows W s (within m.length g) → Into (λ q d. mark W s q ≡ d) g
  follows-within s Fault l x = l
  follows-within s Ends l x = tt
  follows-within s (To q d) l x = rw (lt-ltb q m.length l) at x
  follows-within s (Fork q d r e) l x = rw (lt-ltb q m.length l.0, lt-ltb r m.length l.1) at x

  into-leads : (g : Flow) → Into (λ q d. q < m.length) g → stays_in m.length g ≡ true
  into-leads Fault l = absurd l
  into-leads Ends l = refl
  into-leads (To q d) l = lt-ltb _ _ l
  into-leads (Fork q d r e) l = both-and _ _ (lt-ltb _ _ l.0) (lt-ltb _ _ l.1)

  -- ---- an assignment of depths

  module _ (w : List ℕ) (F : Fits D w) where
    in-code : (q : ℕ) → Marked D w q → q < m.length
    in-code q x = omega (arith, inside D w q x, F.sized)

    next-to : (p : ℕ) → Marked D w p → (Legal p ≡ true) × Into (λ q d. (d ≡ 0) × Marked D w q) (ways_at image m p)
    next-to p x = follows-into w (leads p (mark D w p)) (F.follows p x)

    within-code : (p : ℕ) → Marked D w p → Into (λ q d. q < m.length) (ways_at image m p)
    within-code p x = into (λ q d. (d ≡ 0) × Marked D w q) (λ q d. q < m.length) (λ q d y. in-code q y.1) (ways_at image m p) (next-to p x).1

    legible-at : (p : ℕ) → Marked D w p → legible image m p ≡ true
    legible-at p x = (and_both (legible image m p) (named program m (code_byte image m p) (code_byte image m (p + 1)) (code_byte image m (p + 2))) (next-to p x).0).0

    whole-at : (p : ℕ) → Marked D w p → whole_at image program m p ≡ true
    unfolding whole_at cause_at legible
    whole-at p x =
        let (a, b) = and_both (legible image m p) (named program m (code_byte image m p) (code_byte image m (p + 1)) (code_byte image m (p + 2))) (next-to p x).0 in
        let size = get_or lengths (code_byte image m p) 0 in
        let (s, t) = and_both (leb 1 size) (leb (p + size) m.length) a in
        let some : size ≡ 0 → ⊥ = λ z. omega (arith, leb-true 1 size s) in
        rw (ne_eqb size 0 some, le-ltb m.length (p + size) (leb-true (p + size) m.length t), b, into-leads (ways_at image m p) (within-code p x)) refl

    entry-marked : (i : ℕ) → i < proc_count m → Marked D w (entry_of image m i)
    entry-marked i l z =
        let S = T.laid.sound k loaded in
        mark-real _ (entry-mark (params_of image m i) (results_of image m i) (S.params i l) (S.results i l)) (sym (F.enters i l) ∙ z)

    -- the positions that it marks, as a set
    abbrev s : List ℕ
    s = table m.length (λ p. pick (eqb (mark D w p) unmarked) unmarked 0)

    to-seen : (p : ℕ) → Marked D w p → mark W s p ≡ 0
    to-seen p x = get_or-table m.length (λ p. pick (eqb (mark D w p) unmarked) unmarked 0) p unmarked (in-code p x) ∙ rw (ne_eqb (mark D w p) unmarked x) refl

    from-seen : (p : ℕ) → Marked W s p → Marked D w p
    from-seen p x z = x (go (dec_lt p m.length))
      where
        go : Dec (p < m.length) → mark W s p ≡ unmarked
        go (yes l) = get_or-table m.length (λ p. pick (eqb (mark D w p) unmarked) unmarked 0) p unmarked l ∙ rw (eq-eqb (mark D w p) unmarked z) refl
        go (no n) = get_or-eq_default s unmarked (omega (arith, length-table m.length (λ p. pick (eqb (mark D w p) unmarked) unmarked 0)))

    set-fits : Fits W s
    set-fits = record {
      sized = length-table m.length (λ p. pick (eqb (mark D w p) unmarked) unmarked 0);
      enters = λ i l. to-seen (entry_of image m i) (entry-marked i l);
      follows = λ p x.
          let y = from-seen p x in
          rw (legible-at p y)
          (within-follows s (ways_at image m p) (into (λ q d. (d ≡ 0) × Marked D w q) (λ q d. mark W s q ≡ d) (λ q d z. to-seen q z.1 ∙ sym z.0) (ways_at image m p) (next-to p y).1));
    }

    pub reached-marked : (p : ℕ) → Reached image m p → Marked D w p
    reached-marked p r = from-seen p (r s set-fits)

    pub fits_whole : Whole image program m
    fits_whole p r = whole-at p (reached-marked p r)

  -- ---- the fewest: cut to a set that is closed, it fits, and so it is no larger
  module _ (w : List ℕ) (L : Fewest D w) (s : List ℕ) (F : Fits W s) where
    abbrev cut : ℕ → ℕ
    cut p = pick (eqb (mark W s p) unmarked) unmarked (mark D w p)

    abbrev c : List ℕ
    c = table m.length cut

    kept : (p : ℕ) → Marked W s p → mark D c p ≡ mark D w p
    kept p x = get_or-table m.length cut p unmarked (omega (arith, inside W s p x, F.sized)) ∙ rw (ne_eqb (mark W s p) unmarked x) refl

    gone : (p : ℕ) → Marked D c p → Marked W s p
    gone p x z = x (go (dec_lt p m.length))
      where
        go : Dec (p < m.length) → mark D c p ≡ unmarked
        go (yes l) = get_or-table m.length cut p unmarked l ∙ rw (eq-eqb (mark W s p) unmarked z) refl
        go (no n) = get_or-eq_default c unmarked (omega (arith, length-table m.length cut))

    still : (p : ℕ) → Marked D c p → Marked D w p
    still p x z = x (kept p (gone p x) ∙ z)

    real-seen : (p : ℕ) → mark W s p ≡ 0 → Marked W s p
    real-seen p e z = let y : ◌≡◌ {A = ℕ} 0 unmarked = sym e ∙ z in omega arith

    cut-follows : (p : ℕ) → Marked D c p → Follows D c (flow_at image program m p (mark D w p))
    cut-follows p x =
        let y = still p x in
        let N = L.fits in
        let g = ways_at image m p in
        let step : Follows W s (within m.length g) = rw (legible-at w N p y) at (F.follows p (gone p x)) in
        let set : Into (λ q d. mark W s q ≡ d) g = follows-within s g (within-code w N p y) step in
        follows-kept w c (leads p (mark D w p)) (both g (next-to w N p y).1 set) (N.follows p y)
      where
        both : (g : Flow) → Into (λ q d. (d ≡ 0) × Marked D w q) g → Into (λ q d. mark W s q ≡ d) g → Into (λ q d. mark D c q ≡ mark D w q) g
        both Fault a b = a
        both Ends a b = tt
        both (To q d) a b = kept q (real-seen q (b ∙ a.0))
        both (Fork q d r e) a b = (kept q (real-seen q (b.0 ∙ a.0.0)), kept r (real-seen r (b.1 ∙ a.1.0)))

    cut_fits : Fits D c
    cut_fits = record {
      sized = length-table m.length cut;
      enters = λ i l. kept (entry_of image m i) (real-seen (entry_of image m i) (F.enters i l)) ∙ L.fits.enters i l;
      follows = λ p x. subst (λ (j : ℕ). Follows D c (flow_at image program m p j)) (sym (kept p (gone p x))) (cut-follows p x);
    }

    pub fewest-reached : (p : ℕ) → Marked D w p → Marked W s p
    fewest-reached p x = gone p (λ z. x (sym (L.least c cut_fits p x) ∙ z))

pub marks-reached : MarksReached
unfolding MarksReached
marks-reached image e k l marks L =
    let P = (parse image).program in
    let T = told image e in
    record {
      whole = fits_whole image P T k l marks L.fits;
      marked = reached-marked image P T k l marks L.fits;
      reached = λ p x s F. fewest-reached image P T k l marks L s F p x;
    }

-- ---- the walk itself: a set exists, and the fewest has exactly what is reached

-- its marks are 0
abbrev pub Seen : Flow → Type 0
Seen Fault = Unit {0}
Seen Ends = Unit {0}
Seen (To q d) = d ≡ 0
Seen (Fork q d r e) = (d ≡ 0) × (e ≡ 0)

seen-carry : (f : Flow) → Seen (carry seen f)
seen-carry Fault = tt
seen-carry Ends = tt
seen-carry (To q d) = refl
seen-carry (Fork q d r e) = (refl, refl)

pub seen-ways : (op t n : ℕ) → Seen (ways op t n)
unfolding ways
seen-ways op t n = go (or (eqb op 0o304) (eqb op 0o354)) (and (leb 0o30 op) (ltb op 0o40))
  where
    go : (u v : Bool) → Seen (pick u Ends (pick v (carry seen (jumps op t n 0)) (To n 0)))
    go true v = tt
    go false true = seen-carry (jumps op t n 0)
    go false false = refl

module _ (image : List ℕ) (m : Module) where
  abbrev all : List ℕ
  all = replicate m.length 0

  all-follow : (g : Flow) → Seen g → Follows (walk image m) all (within m.length g)
  all-follow Fault x = tt
  all-follow Ends x = tt
  all-follow (To q d) x = go (ltb q m.length) refl
    where
      go : (u : Bool) → ltb q m.length ≡ u → Follows (walk image m) all (pick u (To q d) Ends)
      go true h = get_or-replicate m.length q 0 unmarked (ltb-true _ _ h) ∙ sym x
      go false h = tt
  all-follow (Fork q d r e) x = go (ltb q m.length) refl (ltb r m.length) refl
    where
      has : (q d : ℕ) → d ≡ 0 → ltb q m.length ≡ true → mark (walk image m) all q ≡ d
      has q d z h = get_or-replicate m.length q 0 unmarked (ltb-true _ _ h) ∙ sym z

      go : (u : Bool) → ltb q m.length ≡ u → (v : Bool) → ltb r m.length ≡ v → Follows (walk image m) all (pick u (pick v (Fork q d r e) (To q d)) (pick v (To r e) Ends))
      go true h true i = (has q d x.0 h, has r e x.1 i)
      go true h false i = has q d x.0 h
      go false h true i = has r e x.1 i
      go false h false i = tt

  pub walk-fits : Sound image m → Fits (walk image m) all
  unfolding ways_at
  walk-fits S = record {
    sized = length-replicate m.length 0;
    enters = λ i l. get_or-replicate m.length (entry_of image m i) 0 unmarked (S.entries i l);
    follows = λ p x. by p (legible image m p);
  }
    where
      by : (p : ℕ) (u : Bool) → Follows (walk image m) all (pick u (within m.length (ways_at image m p)) Ends)
      by p true = all-follow (ways_at image m p) (seen-ways _ _ _)
      by p false = tt

  pub walk-reached : (s : List ℕ) → Fewest (walk image m) s → (p : ℕ) → (Marked (walk image m) s p → Reached image m p) × (Reached image m p → Marked (walk image m) s p)
  walk-reached s L p = (λ x t F z. x (sym (L.least t F p x) ∙ z), λ r. r s L.fits)
