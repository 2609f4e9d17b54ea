-- The fewest assignment is one, the position at fault is one, and so load's answer is determined. Assumes nothing.
use mathlib.Core.Path.{◌≡◌, refl, sym, ap, ap₂, ◌∙◌, subst}
use mathlib.Core.Bool.{Bool, true, false, false≢true}
use mathlib.Core.List.{List}
use Prim.Native.Nat.{ℕ, ◌+◌, ◌-◌, ◌≤◌, ◌<◌}
use native.Mathlib.Decide.{ℕ_discrete, dec_lt}
use native.Mathlib.Omega.{arith}
use lib.ListN.{length, drop}
use lib.Seq.{ext_get_or, get_or-take, get_or-drop}
use lib.Dec.{ltb, leb}
use borrow.Author.Tests.{ltb-true, leb-true, leb-false}
use Rattle.mcode.specs.declared.Module.{Module}
use Rattle.mcode.specs.declared.Program.{Program}
use Rattle.mcode.specs.Word.{pick, and}
use Rattle.mcode.specs.Image.{parse, module_of, in_code}
use Rattle.mcode.specs.Depths.{Analysis, entry, mark, Fewest, Answer, depths, marks_of, KeptPast, Accepted, Blanked}
use Rattle.mcode.specs.Run.{Verdict}
use Rattle.mcode.specs.Walk.{Whole, AllWhole, Broken}
use Rattle.mcode.specs.Run.{verdict, Judged, accepts, breaks, unfit}
use Rattle.mcode.specs.Demands.{FewestUnique, MarksReached, LoadDetermined}
use Rattle.mcode.proofs.Tests.{and_both, any_at}
use Rattle.mcode.proofs.Reached.{marks-reached}

module _ (A : Analysis) where
  pub fewest-unique : (a b : List ℕ) → Fewest A a → Fewest A b → a ≡ b
  fewest-unique a b S R = ext_get_or A.none a b (S.fits.sized ∙ sym R.fits.sized) (λ i l. go i (ℕ_discrete (mark A a i) A.none))
    where
      go : (i : ℕ) → Dec (mark A a i ≡ A.none) → mark A a i ≡ mark A b i
      go i (no k) = sym (S.least b R.fits i k)
      go i (yes e) = other (ℕ_discrete (mark A b i) A.none)
        where
          other : Dec (mark A b i ≡ A.none) → mark A a i ≡ mark A b i
          other (yes e') = e ∙ sym e'
          other (no k) = R.least a S.fits i k

  pub answer-unique : (r s : Bool) (a b : List ℕ) → Answer A r a → Answer A s b → (r ≡ s) × (a ≡ b)
  answer-unique true true a b S R = (refl, fewest-unique a b S R)
  answer-unique true false a b S R = absurd (R.0 a S.fits)
  answer-unique false true a b S R = absurd (S.0 b R.fits)
  answer-unique false false a b S R = (refl, S.1 ∙ sym R.1)

pub fewest-is-unique : FewestUnique
unfolding FewestUnique
fewest-is-unique A a b S R = fewest-unique A a b S R

-- an entry of a module's part
part-entry : (m : Module) (a : List ℕ) (i : ℕ) → m.code ≤ i → i < m.code + m.length → entry (marks_of a m) (i - m.code) ≡ entry a i
part-entry m a i h l =
    let q : m.code + (i - m.code) ≡ i = omega arith in
    get_or-take m.length (drop m.code a) (i - m.code) 0 (omega arith)
    ∙ get_or-drop m.code a (i - m.code) 0
    ∙ ap (entry a) q

module _ (image : List ℕ) (program : Program) (before a b : List ℕ) where
  -- two maps that kept the entries past the image are equal where those of the image are
  kept_same : KeptPast image before a → KeptPast image before b → ((i : ℕ) → i < length image → entry a i ≡ entry b i) → a ≡ b
  kept_same S R h = ext_get_or 0 a b (S.long ∙ sym R.long) (λ i l. go i (dec_lt i (length image)))
    where
      go : (i : ℕ) → Dec (i < length image) → entry a i ≡ entry b i
      go i (yes l) = h i l
      go i (no n) = let g : length image ≤ i = omega arith in S.past i g ∙ sym (R.past i g)

  accepted-unique : Accepted image program before a → Accepted image program before b → a ≡ b
  unfolding in_code
  accepted-unique S R = kept_same S.kept R.kept (λ i l. go i l (in_code program i) refl)
    where
      go : (i : ℕ) → i < length image → (t : Bool) → in_code program i ≡ t → entry a i ≡ entry b i
      go i l false e = S.outside i l e ∙ sym (R.outside i l e)
      go i l true e =
          let (k, lt, t) = any_at program.count (λ k. and (leb (module_of program k).code i) (ltb i ((module_of program k).code + (module_of program k).length))) e in
          let (x, y) = and_both (leb (module_of program k).code i) (ltb i ((module_of program k).code + (module_of program k).length)) t in
          let m = module_of program k in
          let u : marks_of a m ≡ marks_of b m = fewest-unique (depths image program m) (marks_of a m) (marks_of b m) (S.fewest k lt) (R.fewest k lt) in
          sym (part-entry m a i (leb-true _ _ x) (ltb-true _ _ y))
          ∙ ap (λ (xs : List ℕ). entry xs (i - m.code)) u
          ∙ part-entry m b i (leb-true _ _ x) (ltb-true _ _ y)

  blanked-unique : Blanked image before a → Blanked image before b → a ≡ b
  blanked-unique S R = kept_same S.kept R.kept (λ i l. S.blank i l ∙ sym (R.blank i l))

-- the position at fault is one
module _ (image : List ℕ) (program : Program) where
  pub broken-not : (k p : ℕ) → Broken image program k p → Whole image program (module_of program k) → ⊥
  broken-not k p B h = false≢true (sym B.fault ∙ h p B.reached)

  first-module : (k p j q : ℕ) → Broken image program k p → Broken image program j q → k < j → ⊥
  first-module k p j q B C l = broken-not k p B (C.first k l)

  lowest-place : (k p q : ℕ) → Broken image program k p → Broken image program k q → p < q → ⊥
  lowest-place k p q B C l = false≢true (sym B.fault ∙ C.lowest p l B.reached)

  broken-unique : (k p j q : ℕ) → Broken image program k p → Broken image program j q → (k ≡ j) × (p ≡ q)
  broken-unique k p j q B C = same-unit (equal k j (first-module k p j q B C) (first-module j q k p C B))
    where
      equal : (x y : ℕ) → (x < y → ⊥) → (y < x → ⊥) → x ≡ y
      equal x y f g = go (dec_lt x y) (dec_lt y x)
        where
          go : Dec (x < y) → Dec (y < x) → x ≡ y
          go (yes l) h = absurd (f l)
          go (no n) (yes l) = absurd (g l)
          go (no n) (no h) = omega arith

      same-unit : k ≡ j → (k ≡ j) × (p ≡ q)
      same-unit e =
          let D : Broken image program k q = subst (λ (i : ℕ). Broken image program i q) (sym e) C in
          (e, equal p q (lowest-place k p q B D) (lowest-place k q p D B))

-- of a program that was read
module _ (image : List ℕ) (read : (parse image).refusal ≡ 0) (before : List ℕ) where
  abbrev P : Program
  P = (parse image).program

  accepted-whole : {a : List ℕ} → Accepted image P before a → AllWhole image P
  unfolding MarksReached
  accepted-whole A k l = (marks-reached image read k l _ (A.fewest k l)).whole

  judged-unique : (v w : Verdict) (a b : List ℕ) → Judged image P before v a → Judged image P before w b → (v ≡ w) × (a ≡ b)
  judged-unique v w a b (accepts e A) (accepts f B) = (e ∙ sym f, accepted-unique image P before a b A B)
  judged-unique v w a b (accepts e A) (breaks f B y) = absurd (broken-not image P _ _ B (accepted-whole A _ B.loaded))
  judged-unique v w a b (accepts e A) (unfit f h N y) = absurd (N.none _ (A.fewest N.unfit N.loaded).fits)
  judged-unique v w a b (breaks e B x) (accepts f A) = absurd (broken-not image P _ _ B (accepted-whole A _ B.loaded))
  judged-unique v w a b (breaks e B x) (breaks f C y) =
      let (s, t) = broken-unique image P _ _ _ _ B C in
      (ap₂ (λ (n u : ℕ). record { number = n; unit = u; pc = v.pc }) (e ∙ sym f) s ∙ ap (λ (p : ℕ). record { number = w.number; unit = w.unit; pc = record { 0 = p } }) t, blanked-unique image P before a b x y)
  judged-unique v w a b (breaks e B x) (unfit f h N y) = absurd (broken-not image P _ _ B (h _ B.loaded))
  judged-unique v w a b (unfit e h N x) (accepts f A) = absurd (N.none _ (A.fewest N.unfit N.loaded).fits)
  judged-unique v w a b (unfit e h N x) (breaks f B y) = absurd (broken-not image P _ _ B (h _ B.loaded))
  judged-unique v w a b (unfit e h N x) (unfit f g M y) = (e ∙ sym f, blanked-unique image P before a b x y)

pub load-determined : LoadDetermined
unfolding LoadDetermined
load-determined image before v w a b = by_tests (leb 1 (parse image).refusal) refl (ltb (length before) (length image))
  where
    by_tests : (r : Bool) → leb 1 (parse image).refusal ≡ r → (t : Bool)
        → pick r ((v ≡ verdict (parse image).refusal) × (a ≡ before)) (pick t ((v ≡ verdict 7) × (a ≡ before)) (Judged image (parse image).program before v a))
        → pick r ((w ≡ verdict (parse image).refusal) × (b ≡ before)) (pick t ((w ≡ verdict 7) × (b ≡ before)) (Judged image (parse image).program before w b))
        → (v ≡ w) × (a ≡ b)
    by_tests true h t S R = (S.0 ∙ sym R.0, S.1 ∙ sym R.1)
    by_tests false h true S R = (S.0 ∙ sym R.0, S.1 ∙ sym R.1)
    by_tests false h false S R = judged-unique image (omega (arith, leb-false 1 (parse image).refusal h)) before v w a b S R
