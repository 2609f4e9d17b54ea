-- Modules that can be written are read from any spelling of them, and so from the archive form. Assumes nothing.
use mathlib.Core.Path.{◌≡◌, refl, ap, ◌∙◌, subst}
use mathlib.Core.Bool.{true, false≢true}
use mathlib.Core.List.{List, [], ◌∷◌, ◌++◌}
use Prim.Native.Nat.{ℕ, zero, suc, ◌+◌, ◌≤◌, ◌<◌}
use native.Mathlib.Nat.{zero-add, add-zero}
use native.Mathlib.Numerals.{add-one}
use native.Mathlib.Omega.{arith}
use lib.ListN.{length, get_or, drop, set, replicate, get_or-append}
use lib.Seq.{sets, sets-eq}
use lib.Dec.{eqb}
use borrow.Author.Tests.{eqb-true, eq-eqb, ne_eqb, le-ltb, not-false}
use Rattle.mcode.specs.declared.Module.{Module}
use Rattle.mcode.specs.declared.Program.{Program}
use Rattle.mcode.specs.Image.{Parsed}
use Rattle.mcode.specs.Word.{and, tabulate}
use Rattle.mcode.specs.Image.{most_modules, no_module, modules_from, parse, module_of, begin_of}
use Rattle.mcode.specs.Archive.{Procedure, Content, Bits, content_at, contents, spelled_all, default, zeros, needed, module_form, modules_form, form}
use Rattle.mcode.specs.ArchiveDemands.{Enough, AllEnough, spelling}
use Rattle.mcode.proofs.Tabulate.{tabulate-same}
use Rattle.mcode.proofs.Tests.{and_both}
use Rattle.mcode.proofs.Written.{Rest, Sound, single, a₇, placed, module-behind, module-law, content-law}

-- ---- the bits that stand are enough

abbrev procedure : ℕ → ℕ → ℕ → Procedure
procedure e p r = record { entry = e; params = p; results = r }

default-is : (ps : List Procedure) → default ps ≡ true → ps ≡ single
default-is [] e = absurd (false≢true e)
default-is (p ∷ []) e =
    let (a, r) = and_both (eqb p.entry 0) (and (eqb p.params 0) (eqb p.results 0)) e in
    let (b, c) = and_both (eqb p.params 0) (eqb p.results 0) r in
    let q : procedure p.entry p.params p.results ≡ procedure 0 0 0 = rw (eqb-true p.entry 0 a, eqb-true p.params 0 b, eqb-true p.results 0 c) refl in
    ap (λ (x : Procedure). x ∷ []) q
default-is (p ∷ q ∷ ps) e = absurd (false≢true e)

zeros-are : (xs : List ℕ) → zeros xs ≡ true → xs ≡ replicate (length xs) 0
zeros-are [] e = refl
zeros-are (x ∷ xs) e = let (a, b) = and_both (eqb x 0) (zeros xs) e in rw (eqb-true x 0 a) (ap (λ (l : List ℕ). 0 ∷ l) (zeros-are xs b))

enough : (c : Content) → length c.name ≡ 8 → Enough (needed c) c
enough c e = record {
  size = λ h. eqb-true c.size 0 (not-false (eqb c.size 0) h);
  procs = λ h. default-is c.procs (not-false (default c.procs) h);
  name = λ h. zeros-are c.name (not-false (zeros c.name) h) ∙ ap (λ (n : ℕ). replicate n 0) e;
}

-- ---- one module after another

abbrev pub AllSound : ℕ → List Content → Type 0
AllSound number [] = Unit {0}
AllSound number (c ∷ cs) = Sound number c × AllSound (suc number) cs

-- the other bits
abbrev rest : (ℕ → Bits) → ℕ → Bits
rest bits k = bits (suc k)

-- where modules spelled from `at` on are read to, with data from `base` on
abbrev places : (ℕ → Bits) → ℕ → ℕ → List Content → List Module
places bits base at [] = []
places bits base at (c ∷ cs) = placed (bits 0) c at base ∷ places (rest bits) (base + 3 + c.size) (a₇ (bits 0) c at) cs

abbrev base_behind : ℕ → List Content → ℕ
base_behind base [] = base
base_behind base (c ∷ cs) = base_behind (base + 3 + c.size) cs

length-places : (bits : ℕ → Bits) (base at : ℕ) (cs : List Content) → length (places bits base at cs) ≡ length cs
length-places bits base at [] = refl
length-places bits base at (c ∷ cs) = ap suc (length-places (rest bits) (base + 3 + c.size) (a₇ (bits 0) c at) cs)

abbrev read : ℕ → ℕ → List Module → Parsed
read count end table = record { refusal = 0; program = record { count = count; end = end; modules = table } }

-- where module k begins, of those from `at` on
abbrev begin_from : ℕ → List Module → ℕ → ℕ
begin_from at ms zero = at
begin_from at ms (suc k) = (get_or ms k no_module).code + (get_or ms k no_module).length

module _ (s : List ℕ) where
  modules-law : (bits : ℕ → Bits) (cs : List Content) (i at base : ℕ) (table : List Module) → AllSound i cs → AllEnough bits cs → Rest s at (spelled_all bits cs)
      → modules_from s (length cs) i at base table ≡ read (i + length cs) (base_behind base cs) (sets table i (places bits base at cs))
  unfolding modules_from
  modules-law bits [] i at base table S E R =
      let e : at ≡ length s = omega (arith, R.ends) in
      rw (eq-eqb at (length s) e, add-zero i) refl
  modules-law bits (c ∷ cs) i at base table S E R =
      let b = bits 0 in
      let e : suc i + length cs ≡ i + suc (length cs) = omega arith in
      rw (module-law i base b c (spelled_all (rest bits) cs) S.0 E.0 R, add-one i, ← e)
      (modules-law (rest bits) cs (suc i) (a₇ b c at) (base + 3 + c.size) (set table i (placed b c at base)) S.1 E.1 (module-behind i base b c (spelled_all (rest bits) cs) S.0 E.0 R))

  contents-are : (bits : ℕ → Bits) (cs : List Content) (i at base : ℕ) → AllSound i cs → AllEnough bits cs → Rest s at (spelled_all bits cs)
      → tabulate (length cs) (λ k. content_at s (begin_from at (places bits base at cs) k) (get_or (places bits base at cs) k no_module)) ≡ cs
  unfolding tabulate
  contents-are bits [] i at base S E R = refl
  contents-are bits (c ∷ cs) i at base S E R =
      let b = bits 0 in
      let m = placed b c at base in
      let ms = places (rest bits) (base + 3 + c.size) (a₇ b c at) cs in
      rw (
        content-law i base b c (spelled_all (rest bits) cs) S.0 E.0 R,
        tabulate-same (length cs) (λ k. content_at s (begin_from at (m ∷ ms) (suc k)) (get_or ms k no_module)) (λ k. content_at s (begin_from (a₇ b c at) ms k) (get_or ms k no_module)) (step m ms),
        contents-are (rest bits) cs (suc i) (a₇ b c at) (base + 3 + c.size) S.1 E.1 (module-behind i base b c (spelled_all (rest bits) cs) S.0 E.0 R),
      ) refl
    where
      step : (m : Module) (ms : List Module) (k : ℕ) → k < length cs
          → content_at s (begin_from at (m ∷ ms) (suc k)) (get_or ms k no_module) ≡ content_at s (begin_from (m.code + m.length) ms k) (get_or ms k no_module)
      step m ms zero l = refl
      step m ms (suc k) l = refl

-- ---- the whole image

module _ (bits : ℕ → Bits) (cs : List Content) (some : 1 ≤ length cs) (few : length cs ≤ most_modules) (brief : length (spelling bits cs) ≤ 65535) (S : AllSound 0 cs) (E : AllEnough bits cs) where
  from_one : Rest (spelling bits cs) 1 (spelled_all bits cs)
  from_one = record { is = refl; ends = omega arith }

  abbrev program : Program
  program = record { count = length cs; end = base_behind 128 cs; modules = sets (replicate most_modules no_module) 0 (places bits 128 1 cs) }

  spelling-parsed : parse (spelling bits cs) ≡ record { refusal = 0; program = program }
  unfolding parse
  spelling-parsed =
      rw (
        ne_eqb (suc (length (spelled_all bits cs))) 0 (λ z. omega (arith, z)),
        le-ltb 65535 (suc (length (spelled_all bits cs))) brief,
        ne_eqb (length cs) 0 (λ z. omega (arith, z, some)),
        le-ltb most_modules (length cs) few,
        modules-law (spelling bits cs) bits cs 0 1 128 (replicate most_modules no_module) S E from_one,
        zero-add (length cs),
      ) refl

  -- module k of it
  module-is : (k : ℕ) → k < length cs → module_of program k ≡ get_or (places bits 128 1 cs) k no_module
  module-is k l =
      let n = length-places bits 128 1 cs in
      ap (λ (t : List Module). get_or t k no_module) (sets-eq (places bits 128 1 cs) (replicate most_modules no_module) 0 (omega (arith, n, few)))
      ∙ get_or-append (places bits 128 1 cs) (drop (0 + length (places bits 128 1 cs)) (replicate most_modules no_module)) no_module k (omega (arith, n, l))

  pub spelling-read : (parse (spelling bits cs)).refusal ≡ 0
  spelling-read = ap (λ (p : Parsed). p.refusal) spelling-parsed

  pub spelling-contents : contents (spelling bits cs) ≡ cs
  unfolding contents
  spelling-contents = rw spelling-parsed (tabulate-same (length cs) _ _ same ∙ contents-are (spelling bits cs) bits cs 0 1 128 S E from_one)
    where
      same : (k : ℕ) → k < length cs
          → content_at (spelling bits cs) (begin_of program.modules k) (module_of program k) ≡ content_at (spelling bits cs) (begin_from 1 (places bits 128 1 cs) k) (get_or (places bits 128 1 cs) k no_module)
      same zero l = rw (module-is zero l) refl
      same (suc k) l = rw (module-is (suc k) l, module-is k (omega arith)) refl

-- ---- the form

abbrev pub nothing : Content
nothing = record { size = 0; procs = []; name = []; code = [] }

-- the bits that are needed
abbrev needed_of : List Content → ℕ → Bits
needed_of cs k = needed (get_or cs k nothing)

form-spelled : (cs : List Content) → modules_form cs ≡ spelled_all (needed_of cs) cs
form-spelled [] = refl
form-spelled (c ∷ cs) = ap (λ (x : List ℕ). module_form c ++ x) (form-spelled cs)

form-enough : (i : ℕ) (cs : List Content) → AllSound i cs → AllEnough (needed_of cs) cs
form-enough i [] S = tt
form-enough i (c ∷ cs) S = (enough c S.0.eight, form-enough (suc i) cs S.1)

pub record Writable (cs : List Content) : Type 0 where
  pub some : 1 ≤ length cs
  pub few : length cs ≤ most_modules
  pub brief : length (form cs) ≤ 65535
  pub sound : AllSound 0 cs

module _ (cs : List Content) (W : Writable cs) where
  form-is : form cs ≡ spelling (needed_of cs) cs
  unfolding form
  form-is = ap (λ (x : List ℕ). length cs ∷ x) (form-spelled cs)

  brief : length (spelling (needed_of cs) cs) ≤ 65535
  brief = subst (λ (x : List ℕ). length x ≤ 65535) form-is W.brief

  pub form-parsed : (parse (form cs)).refusal ≡ 0
  form-parsed = rw form-is (spelling-read (needed_of cs) cs W.some W.few brief W.sound (form-enough 0 cs W.sound))

  pub form-contents : contents (form cs) ≡ cs
  form-contents = rw form-is (spelling-contents (needed_of cs) cs W.some W.few brief W.sound (form-enough 0 cs W.sound))
