-- Images that are read differ in nothing exactly where their modules are equal. Assumes nothing.
use mathlib.Core.Path.{◌≡◌, refl, sym, ap, ◌∙◌}
use mathlib.Core.List.{List, [], ◌∷◌, ◌++◌}
use Prim.Native.Nat.{ℕ, ◌<◌}
use native.Mathlib.Omega.{arith}
use lib.ListN.{length, get_or}
use lib.Seq.{ext_get_or}
use Rattle.mcode.specs.Word.{tabulate, slice, byte}
use Rattle.mcode.specs.Image.{parse, module_of, begin_of, code_byte, proc_count}
use Rattle.mcode.specs.Layout.{Told, Lies}
use Rattle.mcode.specs.Archive.{Procedure, Content, procedure_of, name_of, content_at, content_of, contents_of, contents}
use Rattle.mcode.specs.declared.Module.{Module}
use Rattle.mcode.specs.declared.Program.{Program}
use Rattle.mcode.proofs.Tabulate.{length-tabulate, get_d_tabulate}
use Rattle.mcode.proofs.Lies.{lies}
use Rattle.mcode.proofs.FormOf.{length-code, length-name}
use Rattle.mcode.proofs.Reader.{told}
use Rattle.compare.specs.declared.Part.TheVariants.{Modules, Size, Procedures, Entry, Parameters, Results, Name, Length, Code}
use Rattle.compare.specs.Facts.{Fact, fact, each, procedure_facts, name_facts, code_facts, module_facts, facts_at, facts_of, facts, first_of, SameModules}
use Rattle.compare.proofs.Lists.{Alike, alike-nothing, alike-front, alike-rest, alike-first, alike-others, each-alike, tabulate-equal, each-equal}
use Rattle.compare.proofs.Pieces.{byte-slice}
use Rattle.compare.proofs.Answers.{compared-read}

-- equal tables have equal lengths and equal elements
length-equal : {A : Type 0} (n n' : ℕ) (f g : ℕ → A) → tabulate n f ≡ tabulate n' g → n ≡ n'
length-equal {A} n n' f g e = sym (length-tabulate n f) ∙ ap (λ (x : List A). length x) e ∙ length-tabulate n' g

element-equal : {A : Type 0} (n n' : ℕ) (f g : ℕ → A) → tabulate n f ≡ tabulate n' g → (i : ℕ) → i < n → f i ≡ g i
element-equal {A} n n' f g e i l =
    sym (get_d_tabulate n f (f i) i l) ∙ ap (λ (x : List A). get_or x i (f i)) e ∙ get_d_tabulate n' g (f i) i (omega (arith, l, length-equal n n' f g e))

-- ---- one module

module _ (image image' : List ℕ) (k at at' : ℕ) (m m' : Module) (L : Lies image at m) (L' : Lies image' at' m') where
  abbrev Equal : Type 0
  Equal = content_at image at m ≡ content_at image' at' m'

  abbrev code : List ℕ
  code = slice image m.code m.length

  abbrev code' : List ℕ
  code' = slice image' m'.code m'.length

  code-length : length code ≡ m.length
  unfolding content_at
  code-length = length-code image at m L.spelt L.sound

  code-length' : length code' ≡ m'.length
  unfolding content_at
  code-length' = length-code image' at' m' L'.spelt L'.sound

  name-length : length (name_of image at m) ≡ 8
  unfolding content_at
  name-length = length-name image at m L.spelt L.sound

  name-length' : length (name_of image' at' m') ≡ 8
  unfolding content_at
  name-length' = length-name image' at' m' L'.spelt L'.sound

  -- the lists of the pieces, where the pieces are equal
  procedures-equal : proc_count m ≡ proc_count m' → ((i : ℕ) → i < proc_count m → procedure_of image m i ≡ procedure_of image' m' i)
      → each (proc_count m) (procedure_facts image k m) ≡ each (proc_count m') (procedure_facts image' k m')
  procedures-equal n e = each-equal (proc_count m) (proc_count m') (procedure_facts image k m) (procedure_facts image' k m') n
      (λ i l. ap (λ (p : Procedure). fact Entry k i p.entry ∷ fact Parameters k i p.params ∷ fact Results k i p.results ∷ []) (e i l))

  names-equal : name_of image at m ≡ name_of image' at' m' → each 8 (name_facts image k at m) ≡ each 8 (name_facts image' k at' m')
  names-equal e = ap (λ (name : List ℕ). each 8 (λ i. fact Name k i (byte name i) ∷ [])) e

  codes_equal : m.length ≡ m'.length → code ≡ code' → each m.length (code_facts image k m) ≡ each m'.length (code_facts image' k m')
  codes_equal n e = each-equal m.length m'.length (code_facts image k m) (code_facts image' k m') n (λ p l. ap (λ (b : ℕ). fact Code k p b ∷ []) (byte-equal p l))
    where
      byte-equal : (p : ℕ) → p < m.length → code_byte image m p ≡ code_byte image' m' p
      byte-equal p l = sym (byte-slice image m.code m.length p l) ∙ ap (λ (s : List ℕ). byte s p) e ∙ byte-slice image' m'.code m'.length p (omega (arith, l, n))

  -- equal modules tell the same
  facts-equal : Equal → module_facts image k at m ≡ module_facts image' k at' m'
  unfolding content_at module_facts
  facts-equal e =
      let size : m.size ≡ m'.size = ap (λ (c : Content). c.size) e in
      let procs = ap (λ (c : Content). c.procs) e in
      let count = length-equal (proc_count m) (proc_count m') (procedure_of image m) (procedure_of image' m') procs in
      let procedures = procedures-equal count (element-equal (proc_count m) (proc_count m') (procedure_of image m) (procedure_of image' m') procs) in
      let names = names-equal (ap (λ (c : Content). c.name) e) in
      let bytes : code ≡ code' = ap (λ (c : Content). c.code) e in
      let long : m.length ≡ m'.length = sym code-length ∙ ap (λ (s : List ℕ). length s) bytes ∙ code-length' in
      let codes = codes_equal long bytes in
      λ i. fact Size k 0 (size i) ∷ fact Procedures k 0 (count i) ∷ (procedures i ++ (names i ++ (fact Length k 0 (long i) ∷ codes i)))

  -- modules that tell the same are equal
  module _ (A : Alike (module_facts image k at m) (module_facts image' k at' m')) where
    abbrev procedures : List Fact
    procedures = each (proc_count m) (procedure_facts image k m)

    abbrev procedures' : List Fact
    procedures' = each (proc_count m') (procedure_facts image' k m')

    abbrev names : List Fact
    names = each 8 (name_facts image k at m)

    abbrev names' : List Fact
    names' = each 8 (name_facts image' k at' m')

    abbrev codes : List Fact
    codes = fact Length k 0 m.length ∷ each m.length (code_facts image k m)

    abbrev codes' : List Fact
    codes' = fact Length k 0 m'.length ∷ each m'.length (code_facts image' k m')

    A₀ : Alike (fact Size k 0 m.size ∷ fact Procedures k 0 (proc_count m) ∷ (procedures ++ (names ++ codes)))
        (fact Size k 0 m'.size ∷ fact Procedures k 0 (proc_count m') ∷ (procedures' ++ (names' ++ codes')))
    unfolding module_facts
    A₀ = A

    count-is : proc_count m ≡ proc_count m'
    count-is = alike-first (alike-others A₀)

    A₂ : Alike (procedures ++ (names ++ codes)) (procedures' ++ (names' ++ codes'))
    A₂ = alike-others (alike-others A₀)

    procedure-is : (i : ℕ) → i < proc_count m → procedure_of image m i ≡ procedure_of image' m' i
    procedure-is i l =
        let a = each-alike (proc_count m) (proc_count m') (procedure_facts image k m) (procedure_facts image' k m') count-is (λ _ _ _. refl) (alike-front procedures procedures' _ _ A₂) i l in
        λ j. record { entry = alike-first a j; params = alike-first (alike-others a) j; results = alike-first (alike-others (alike-others a)) j }

    A₃ : Alike (names ++ codes) (names' ++ codes')
    A₃ = alike-rest procedures procedures' _ _ (ap (λ (x : List Fact). length x) (procedures-equal count-is procedure-is)) A₂

    name-is : name_of image at m ≡ name_of image' at' m'
    name-is = ext_get_or 0 (name_of image at m) (name_of image' at' m') (name-length ∙ sym name-length')
        (λ i l. alike-first (each-alike 8 8 (name_facts image k at m) (name_facts image' k at' m') refl (λ _ _ _. refl) (alike-front names names' _ _ A₃) i (omega (arith, l, name-length))))

    A₄ : Alike codes codes'
    A₄ = alike-rest names names' _ _ (ap (λ (x : List Fact). length x) (names-equal name-is)) A₃

    long-is : m.length ≡ m'.length
    long-is = alike-first A₄

    code_is : code ≡ code'
    code_is = ext_get_or 0 code code' (code-length ∙ long-is ∙ sym code-length') (λ p l. at_position p (omega (arith, l, code-length)))
      where
        at_position : (p : ℕ) → p < m.length → byte code p ≡ byte code' p
        at_position p l =
            let a = each-alike m.length m'.length (code_facts image k m) (code_facts image' k m') long-is (λ _ _ _. refl) (alike-others A₄) p l in
            byte-slice image m.code m.length p l ∙ alike-first a ∙ sym (byte-slice image' m'.code m'.length p (omega (arith, l, long-is)))

    content-equal : Equal
    unfolding content_at
    content-equal =
        let procs = tabulate-equal (proc_count m) (proc_count m') (procedure_of image m) (procedure_of image' m') count-is procedure-is in
        λ i. record { size = alike-first A₀ i; procs = procs i; name = name-is i; code = code_is i }

-- ---- all modules

module _ (image image' : List ℕ) (p p' : Program) (T : Told image p) (T' : Told image' p') where
  module _ (e : contents_of image p ≡ contents_of image' p') where
    count-equal : p.count ≡ p'.count
    count-equal = length-equal p.count p'.count (content_of image p) (content_of image' p') e

    all-equal : facts_of image p ≡ facts_of image' p'
    all-equal =
        let modules = each-equal p.count p'.count (facts_at image p) (facts_at image' p') count-equal
        (λ k l. facts-equal image image' k (begin_of p.modules k) (begin_of p'.modules k) (module_of p k) (module_of p' k)
        (lies image p T k l _ refl) (lies image' p' T' k (omega (arith, l, count-equal)) _ refl)
        (element-equal p.count p'.count (content_of image p) (content_of image' p') e k l)) in
        λ i. fact Modules 0 0 (count-equal i) ∷ modules i

  module _ (A : Alike (facts_of image p) (facts_of image' p')) where
    as_many : p.count ≡ p'.count
    as_many = alike-first A

    module-is : (k : ℕ) → k < p.count → Alike (facts_at image p k) (facts_at image' p' k) → content_of image p k ≡ content_of image' p' k
    module-is k l = content-equal image image' k (begin_of p.modules k) (begin_of p'.modules k) (module_of p k) (module_of p' k)
        (lies image p T k l _ refl) (lies image' p' T' k (omega (arith, l, as_many)) _ refl)

    length-is : (k : ℕ) → k < p.count → Alike (facts_at image p k) (facts_at image' p' k) → length (facts_at image p k) ≡ length (facts_at image' p' k)
    length-is k l B = ap (λ (x : List Fact). length x)
        (facts-equal image image' k (begin_of p.modules k) (begin_of p'.modules k) (module_of p k) (module_of p' k)
        (lies image p T k l _ refl) (lies image' p' T' k (omega (arith, l, as_many)) _ refl) (module-is k l B))

    contents-equal : contents_of image p ≡ contents_of image' p'
    contents-equal = tabulate-equal p.count p'.count (content_of image p) (content_of image' p') as_many
        (λ k l. module-is k l (each-alike p.count p'.count (facts_at image p) (facts_at image' p') as_many length-is (alike-others A) k l))

pub same-modules : SameModules
unfolding SameModules contents
same-modules image image' z z' =
    let p = (parse image).program in
    let p' = (parse image').program in
    let read = compared-read image image' z z' in (
      λ e. contents-equal image image' p p' (told image z) (told image' z') (record { none = sym read ∙ e }),
      λ e. read ∙ ap (λ (x : List Fact). first_of (facts image) x) (sym (all-equal image image' p p' (told image z) (told image' z') e)) ∙ alike-nothing (facts image),
    )
