-- What the modules of an image tell, fact after fact, and the first fact in which two images differ.
use Rattle.std.specs.Prelude.{ℕ, ◌≡◌, List, [], ◌∷◌, ◌++◌, eqb, Option, None, Some}
use Rattle.mcode.specs.Word.{pick, and, tabulate, byte}
use Rattle.mcode.specs.Image.{parse, module_of, begin_of, code_byte, proc_count, entry_of, params_of, results_of}
use Rattle.mcode.specs.Archive.{name_of, contents}
use Rattle.mcode.specs.declared.Module.{Module}
use Rattle.mcode.specs.declared.Program.{Program}
use Rattle.compare.specs.declared.Part.{Part}
use Rattle.compare.specs.declared.Part.TheVariants.{Modules, Size, Procedures, Entry, Parameters, Results, Name, Length, Code}
use Rattle.compare.specs.declared.Difference.{Difference}

-- a value, in which module it stands, and at which place there
pub record Fact : Type 0 where
  pub part : Part
  pub unit : ℕ
  pub at : ℕ
  pub value : ℕ

abbrev pub fact : Part → ℕ → ℕ → ℕ → Fact
fact part unit at value = record { part = part; unit = unit; at = at; value = value }

-- one list behind another
abbrev pub joined : List (List Fact) → List Fact
joined [] = []
joined (facts ∷ more) = facts ++ joined more

-- the facts of each number below n
unfoldable pub each : ℕ → (ℕ → List Fact) → List Fact
each n f = joined (tabulate n f)

-- procedure i of module k
abbrev pub procedure_facts : List ℕ → ℕ → Module → ℕ → List Fact
procedure_facts image k m i = fact Entry k i (entry_of image m i) ∷ fact Parameters k i (params_of image m i) ∷ fact Results k i (results_of image m i) ∷ []

-- byte i of the name of module k, whose bit map is at `at`
abbrev pub name_facts : List ℕ → ℕ → ℕ → Module → ℕ → List Fact
name_facts image k at m i = fact Name k i (byte (name_of image at m) i) ∷ []

-- the byte at position p of the code of module k
abbrev pub code_facts : List ℕ → ℕ → Module → ℕ → List Fact
code_facts image k m p = fact Code k p (code_byte image m p) ∷ []

-- module k, whose bit map is at `at`
unfoldable pub module_facts : List ℕ → ℕ → ℕ → Module → List Fact
module_facts image k at m =
    fact Size k 0 m.size
    ∷ fact Procedures k 0 (proc_count m)
    ∷ (each (proc_count m) (procedure_facts image k m)
    ++ (each 8 (name_facts image k at m)
    ++ (fact Length k 0 m.length
    ∷ each m.length (code_facts image k m))))

-- module k of a program
abbrev pub facts_at : List ℕ → Program → ℕ → List Fact
facts_at image program k = module_facts image k (begin_of program.modules k) (module_of program k)

abbrev pub facts_of : List ℕ → Program → List Fact
facts_of image program = fact Modules 0 0 program.count ∷ each program.count (facts_at image program)

abbrev pub facts : List ℕ → List Fact
facts image = facts_of image (parse image).program

-- a fact of the one image, and what the other has in its place
abbrev pub difference : Fact → ℕ → Difference
difference x second = record { part = x.part; unit = x.unit; at = x.at; first = x.value; second = second }

-- the first place where the values differ; as long as they are equal, both lists speak of the same
abbrev pub first_of : List Fact → List Fact → Option Difference
first_of [] ys = None
first_of (x ∷ xs) [] = None
first_of (x ∷ xs) (y ∷ ys) = pick (eqb x.value y.value) (first_of xs ys) (Some (difference x y.value))

-- only images that are read are compared
unfoldable pub first_difference : List ℕ → List ℕ → Option Difference
first_difference image image' =
    pick (and (eqb (parse image).refusal 0) (eqb (parse image').refusal 0)) (first_of (facts image) (facts image')) None

-- Images that are read differ in nothing exactly where their modules are equal.
unfoldable pub SameModules : Type 0
SameModules =
    (image image' : List ℕ) → (parse image).refusal ≡ 0 → (parse image').refusal ≡ 0
    → (first_difference image image' ≡ None → contents image ≡ contents image') × (contents image ≡ contents image' → first_difference image image' ≡ None)
