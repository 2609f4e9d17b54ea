-- The parts of a module, as facts, and what the functions that compare two modules of the same number answer.
use Rattle.std.specs.Prelude.{ℕ, List, ◌∷◌, Option}
use Rattle.mcode.specs.Image.{proc_count}
use Rattle.compare.specs.declared.Part.TheVariants.{Procedures, Length}
use Rattle.compare.specs.declared.Difference.{Difference}
use Rattle.compare.specs.declared.modules.Pair.{Pair}
use Rattle.placed.specs.declared.Image.{Image}
use Rattle.placed.specs.declared.Placed.{Placed}
use Rattle.compare.specs.Facts.{Fact, fact, each, procedure_facts, name_facts, code_facts, module_facts, facts_of}
use Rattle.compare.specs.Compared.{Compared}

abbrev pub procedure_at : ℕ → ℕ → Placed → List Fact
procedure_at i k s = procedure_facts s.image.now k s.m i

-- the procedures, behind their count
abbrev pub the_procedures : ℕ → Placed → List Fact
the_procedures k s = fact Procedures k 0 (proc_count s.m) ∷ each (proc_count s.m) (procedure_facts s.image.now k s.m)

abbrev pub the_name : ℕ → Placed → List Fact
the_name k s = each 8 (name_facts s.image.now k s.begin s.m)

-- the code, behind its length
abbrev pub the_code : ℕ → Placed → List Fact
the_code k s = fact Length k 0 s.m.length ∷ each s.m.length (code_facts s.image.now k s.m)

abbrev pub the_module : ℕ → Placed → List Fact
the_module k s = module_facts s.image.now k s.begin s.m

-- all that an image tells
abbrev pub the_facts : Image → List Fact
the_facts i = facts_of i.bytes.now i.program.now

-- a part of either module compared
abbrev pub InPair : (ℕ → Placed → List Fact) → Pair → Option Difference → Type 0
InPair part p r = Compared (part p.k p.first) (part p.k p.second) r
