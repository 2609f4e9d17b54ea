-- What the writer's functions ask and leave, in the definition's terms.
use Rattle.std.specs.Prelude.{ℕ, ◌+◌, ◌≡◌, ◌≤◌, List, [], ◌∷◌, ◌++◌, length}
use Rattle.std.specs.Borrow.{Bor}
use Rattle.mcode.specs.Word.{tabulate}
use Rattle.mcode.specs.Image.{proc_count}
use Rattle.mcode.specs.Step.{written}
use Rattle.mcode.specs.Archive.{Procedure, procedure_of, Content, content_at, contents_of, Bits}
use Rattle.mcode.specs.declared.Module.{Module}
use Rattle.placed.specs.declared.Image.{Image}
use Rattle.placed.specs.declared.Placed.{Placed}
use Rattle.archive.specs.declared.fields.Fields.{Fields}
use Rattle.archive.specs.declared.writer.Writer.{Writer}

-- the fields that are spelled out, as the bits of a bit map
abbrev pub bits : Fields → Bits
bits f = record { sized = f.sized; listing = f.listing; named = f.named }

abbrev pub procs_of : List ℕ → Module → List Procedure
procs_of image m = tabulate (proc_count m) (procedure_of image m)

-- a module as a value
abbrev pub content : Placed → Content
content p = content_at p.image.now p.begin p.m

-- its modules
abbrev pub the_contents : Image → List Content
the_contents i = contents_of i.bytes.now i.program.now

-- bytes were put into an output from `at` on; `next` is the position behind them
pub record Put (bytes : List ℕ) (at : ℕ) (before : List ℕ) (next : ℕ) (after : List ℕ) : Type 0 where
  pub next-is : next ≡ at + length bytes
  pub after_is : after ≡ written bytes at before

-- pieces, one behind another
abbrev pub joined : List (Bor (List ℕ)) → List ℕ
joined [] = []
joined (x ∷ xs) = x.now ++ joined xs

-- a writer has room for bytes
abbrev pub Room : List ℕ → Writer → Type 0
Room bytes w = w.at + length bytes ≤ length w.output.now

-- it put them behind what it had put, into the same output
abbrev pub Wrote : List ℕ → Writer → Writer → Type 0
Wrote bytes w v = (v.output.ghost_name ≡ w.output.ghost_name) × Put bytes w.at w.output.now v.at v.output.now
