-- The modules of an image as values, and the one form in which the archive files them (A.11).
use Rattle.std.specs.Prelude.{ℕ, suc, ◌+◌, ◌-◌, ◌*◌, ◌/◌, ◌%◌, ◌≡◌, Bool, true, false, not, List, [], ◌∷◌, ◌++◌, length, drop, replicate, ltb, leb, eqb}
use Rattle.mcode.specs.Word.{pick, and, truth, tabulate, slice, byte}
use Rattle.mcode.specs.Image.{parse, module_of, begin_of, proc_count, entry_of, params_of, results_of}
use Rattle.mcode.specs.Run.{Verdict, Loads}
use Rattle.mcode.specs.declared.Module.{Module}
use Rattle.mcode.specs.declared.Program.{Program}

-- ---- the modules of an image

pub record Procedure : Type 0 where
  pub entry : ℕ
  pub params : ℕ
  pub results : ℕ

-- a module, wherever it lies and however it is spelled: "equal modules" are equal in this
pub record Content : Type 0 where
  pub size : ℕ  -- of its data
  pub procs : List Procedure
  pub name : List ℕ
  pub code : List ℕ

-- "If not, one procedure 0, entry 0, no parameters or results."
abbrev pub procedure_of : List ℕ → Module → ℕ → Procedure
procedure_of image m n = record { entry = entry_of image m n; params = params_of image m n; results = results_of image m n }

-- "Bit 2: name, 8 bytes not interpreted, else zeros": the bit map is at `at`, and the name ends where the code length begins
unfoldable pub name_of : List ℕ → ℕ → Module → List ℕ
name_of image at m = pick (eqb (byte image at / 4 % 2) 1) (slice image (m.table - 10) 8) (replicate 8 0)

-- module m, whose bit map is at `at`
unfoldable pub content_at : List ℕ → ℕ → Module → Content
content_at image at m = record {
  size = m.size;
  procs = tabulate (proc_count m) (procedure_of image m);
  name = name_of image at m;
  code = slice image m.code m.length;
}

-- module k of the program that an image was read to, and all of them in their order
abbrev pub content_of : List ℕ → Program → ℕ → Content
content_of image program k = content_at image (begin_of program.modules k) (module_of program k)

abbrev pub contents_of : List ℕ → Program → List Content
contents_of image program = tabulate program.count (content_of image program)

unfoldable pub contents : List ℕ → List Content
contents image = contents_of image (parse image).program

-- ---- writing modules

-- "Words are 16 bits, high byte first."
abbrev pub word_bytes : ℕ → List ℕ
word_bytes w = w / 256 ∷ w % 256 ∷ []

abbrev pub record_bytes : Procedure → List ℕ
record_bytes p = p.entry / 256 ∷ p.entry % 256 ∷ p.params ∷ p.results ∷ []

-- "one record a procedure"
abbrev pub records_bytes : List Procedure → List ℕ
records_bytes [] = []
records_bytes (p ∷ ps) = record_bytes p ++ records_bytes ps

-- the bits of a bit map: of the data size, the procedures, the name
pub record Bits : Type 0 where
  pub sized : Bool
  pub listing : Bool
  pub named : Bool

abbrev pub bit_map : Bits → ℕ
bit_map b = truth b.sized + 2 * truth b.listing + 4 * truth b.named

-- a field that stands only where its bit does
abbrev pub given : Bool → List ℕ → List ℕ
given bit field = pick bit field []

-- "Each module: a bit map byte, then only the fields whose bit stands. Bit 0: data size. Bit 1: procedure count. Bit 2: name. Then
-- always the code length. If bit 1 stands, one record a procedure. Then the code."
unfoldable pub spelled : Bits → Content → List ℕ
spelled b c =
    bit_map b
    ∷ (given b.sized (word_bytes c.size)
    ++ (given b.listing (length c.procs ∷ [])
    ++ (given b.named c.name
    ++ (word_bytes (length c.code)
    ++ (given b.listing (records_bytes c.procs)
    ++ c.code)))))

-- modules one behind another, each with the bits of its number
abbrev pub spelled_all : (ℕ → Bits) → List Content → List ℕ
spelled_all bits [] = []
spelled_all bits (c ∷ cs) = spelled (bits 0) c ++ spelled_all (λ k. bits (suc k)) cs

-- "the single default one": procedure 0, entry 0, no parameters or results
abbrev pub default : List Procedure → Bool
default [] = false
default (p ∷ []) = and (eqb p.entry 0) (and (eqb p.params 0) (eqb p.results 0))
default (p ∷ q ∷ ps) = false

abbrev pub zeros : List ℕ → Bool
zeros [] = true
zeros (x ∷ xs) = and (eqb x 0) (zeros xs)

-- "bits stand only for a data size other than 0, procedures other than the single default one, and a name other than zeros"
abbrev pub needed : Content → Bits
needed c = record { sized = not (eqb c.size 0); listing = not (default c.procs); named = not (zeros c.name) }

abbrev pub module_form : Content → List ℕ
module_form c = spelled (needed c) c

abbrev pub modules_form : List Content → List ℕ
modules_form [] = []
modules_form (c ∷ cs) = module_form c ++ modules_form cs

-- the archive form of an image with these modules
unfoldable pub form : List Content → List ℕ
form cs = length cs ∷ modules_form cs

-- ---- what the call answers and leaves

-- "return only a number, 0 if accepted, and the length written, 0 if refused", with what the output slice holds then
pub record Delivered : Type 0 where
  pub number : ℕ
  pub length : ℕ

pub record Delivery : Type 0 where
  pub answer : Delivered
  pub output : List ℕ

abbrev pub delivery : Delivered → List ℕ → Delivery
delivery answer output = record { answer = answer; output = output }

-- a refusal
abbrev pub none : ℕ → Delivered
none k = record { number = k; length = 0 }

abbrev pub withheld : ℕ → List ℕ → Delivery
withheld k output = delivery (none k) output

-- "14, the output slice is shorter than the form, output unchanged"; "output past the form is unchanged"
unfoldable pub deliver : List ℕ → List ℕ → Delivery
deliver bytes output =
    pick (ltb (length output) (length bytes)) (withheld 14 output)
    (delivery (record { number = 0; length = length bytes }) (bytes ++ drop (length bytes) output))

-- "The writer is lent a map and leaves it as load would"; "14, after load's refusals"
abbrev pub Archives : List ℕ → List ℕ → List ℕ → List ℕ → Delivery → Type 0
Archives image before output after answer =
    (v : Verdict) × Loads image before v after
    × (answer ≡ pick (leb 1 v.number) (withheld v.number output) (deliver (form (contents image)) output))
