-- What is true of every image that is read without a refusal: its modules lie in it one behind another, their records are in range, and
-- their data lie in the store one behind another. Proved in proofs/Reader.antt; the functions above the reader ask for it.
use Rattle.std.specs.Prelude.{ℕ, ◌+◌, ◌*◌, ◌/◌, ◌%◌, ◌≤◌, ◌<◌, ◌≡◌, List, length, get_or}
use Rattle.mcode.specs.Word.{byte}
use Rattle.mcode.specs.Image.{first_module, most_modules, no_module, parse, module_of, begin_of, proc_count, entry_of, params_of, results_of}
use Rattle.mcode.specs.declared.Module.{Module}
use Rattle.mcode.specs.declared.Program.{Program}

abbrev pub Bytes : List ℕ → Type 0
Bytes image = (i : ℕ) → byte image i < 256

-- a module as the reader leaves it
pub record Sound (image : List ℕ) (m : Module) : Type 0 where
  pub within : m.code + m.length ≤ length image
  pub short : m.length ≤ 32767
  pub near : m.table ≤ 65535
  pub records : m.table + 4 * m.procs ≤ m.code
  pub few : Bytes image → m.procs ≤ 255
  pub entries : (i : ℕ) → i < proc_count m → entry_of image m i < m.length
  pub params : (i : ℕ) → i < proc_count m → params_of image m i ≤ 16
  pub results : (i : ℕ) → i < proc_count m → results_of image m i ≤ 4

-- how a module lies in the image from `at` on, where its bit map is: the fields whose bits stand, the code length, the records, the code
pub record Spelt (bits at : ℕ) (m : Module) : Type 0 where
  pub few : bits < 8
  pub table : m.table ≡ at + 3 + 2 * (bits % 2) + bits / 2 % 2 + 8 * (bits / 4 % 2)
  pub code : m.code ≡ m.table + 4 * m.procs
  pub unsized : bits % 2 ≡ 0 → m.size ≡ 0
  pub unlisted : bits / 2 % 2 ≡ 0 → m.procs ≡ 0

abbrev pub nth : List Module → ℕ → Module
nth table j = get_or table j no_module

-- the first i modules of the table: their codes lie one behind another before position `at`, and their data before word `base`
pub record Laid (image : List ℕ) (table : List Module) (i at base : ℕ) : Type 0 where
  pub sound : (j : ℕ) → j < i → Sound image (nth table j)
  pub behind : (j : ℕ) → j < i → (nth table j).code + (nth table j).length ≤ at
  pub apart : (j k : ℕ) → j < k → k < i → (nth table j).code + (nth table j).length ≤ (nth table k).code
  pub below : (j : ℕ) → j < i → (nth table j).base + 3 ≤ base
  pub rising : (j k : ℕ) → j < k → k < i → (nth table j).base + 3 ≤ (nth table k).base
  pub begins : begin_of table i ≡ at
  pub spelt : (j : ℕ) → j < i → Spelt (byte image (begin_of table j)) (begin_of table j) (nth table j)

-- a program that was read from the image
pub record Told (image : List ℕ) (program : Program) : Type 0 where
  pub brief : length image ≤ 65535
  pub some : 1 ≤ program.count
  pub small : program.count ≤ most_modules
  pub table : length program.modules ≡ most_modules
  pub blank : (k : ℕ) → program.count ≤ k → module_of program k ≡ no_module
  pub high : first_module ≤ program.end
  pub bare : params_of image (module_of program 0) 0 ≡ 0
  pub laid : Laid image program.modules program.count (length image) program.end

-- a module lies in an image that is read as the reader tells it, with its bit map at `begin`
pub record Lies (image : List ℕ) (begin : ℕ) (m : Module) : Type 0 where
  pub brief : length image ≤ 65535
  pub spelt : Spelt (byte image begin) begin m
  pub sound : Sound image m

unfoldable pub WellRead : Type 0
WellRead = (image : List ℕ) → (parse image).refusal ≡ 0 → Told image (parse image).program
