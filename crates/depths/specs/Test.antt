-- The parts of the test of a lent map, which the contracts of its functions cite; the whole test is mcode's `map_fits`.
use Rattle.std.specs.Prelude.{ℕ, Bool, List, ◌==◌, nat_lt, slice_index_or}
use Rattle.mcode.specs.Word.{or, all_below}
use Rattle.mcode.specs.Image.{proc_count, entry_of, params_of, results_of}
use Rattle.mcode.specs.Depths.{Analysis, unmarked as none, mark_of, mark, entry, followed}
use Rattle.mcode.specs.declared.Module.{Module}
use Rattle.mcode.specs.declared.Flow.{Flow}
use Rattle.mcode.specs.declared.Flow.TheVariants.{Fault}

-- the successors have the marks that f asks, in any analysis where `none` means unmarked
abbrev pub followed_in : List ℕ → Flow → Bool
followed_in map f = followed (record { size = 0; none = none; entries = 0; entry_at = λ i. i; entry_mark = λ i. i; flow = λ p d. Fault }) map f

-- "every entry with its parameter count", "an entry has its procedure's" result count: procedure i
abbrev pub entry_fits : List ℕ → Module → List ℕ → ℕ → Bool
entry_fits image m map i = slice_index_or map (entry_of image m i) none == mark_of (params_of image m i) (results_of image m i) 0 0

-- position p is unmarked, or follows the rules
abbrev pub mark_fits : Analysis → List ℕ → ℕ → Bool
mark_fits A map p = or (mark A map p == A.none) (followed A map (A.flow p (mark A map p)))

-- position i is unmarked, if it is not before `from`
abbrev pub clear : List ℕ → ℕ → ℕ → Bool
clear map from i = or (nat_lt i from) (entry map i == none)

-- the same of all procedures, of all positions, and of all positions up to `to`
abbrev pub entries_fit : List ℕ → Module → List ℕ → Bool
entries_fit image m map = all_below (proc_count m) (entry_fits image m map)

abbrev pub marks_fit : Analysis → List ℕ → Bool
marks_fit A map = all_below A.size (mark_fits A map)

abbrev pub unmarked : List ℕ → ℕ → ℕ → Bool
unmarked map from to = all_below to (clear map from)
