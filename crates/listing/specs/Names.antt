-- A name as the table writes it.
use Rattle.std.specs.Prelude.{ℕ, ◌-◌, ◌<◌, ◌≢◌, List, ◌++◌, length, replicate, slice_index, Option, Some, None}
use Rattle.std.specs.Borrow.{Bor}

-- the row of a name: its letters, filled up with blanks; blanks alone where there is none
abbrev pub row_of : Option (Bor (List ℕ)) → List ℕ
row_of None = replicate 5 32
row_of (Some name) = name.now ++ replicate (5 - length name.now) 32

-- a name has letters, and its last one is no blank
abbrev pub EndsInLetter : List ℕ → Type 0
EndsInLetter name = (0 < length name) × (slice_index name (length name - 1) ≢ 32)
