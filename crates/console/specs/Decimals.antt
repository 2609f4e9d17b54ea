-- What a text says as a decimal number. Assumes nothing.
use Rattle.std.specs.Prelude.{ℕ, ◌+◌, ◌-◌, ◌*◌, Bool, true, List, [], ◌∷◌, Option, Some, None, eqb, leb, length}
use Rattle.mcode.specs.Word.{pick, and}

-- the characters 0 to 9 are 48 to 57
abbrev pub is_digit : ℕ → Bool
is_digit c = and (leb 48 c) (leb c 57)

unfoldable pub all_digits : List ℕ → Bool
all_digits [] = true
all_digits (c ∷ rest) = and (is_digit c) (all_digits rest)

-- the value of the digits that follow those of value v
unfoldable pub value_from : ℕ → List ℕ → ℕ
value_from v [] = v
value_from v (c ∷ rest) = value_from (v * 10 + (c - 48)) rest

abbrev pub largest : ℕ
largest = 4294967295

-- digits that follow those of value v, as one number
unfoldable pub number_from : ℕ → List ℕ → Option ℕ
number_from v text = pick (and (all_digits text) (leb (value_from v text) largest)) (Some (value_from v text)) None

-- a text of one digit or more, all of them digits, of a value up to the largest
unfoldable pub number_of : List ℕ → Option ℕ
number_of text = pick (eqb (length text) 0) None (number_from 0 text)
