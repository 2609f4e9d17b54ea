-- What the functions that compare a part of two images ask and answer.
use Rattle.std.specs.Prelude.{◌≡◌, List, length, Option, None}
use Rattle.compare.specs.declared.Difference.{Difference}
use Rattle.compare.specs.Facts.{Fact, first_of}

-- the first difference of two lists; they go on at the same place where there is none
pub record Compared (xs ys : List Fact) (r : Option Difference) : Type 0 where
  pub first : r ≡ first_of xs ys
  pub alike : r ≡ None → length xs ≡ length ys
