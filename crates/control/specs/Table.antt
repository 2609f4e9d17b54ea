-- What calls, returns and transfers read in the lent numbers, and what they ask of them.
use Rattle.std.specs.Prelude.{Bool, List, ℕ, zero, suc, ◌+◌, ◌*◌, ◌≤◌, ◌<◌, get_or, length, ltb, eqb}
use Rattle.mcode.specs.Word.{pick, and}
use Rattle.mcode.specs.Image.{most_modules}
use Rattle.mcode.specs.Depths.{marked}
use Rattle.actions.specs.Table.{module_in}

-- the count of the modules
abbrev pub count_in : List ℕ → ℕ
count_in table = get_or table 0 0

-- the first of the n modules from module i on that has the base g, or the number after them
unfoldable pub first_from : List ℕ → ℕ → ℕ → ℕ → ℕ
first_from table g zero i = i
first_from table g (suc n) i = pick (eqb (module_in table i).base g) i (first_from table g n (i + 1))

abbrev pub first_based : List ℕ → ℕ → ℕ
first_based table g = first_from table g (count_in table) 0

-- a loaded module and a position in it that is marked with depth d
abbrev pub stands_in : List ℕ → List ℕ → ℕ → ℕ → ℕ → Bool
stands_in table map k q d = and (ltb k (count_in table)) (marked map (module_in table k) q d)

-- the procedure records of the modules lie in the image
pub record Entered (image table : List ℕ) : Type 0 where
  pub few : count_in table ≤ most_modules
  pub entries : (k n : ℕ) → k < count_in table → n < (module_in table k).procs → (module_in table k).table + 4 * n + 1 < length image

-- the marks of the modules lie in the map
pub record Mapped (table map : List ℕ) : Type 0 where
  pub few : count_in table ≤ most_modules
  pub marks : (k : ℕ) → k < count_in table → (module_in table k).code + (module_in table k).length ≤ length map
