-- A mark as text: "0+2", "1/1+0+3".
use Rattle.std.specs.Prelude.{ℕ, zero, suc, ◌+◌, ◌/◌, ◌%◌, List, [], ◌∷◌, ◌++◌, eqb, ltb}
use Rattle.mcode.specs.Word.{pick}
use Rattle.mcode.specs.Depths.{depth_of, promised, saves, list_of}

-- a number below 100 in decimal
unfoldable pub number_text : ℕ → List ℕ
number_text n = pick (ltb n 10) ((48 + n) ∷ []) ((48 + n / 10) ∷ (48 + n % 10) ∷ [])

-- "/n where n results are promised", at most 7 of them
unfoldable pub results_text : ℕ → List ℕ
results_text n = pick (eqb n 0) [] (47 ∷ (48 + n) ∷ [])

-- "+d for each saved depth from the front": the first n of the list l
unfoldable pub saves_text : ℕ → ℕ → List ℕ
saves_text zero l = []
saves_text (suc n) l = 43 ∷ (number_text (l % 32) ++ saves_text n (l / 32))

unfoldable pub mark_text : ℕ → List ℕ
mark_text k = (number_text (depth_of k) ++ results_text (promised k)) ++ saves_text (saves k) (list_of k)
