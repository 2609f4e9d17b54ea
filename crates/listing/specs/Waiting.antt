-- What waits to be written in one block. Assumes nothing.
use Rattle.std.specs.Prelude.{ℕ, ◌+◌, ◌≤◌, ◌≡◌, List, [], ◌∷◌, ◌++◌, ltb, length, Option, Some, None, IfSome}
use Rattle.mcode.specs.Word.{pick}

-- the bytes of a block
abbrev pub block : ℕ
block = 65536

-- a byte more: behind those that wait, or alone where they fill a block, since a full block is written
abbrev pub byte_more : ℕ → List ℕ → List ℕ
byte_more b waits = pick (ltb (length waits) block) (waits ++ (b ∷ [])) (b ∷ [])

-- a text more, byte by byte
unfoldable pub text_more : List ℕ → List ℕ → List ℕ
text_more [] waits = waits
text_more (b ∷ rest) waits = text_more rest (byte_more b waits)

-- What waits afterwards is what `more` makes of what waited. None says that a write failed: nothing waits then, and nothing is written any
-- more.
abbrev pub Leaves : (List ℕ → List ℕ) → Option (List ℕ) → Option (List ℕ) → Type 0
Leaves more before None = Unit {0}
Leaves more None (Some after) = ⊥
Leaves more (Some before) (Some after) = after ≡ more before

-- A text more. Where there is room for it, all of it waits, behind what waited.
pub record Takes (before : Option (List ℕ)) (letters : List ℕ) (after : Option (List ℕ)) : Type 0 where
  pub leaves : Leaves (text_more letters) before after
  pub room : IfSome before (λ w. length w + length letters ≤ block → after ≡ Some (w ++ letters))
