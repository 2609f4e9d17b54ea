-- Where a refusal of an image lies, in terms of the definition's reader. Assumes nothing.
use Rattle.std.specs.Prelude.{◌≡◌, List, ℕ, ◌+◌, ◌-◌, ◌≤◌, ◌<◌, Option, Some, None, eqb, ltb, length, take, set}
use Rattle.mcode.specs.Word.{pick, or}
use Rattle.mcode.specs.Image.{most_modules, parse}
use Rattle.explain.specs.declared.Why.{Why}
use Rattle.explain.specs.Reason.{Reasoned}
use Rattle.console.specs.declared.print.Place.{Place}
use Rattle.console.specs.declared.print.Place.TheVariants.{Byte, Inside, Code}

-- the least number below `most` of which P holds; `most` where it holds of none
pub record Least (P : ℕ → Type 0) (most r : ℕ) : Type 0 where
  pub within : r ≤ most
  pub sooner : (k : ℕ) → k < r → P k → ⊥
  pub found : r < most → P r

-- the first n bytes alone are refused with the number
abbrev pub PrefixRefused : List ℕ → ℕ → ℕ → Type 0
PrefixRefused image number n = (parse (take n image)).refusal ≡ number

-- the image whose byte 0 says m + 1 modules is refused with the number
abbrev pub CountRefused : List ℕ → ℕ → ℕ → Type 0
CountRefused image number m = (parse (set image 0 (m + 1))).refusal ≡ number

-- the last byte of the shortest prefix that is refused so
abbrev pub AtByte : List ℕ → ℕ → (ℕ → Place) → Option Place → Type 0
AtByte image number f r = (n : ℕ) × (Least (PrefixRefused image number) (length image) n) × (r ≡ Some (f (n - 1)))

-- the first module with which the image is refused so; the last that an image has, where no sooner one is
abbrev pub InModule : List ℕ → ℕ → (ℕ → Type 0) → Type 0
InModule image number f = (m : ℕ) × (Least (CountRefused image number) (most_modules - 1) m) × f m

-- An empty image has no place. 2: byte 0. 3: in a module, at the image's end. 4: a byte. 5 and 6: in a module, a byte.
unfoldable pub Placed : List ℕ → ℕ → Option Place → Type 0
Placed image number r =
    pick (eqb (length image) 0) (r ≡ None)
    (pick (ltb number 2) (r ≡ None)
    (pick (ltb 6 number) (r ≡ None)
    (pick (eqb number 2) (r ≡ Some (Byte 0))
    (pick (eqb number 3) (InModule image number (λ m. r ≡ Some (Inside m (length image))))
    (pick (eqb number 4) (AtByte image number Byte r)
    (InModule image number (λ m. AtByte image number (Inside m) r)))))))

-- 13 and 8: in the code, as the explanation says that is made with the lent map
unfoldable pub Found : List ℕ → List ℕ → ℕ → Option Place → Type 0
Found image map number r =
    pick (or (eqb number 13) (eqb number 8)) ((why : Option Why) × (Reasoned image map why) × (r ≡ Some (Code why)))
    (Placed image number r)
