-- What is demanded of the archive form (A.11), each statement a type. Their proofs stand in proofs/Archive.antt.
use Rattle.std.specs.Prelude.{◌≡◌, false, List, [], ◌∷◌, ℕ, suc, ◌≤◌, ◌<◌, length, replicate}
use Rattle.mcode.specs.Image.{parse, module_of}
use Rattle.mcode.specs.Depths.{marks_of}
use Rattle.mcode.specs.Run.{Verdict}
use Rattle.mcode.specs.Run.{verdict, Loads}
use Rattle.mcode.specs.Archive.{Content, Bits, contents, spelled_all, form, Delivery, Archives}

-- "The form loads with the same modules": it is read without a refusal, and says the same.
unfoldable pub FormRead : Type 0
FormRead =
    (image : List ℕ) → (parse image).refusal ≡ 0
    → ((parse (form (contents image))).refusal ≡ 0) × (contents (form (contents image)) ≡ contents image)

-- "Optional fields may be spelled out": with any bits that leave out only what is then taken to be there, the image is read and says the
-- same, so it has the same form.
pub record Enough (b : Bits) (c : Content) : Type 0 where
  pub size : b.sized ≡ false → c.size ≡ 0
  pub procs : b.listing ≡ false → c.procs ≡ record { entry = 0; params = 0; results = 0 } ∷ []
  pub name : b.named ≡ false → c.name ≡ replicate 8 0

abbrev pub AllEnough : (ℕ → Bits) → List Content → Type 0
AllEnough bits [] = Unit {0}
AllEnough bits (c ∷ cs) = Enough (bits 0) c × AllEnough (λ k. bits (suc k)) cs

abbrev pub spelling : (ℕ → Bits) → List Content → List ℕ
spelling bits cs = length cs ∷ spelled_all bits cs

unfoldable pub AnySpelling : Type 0
AnySpelling =
    (image : List ℕ) → (parse image).refusal ≡ 0
    → (bits : ℕ → Bits) → AllEnough bits (contents image) → length (spelling bits (contents image)) ≤ 65535
    → ((parse (spelling bits (contents image))).refusal ≡ 0) × (contents (spelling bits (contents image)) ≡ contents image)

-- It is not longer than the image, so never over 65,535 bytes.
unfoldable pub FormShort : Type 0
FormShort = (image : List ℕ) → (parse image).refusal ≡ 0 → length (form (contents image)) ≤ length image

-- "Writing it again gives the same bytes."
unfoldable pub FormAgain : Type 0
FormAgain = (image : List ℕ) → (parse image).refusal ≡ 0 → form (contents (form (contents image))) ≡ form (contents image)

-- "Images with equal modules have the same form", and no others.
unfoldable pub FormSame : Type 0
FormSame =
    (image image' : List ℕ) → (parse image).refusal ≡ 0 → (parse image').refusal ≡ 0
    → (contents image ≡ contents image' → form (contents image) ≡ form (contents image')) × (form (contents image) ≡ form (contents image') → contents image ≡ contents image')

-- Load judges images with equal modules alike: where it accepts one, it accepts the other, given a map that is long enough, and gives
-- every position of every module the same mark.
abbrev pub SameMarks : List ℕ → List ℕ → List ℕ → List ℕ → Type 0
SameMarks image map image' map' =
    (k : ℕ) → k < (parse image).program.count → marks_of map' (module_of (parse image').program k) ≡ marks_of map (module_of (parse image).program k)

unfoldable pub SameLoaded : Type 0
SameLoaded =
    (image before map : List ℕ) → Loads image before (verdict 0) map
    → (image' : List ℕ) → (parse image').refusal ≡ 0 → contents image' ≡ contents image
    → (before' : List ℕ) (v : Verdict) (map' : List ℕ) → length image' ≤ length before' → Loads image' before' v map'
    → (v ≡ verdict 0) × SameMarks image map image' map'

-- So with the form: "The form loads", by a map that is as long as the form is.
unfoldable pub FormLoads : Type 0
FormLoads =
    (image before map : List ℕ) → Loads image before (verdict 0) map
    → (before' : List ℕ) (v : Verdict) (map' : List ℕ) → length (form (contents image)) ≤ length before' → Loads (form (contents image)) before' v map'
    → (v ≡ verdict 0) × SameMarks image map (form (contents image)) map'

-- And there is such a map: load does accept it.
unfoldable pub FormAccepted : Type 0
FormAccepted =
    (image before map : List ℕ) → Loads image before (verdict 0) map
    → (before' : List ℕ) → length (form (contents image)) ≤ length before' → (map' : List ℕ) × Loads (form (contents image)) before' (verdict 0) map'

-- The answer, the map and the output are determined.
unfoldable pub ArchiveDetermined : Type 0
ArchiveDetermined =
    (image before output a b : List ℕ) (x y : Delivery) → Archives image before output a x → Archives image before output b y → (a ≡ b) × (x ≡ y)
