-- What a listing is told of each position of a module's code: whether it is reached, and what is wrong there.
use Rattle.std.specs.Prelude.{ℕ, ◌<◌, ◌≡◌, ◌⊎◌, List, length, get_or, set, eqb, Option, Some, None}
use Rattle.mcode.specs.Word.{pick}
use Rattle.mcode.specs.Image.{parse, module_of}
use Rattle.mcode.specs.Depths.{unmarked}
use Rattle.mcode.specs.Walk.{cause_at, Reached}
use Rattle.mcode.specs.declared.Module.{Module}
use Rattle.mcode.specs.declared.Program.{Program}
use Rattle.mcode.specs.declared.Cause.{Cause}
use Rattle.explain.specs.declared.shown.Note.{Note}
use Rattle.explain.specs.declared.shown.Note.TheVariants.{Fault}

-- what is noted of a position that is reached
abbrev pub note_of : Option Cause → Option Note
note_of None = None
note_of (Some cause) = Some (Fault cause)

-- the mark of a position that is reached, where no depth was found: no encoding, and not the number of an unmarked one
abbrev pub no_depth : ℕ
no_depth = 0xffff_fffe

abbrev pub depth_mark : ℕ → ℕ
depth_mark x = pick (eqb x unmarked) no_depth x

-- a position that is not reached has no mark, and one that is reached, which `seen` marks, its mark and its cause
abbrev pub Noted : List ℕ → Program → Module → ℕ → ℕ → List ℕ → List (Option Note) → List ℕ → List (Option Note) → Type 0
Noted image program m p seen map notes map' notes' =
    ((seen ≡ unmarked) × (map' ≡ set map p unmarked) × (notes' ≡ set notes p None))
    ⊎ ((seen ≡ unmarked → ⊥) × (map' ≡ set map p (depth_mark (get_or map p 0))) × (notes' ≡ set notes p (note_of (cause_at image program m p))))

-- position p with its mark x and what is noted of it
abbrev pub Shown : List ℕ → Program → Module → ℕ → ℕ → Option Note → Type 0
Shown image program m p x note =
    ((Reached image m p → ⊥) × (x ≡ unmarked) × (note ≡ None))
    ⊎ (Reached image m p × (x ≡ unmarked → ⊥) × (note ≡ note_of (cause_at image program m p)))

abbrev pub AllShown : List ℕ → Program → Module → List ℕ → List (Option Note) → Type 0
AllShown image program m map notes = (p : ℕ) → p < m.length → Shown image program m p (get_or map p 0) (get_or notes p None)

-- of module k of an image that was read, where the parts are as long as its code
abbrev pub ShownOf : List ℕ → ℕ → List ℕ → List (Option Note) → Type 0
ShownOf image k map notes =
    (parse image).refusal ≡ 0 → k < (parse image).program.count
    → length map ≡ (module_of (parse image).program k).length → length notes ≡ (module_of (parse image).program k).length
    → AllShown image (parse image).program (module_of (parse image).program k) map notes
