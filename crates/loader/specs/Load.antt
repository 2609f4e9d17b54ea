-- What the check of all modules and the walk of all modules leave, by their answers.
use Rattle.std.specs.Prelude.{ℕ, ◌≡◌, ◌⊎◌, Bool, true, false, List, length, ltb}
use Rattle.mcode.specs.Word.{pick}
use Rattle.mcode.specs.Depths.{KeptPast, Accepted, Blanked, NoDepths}
use Rattle.mcode.specs.Walk.{AllWhole, Broken}
use Rattle.mcode.specs.Run.{Verdict, verdict, Judged, Loads}
use Rattle.mcode.specs.Answer.{refusal_number, refusal_verdict}
use Rattle.mcode.specs.declared.Program.{Program}
use Rattle.mcode.specs.declared.Refusal.{Refusal}

abbrev pub Checked : List ℕ → Program → List ℕ → Bool → List ℕ → Type 0
Checked image program before true after = Accepted image program before after
Checked image program before false after = NoDepths image program × KeptPast image before after

-- the code is not whole at the place that the answer names, or it is whole
abbrev pub Walked : List ℕ → Program → Verdict → Type 0
Walked image program v = ((v.number ≡ 13) × Broken image program v.unit v.pc.0) ⊎ ((v ≡ verdict 8) × AllWhole image program)

abbrev pub Refused : List ℕ → Program → List ℕ → Verdict → List ℕ → Type 0
Refused image program before v after = Walked image program v × Blanked image before after

-- what load answers and leaves of an image that was read to this program
abbrev pub LoadsProgram : List ℕ → Program → List ℕ → Verdict → List ℕ → Type 0
LoadsProgram image program before v after =
    pick (ltb (length before) (length image)) ((v ≡ verdict 7) × (after ≡ before)) (Judged image program before v after)

-- a later call's refusal: with 13 it has the module and the position that load names
abbrev pub LoadsPlace : List ℕ → List ℕ → List ℕ → Refusal → Type 0
LoadsPlace image before after k = refusal_number k ≡ 13 → Loads image before (refusal_verdict k) after
