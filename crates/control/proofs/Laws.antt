-- The bases of the lent numbers are the definition's, where the registers stay anchored, and places counted from a start. Assumes nothing.
use mathlib.Core.Path.{◌≡◌, refl, sym, ap, ◌∙◌}
use mathlib.Core.List.{List}
use Prim.Native.Nat.{ℕ, ◌+◌, ◌*◌, ◌-◌, ◌≤◌, ◌<◌}
use native.Mathlib.Omega.{arith}
use lib.ListN.{get_or, get_or-map}
use Rattle.mcode.specs.Image.{most_modules, bases_of, no_module, module_of}
use Rattle.mcode.specs.Depths.{entry, mark_at}
use Rattle.mcode.specs.Step.{Lent}
use Rattle.mcode.specs.declared.Module.{Module}
use Rattle.mcode.specs.declared.Program.{Program}
use Rattle.actions.specs.declared.Core.{Core}
use Rattle.actions.specs.Core.{Stays}
use Rattle.actions.specs.Table.{module_in, Tabled, Anchored, Based, Lends}
use Rattle.control.specs.Frames.{in_frame, in_module}

pub base-in : {table : List ℕ} {program : Program} → Tabled table program → (k : ℕ) → k < most_modules → get_or (bases_of program) k 0 ≡ get_or table (6 * k + 4) 0
base-in {table} {program} t k h = get_or-map (λ (m : Module). m.base) program.modules k no_module ∙ ap (λ (m : Module). m.base) (t.modules k h)

pub based : {table : List ℕ} {program : Program} {r : Core} → Tabled table program → Anchored table r → Based table r (bases_of program)
based {table} {program} {r} t a = record { own = base-in t r.unit a.few ∙ sym a.g; named = base-in t }

pub anchored-on : {table : List ℕ} {r q : Core} → Anchored table r → Stays r q → Anchored table q
anchored-on {table} {r} {q} a s = record { few = rw s.unit a.few; start = rw (s.unit, s.start) a.start; g = rw (s.unit, s.g) a.g; own = s.own a.own }

pub anchored-in : (table : List ℕ) (k at l s : ℕ) (r q : Core) → k < most_modules → q ≡ in_module table k at l s r → Anchored table q
anchored-in table k at l s r q h e = rw e (record { few = h; start = refl; g = refl; own = omega arith })

pub stays-framed : (to d l s : ℕ) (r q : Core) → r.start ≤ to → q ≡ in_frame to d l s r → Stays r q
stays-framed to d l s r q h e = rw e (record { start = refl; unit = refl; g = refl; own = λ o. h })

-- a place that is counted from a start: its position, and that it is not before it
pub from_start : (start at : ℕ) → start + at - start ≡ at
from_start start at = omega arith

pub after-start : (start at : ℕ) → start ≤ start + at
after-start start at = omega arith

-- the mark at the place of the registers is the definition's
pub mark-in : {bytes table marks words : List ℕ} {lent : Lent} {r : Core} → Lends bytes table marks words lent → Anchored table r
    → mark_at lent.map (module_of lent.program r.unit) (r.pc - r.start) ≡ entry marks r.pc
mark-in {table} {r} h a =
    let q : (module_in table r.unit).code + (r.pc - r.start) ≡ r.pc = omega (arith, a.start, a.own) in
    rw (h.map, h.tabled.modules r.unit a.few, q) refl
