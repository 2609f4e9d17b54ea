-- Frames in the store and in the registers.
use Rattle.std.specs.Prelude.{List, ℕ, ◌+◌, ◌≤◌, ◌<◌, set}
use Rattle.mcode.specs.Machine.{address}
use Rattle.mcode.specs.declared.Address.{Address}
use Rattle.actions.specs.declared.Core.{Core}
use Rattle.actions.specs.Table.{module_in}
use Rattle.control.specs.Table.{count_in}

-- what a machine has, with a store of w words: "S <= H, H + 24 <= W, P + 8 <= W", a loaded module and a depth up to 16; and
-- "W over 65,535" was refused
pub record Framed (table : List ℕ) (w : ℕ) (r : Core) : Type 0 where
  pub loaded : r.unit < count_in table
  pub most : r.depth ≤ 16
  pub low : r.s.0 ≤ r.h.0
  pub high : r.h.0 + 24 ≤ w
  pub proc : r.p.0 + 8 ≤ w
  pub short : w ≤ 65535

-- what a save asks of it
abbrev pub Roomy : ℕ → Core → Type 0
Roomy w r = (r.s.0 ≤ r.h.0) × (r.h.0 + 24 ≤ w) × (r.p.0 + 8 ≤ w) × (w ≤ 65535)

-- the registers at a place of the image and a depth, in the module of this start, number and base, with this frame
abbrev pub placed : ℕ → ℕ → Address → ℕ → ℕ → ℕ → ℕ → Core → Core
placed start unit g to d l s r = record { pc = to; depth = d; start = start; unit = unit; g = g; l = address l; s = address s; h = r.h; p = r.p; mask = r.mask }

-- in the module of the registers
abbrev pub in_frame : ℕ → ℕ → ℕ → ℕ → Core → Core
in_frame to d l s r = placed r.start r.unit r.g to d l s r

-- at a position of module k, at the depth of the registers
abbrev pub in_module : List ℕ → ℕ → ℕ → ℕ → ℕ → Core → Core
in_module table k at l s r = placed (module_in table k).code k (address (module_in table k).base) ((module_in table k).code + at) r.depth l s r

-- the three words of a frame
abbrev pub frame : List ℕ → ℕ → ℕ → ℕ → ℕ → List ℕ
frame store s link l mark = set (set (set store s link) (s + 1) l) (s + 2) mark
