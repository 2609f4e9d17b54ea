-- The name of a module that its image spells out.
use Rattle.std.specs.Prelude.{ℕ, ◌-◌, ◌/◌, ◌%◌, List, Option, None, Some, eqb}
use Rattle.mcode.specs.Word.{pick, slice, byte}
use Rattle.mcode.specs.declared.Module.{Module}

-- "Bit 2: name, 8 bytes not interpreted"
abbrev pub spelt_name : List ℕ → ℕ → Module → Option (List ℕ)
spelt_name image begin m = pick (eqb (byte image begin / 4 % 2) 1) (Some (slice image (m.table - 10) 8)) None
