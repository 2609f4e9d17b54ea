-- Unsigned results in 64 bits, where the sum and the product of two words fit.
use Rattle.std.specs.Prelude.{ℕ, ◌+◌, ◌-◌, ◌%◌}

-- c less a: a difference below 0 goes round, and lies far above the words
abbrev pub wide_difference : ℕ → ℕ → ℕ
wide_difference c a = (c + (0x1_0000_0000_0000_0000 - a)) % 0x1_0000_0000_0000_0000
