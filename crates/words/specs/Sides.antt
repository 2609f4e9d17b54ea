-- The six comparisons of c to a by number: 8 is =, 9 /=, 10 <, 11 <=, 12 >, 13 >=.
use Rattle.std.specs.Prelude.{ℕ, ◌/◌, ◌%◌, ◌^◌, ◌==◌, nat_lt}
use Rattle.mcode.specs.Word.{pick}

-- their answers in bits 8 to 13 of one word: 10, 9, 11 hold of a lesser c, 8, 11, 13 of an equal one, 9, 12, 13 of a greater one
abbrev pub answers : ℕ → ℕ → ℕ
answers c a = pick (nat_lt c a) 0x0e00 (pick (c == a) 0x2900 0x3200)

-- comparison k: 1 if it holds, else 0
abbrev pub answer : ℕ → ℕ → ℕ → ℕ
answer k c a = answers c a / 2 ^ k % 2
