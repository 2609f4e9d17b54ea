-- The lines that may be taken, as words: the requests, the mask and the word that holds them off.
use Rattle.std.specs.Prelude.{Bool, not, ℕ}
use Rattle.mcode.specs.Word.{and, or, bit}

-- line i is in the requests w, not in M, which is m, and not in store word 3, which is v
abbrev pub is_free : ℕ → ℕ → ℕ → ℕ → Bool
is_free w m v i = and (bit w i) (not (or (bit m i) (bit v i)))
