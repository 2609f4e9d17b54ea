-- The words of refusals and stops, by their numbers. Assumes nothing.
use Rattle.std.specs.Prelude.{ℕ, ◌-◌, ltb, List, [], ◌∷◌, ◌++◌, get_or, codes, decimal}
use Rattle.mcode.specs.Word.{pick}
use Rattle.mcode.specs.Image.{most_modules}

abbrev pub no_refusal : List ℕ
no_refusal = codes "no such refusal"

-- of the paper's refusals, 1 to 14
abbrev pub refusal_words : ℕ → List ℕ
refusal_words n = get_or (
    no_refusal
    ∷ codes "image of 0 or over 65,535 bytes"
    ∷ (codes "module count 0 or over " ++ decimal most_modules)
    ∷ codes "image ends inside a part"
    ∷ codes "bytes after the last module"
    ∷ codes "bit 3 to 7 of a bit map"
    ∷ codes "a field out of range"
    ∷ codes "map shorter than image"
    ∷ codes "no depths fit the code, which is whole"
    ∷ codes "W below Z + 36 or over 65,535"
    ∷ codes "inputs or outputs not 16 words"
    ∷ codes "not a machine"
    ∷ codes "map does not fit"
    ∷ codes "the code is not whole"
    ∷ codes "output shorter than the form"
    ∷ []) n no_refusal

abbrev pub no_stop : List ℕ
no_stop = codes "no such stop"

-- of its stops, 30 to 40
abbrev pub stop_words : ℕ → List ℕ
stop_words n = pick (ltb n 30) no_stop (get_or (
    codes "spent"
    ∷ codes "ended"
    ∷ codes "address"
    ∷ codes "stack limit"
    ∷ codes "return mark"
    ∷ codes "process"
    ∷ codes "divisor"
    ∷ codes "result range"
    ∷ codes "check"
    ∷ codes "channel"
    ∷ codes "program"
    ∷ []) (n - 30) no_stop)
