-- The bytes are a text, and its last two the digits of the number.
use Rattle.std.proofs.Common.{◌≡◌, ℕ, List, [], ◌∷◌, ◌++◌, ◌+◌, ◌/◌, ◌%◌, Bor, Result, Ok, Err, MatchResult, codes, refl, sym, ap, ◌∙◌, arith}
use Rattle.std.proofs.Math.Utf8.{encode}
use Rattle.std.proofs.lemmas.Fmt.{decimal_digit, decimal_step}
use Rattle.std.specs.Result.{result_unwrap_or}
use Rattle.std.specs.Fmt.{decimal}
use Rattle.std.specs.Str.{IsUtf8}
use Rattle.mcode.specs.Image.{most_modules}
use Rattle.console.proofs.words.module_count.Goals as goal

abbrev bytes : List ℕ
bytes = codes "module count 0 or over " ++ (48 + most_modules / 10) ∷ (48 + most_modules % 10) ∷ []

is_text : IsUtf8 bytes
unfolding encode
is_text = (bytes, (refl, refl))

two-digits : decimal most_modules ≡ (48 + most_modules / 10) ∷ (48 + most_modules % 10) ∷ []
two-digits = decimal_step most_modules (omega arith) (omega arith) ∙ ap (λ (t : List ℕ). t ++ (48 + most_modules % 10) ∷ []) (decimal_digit (most_modules / 10) (omega arith))

text_of : {E : Type 0} (r : Result (Bor (List ℕ)) E) (none : Bor (List ℕ)) (bs : List ℕ) (Q : E → Type 0) → IsUtf8 bs
    → MatchResult r (λ s. (s.now ≡ bs) × IsUtf8 bs) (λ e. (IsUtf8 bs → ⊥) × Q e) → (result_unwrap_or r none).now ≡ bs
text_of (Ok s) none bs Q u m = m.0
text_of (Err e) none bs Q u m = absurd (m.0 u)

pub returns : goal.returns
returns c =
    ap (λ (s : Bor (List ℕ)). s.now) c.unwrap_or.ensures
    ∙ text_of _ _ bytes _ is_text c.from_utf8.ensures.cases
    ∙ ap (λ (t : List ℕ). codes "module count 0 or over " ++ t) (sym two-digits)
