-- Worked cases of the definitions of Decimals, Choices and Asks, by computing. Assumes nothing.
use mathlib.Core.Path.{◌≡◌, refl}
use mathlib.Core.List.{List, [], ◌∷◌}
use Prim.Native.Nat.{ℕ}
use lib.ListN.{set, replicate}
use Rattle.std.proofs.Common.{Some, None, Ok, Err}
use Rattle.console.specs.declared.options.Choice.TheVariants.{Input, Store, Requests, Line, After}
use Rattle.console.specs.declared.options.Argument.TheVariants.{Help, Unknown, File}
use Rattle.console.specs.declared.options.Setting.TheVariants.{Steps}
use Rattle.console.specs.declared.arguments.Files.TheVariants.{No}
use Rattle.console.specs.declared.arguments.Ended.TheVariants.{Bad}
use Rattle.console.specs.declared.arguments.Asked.{Asked}
use Rattle.console.specs.Decimals.{all_digits, value_from, number_from, number_of}
use Rattle.console.specs.Choices.{called, kind_of, input_of, store_of, requests_of, line_choice, after_of}
use Rattle.console.specs.Asks.{nothing_asked, goes_on, then_text, text_says}

-- `4294967295` and `4294967296`
pub largest-number : number_of (52 ∷ 50 ∷ 57 ∷ 52 ∷ 57 ∷ 54 ∷ 55 ∷ 50 ∷ 57 ∷ 53 ∷ []) ≡ Some 4294967295
unfolding number_of number_from all_digits value_from
largest-number = refl

pub larger-number : number_of (52 ∷ 50 ∷ 57 ∷ 52 ∷ 57 ∷ 54 ∷ 55 ∷ 50 ∷ 57 ∷ 54 ∷ []) ≡ None
unfolding number_of number_from all_digits value_from
larger-number = refl

-- `007`, `1x` and nothing
pub leading_zeros : number_of (48 ∷ 48 ∷ 55 ∷ []) ≡ Some 7
unfolding number_of number_from all_digits value_from
leading_zeros = refl

pub another-character : number_of (49 ∷ 120 ∷ []) ≡ None
unfolding number_of number_from all_digits value_from
another-character = refl

pub no_number : number_of [] ≡ None
unfolding number_of
no_number = refl

-- `65536` and `65537`
pub largest-store : store_of (54 ∷ 53 ∷ 53 ∷ 51 ∷ 54 ∷ []) ≡ Some (Store 65536)
unfolding number_of number_from all_digits value_from
largest-store = refl

pub larger-store : store_of (54 ∷ 53 ∷ 53 ∷ 51 ∷ 55 ∷ []) ≡ None
unfolding number_of number_from all_digits value_from
larger-store = refl

-- `65535` and `65536`
pub largest-requests : requests_of (54 ∷ 53 ∷ 53 ∷ 51 ∷ 53 ∷ []) ≡ Some (Requests 65535)
unfolding number_of number_from all_digits value_from
largest-requests = refl

pub larger-requests : requests_of (54 ∷ 53 ∷ 53 ∷ 51 ∷ 54 ∷ []) ≡ None
unfolding number_of number_from all_digits value_from
larger-requests = refl

-- `7`, `8`, `15` and `16`
pub below-lines : line_choice (55 ∷ []) ≡ None
unfolding number_of number_from all_digits value_from
below-lines = refl

pub first-line : line_choice (56 ∷ []) ≡ Some (Line 8)
unfolding number_of number_from all_digits value_from
first-line = refl

pub last_line : line_choice (49 ∷ 53 ∷ []) ≡ Some (Line 15)
unfolding number_of number_from all_digits value_from
last_line = refl

pub above-lines : line_choice (49 ∷ 54 ∷ []) ≡ None
unfolding number_of number_from all_digits value_from
above-lines = refl

-- `4294967295` and `4294967296`
pub largest-after : after_of (52 ∷ 50 ∷ 57 ∷ 52 ∷ 57 ∷ 54 ∷ 55 ∷ 50 ∷ 57 ∷ 53 ∷ []) ≡ Some (After 4294967295)
unfolding number_of number_from all_digits value_from
largest-after = refl

pub larger-after : after_of (52 ∷ 50 ∷ 57 ∷ 52 ∷ 57 ∷ 54 ∷ 55 ∷ 50 ∷ 57 ∷ 54 ∷ []) ≡ None
unfolding number_of number_from all_digits value_from
larger-after = refl

-- `15=9`, `16=9`, `3` and `3=1=2`
pub last-channel : input_of (49 ∷ 53 ∷ 61 ∷ 57 ∷ []) ≡ Some (Input 15 9)
unfolding number_of number_from all_digits value_from
last-channel = refl

pub no-channel : input_of (49 ∷ 54 ∷ 61 ∷ 57 ∷ []) ≡ None
unfolding number_of number_from all_digits value_from
no-channel = refl

pub no_value : input_of (51 ∷ []) ≡ None
unfolding number_of number_from all_digits value_from
no_value = refl

pub two-values : input_of (51 ∷ 61 ∷ 49 ∷ 61 ∷ 50 ∷ []) ≡ None
unfolding number_of number_from all_digits value_from
two-values = refl

-- `-h`, `--help=3`, `a=b` and `-=b`
pub short-help : kind_of (45 ∷ 104 ∷ []) ≡ Help
unfolding kind_of called
short-help = refl

pub help-with-value : kind_of (45 ∷ 45 ∷ 104 ∷ 101 ∷ 108 ∷ 112 ∷ 61 ∷ 51 ∷ []) ≡ Unknown
unfolding kind_of called
help-with-value = refl

pub file-with-equals : kind_of (97 ∷ 61 ∷ 98 ∷ []) ≡ File
unfolding kind_of called
file-with-equals = refl

pub dash-with-equals : kind_of (45 ∷ 61 ∷ 98 ∷ []) ≡ Unknown
unfolding kind_of called
dash-with-equals = refl

-- `--steps=5`, `--steps=` and `--steps`
pub value-with-name : text_says nothing_asked (45 ∷ 45 ∷ 115 ∷ 116 ∷ 101 ∷ 112 ∷ 115 ∷ 61 ∷ 53 ∷ []) ≡ goes_on (record { steps = 5; store = 4096; inputs = replicate 16 0; given = 0; requests = 0; after = 0 }) No None
unfolding kind_of called number_of number_from all_digits value_from
value-with-name = refl

pub empty-value : text_says nothing_asked (45 ∷ 45 ∷ 115 ∷ 116 ∷ 101 ∷ 112 ∷ 115 ∷ 61 ∷ []) ≡ Err Bad
unfolding kind_of called number_of number_from all_digits value_from
empty-value = refl

pub value-to-come : text_says nothing_asked (45 ∷ 45 ∷ 115 ∷ 116 ∷ 101 ∷ 112 ∷ 115 ∷ []) ≡ goes_on nothing_asked.options No (Some Steps)
unfolding kind_of called number_of number_from all_digits value_from
value-to-come = refl

-- `--input=3=7`: channel 3 is given, bit 3 of the word, and stays so behind `--input=0=0`, which gives channel 0
abbrev cell_text : List ℕ
cell_text = 45 ∷ 45 ∷ 105 ∷ 110 ∷ 112 ∷ 117 ∷ 116 ∷ 61 ∷ 51 ∷ 61 ∷ 55 ∷ []

abbrev zero_text : List ℕ
zero_text = 45 ∷ 45 ∷ 105 ∷ 110 ∷ 112 ∷ 117 ∷ 116 ∷ 61 ∷ 48 ∷ 61 ∷ 48 ∷ []

abbrev with_inputs : List ℕ → ℕ → Asked
with_inputs inputs w = record { options = record { steps = 1000; store = 4096; inputs = inputs; given = w; requests = 0; after = 0 }; files = No; awaited = None }

pub input-given : text_says nothing_asked cell_text ≡ Ok (with_inputs (set (replicate 16 0) 3 7) 8)
unfolding kind_of called number_of number_from all_digits value_from
input-given = refl

pub zero-given : then_text (text_says nothing_asked cell_text) zero_text ≡ Ok (with_inputs (set (replicate 16 0) 3 7) 9)
unfolding kind_of called number_of number_from all_digits value_from
zero-given = refl

-- `--requests=257` and `--line=15`, in both orders, and `--line=8` that is in the word already: 32768 + 256 + 1
abbrev word_text : List ℕ
word_text = 45 ∷ 45 ∷ 114 ∷ 101 ∷ 113 ∷ 117 ∷ 101 ∷ 115 ∷ 116 ∷ 115 ∷ 61 ∷ 50 ∷ 53 ∷ 55 ∷ []

abbrev last_text : List ℕ
last_text = 45 ∷ 45 ∷ 108 ∷ 105 ∷ 110 ∷ 101 ∷ 61 ∷ 49 ∷ 53 ∷ []

abbrev first_text : List ℕ
first_text = 45 ∷ 45 ∷ 108 ∷ 105 ∷ 110 ∷ 101 ∷ 61 ∷ 56 ∷ []

abbrev comes_after : ℕ → ℕ → Asked
comes_after w n = record { options = record { steps = 1000; store = 4096; inputs = replicate 16 0; given = 0; requests = w; after = n }; files = No; awaited = None }

abbrev with_word : ℕ → Asked
with_word w = comes_after w 0

pub word-then-line : then_text (text_says nothing_asked word_text) last_text ≡ Ok (with_word 33025)
unfolding kind_of called number_of number_from all_digits value_from
word-then-line = refl

pub line-then-word : then_text (text_says nothing_asked last_text) word_text ≡ Ok (with_word 33025)
unfolding kind_of called number_of number_from all_digits value_from
line-then-word = refl

pub line-again : text_says (with_word 33025) first_text ≡ Ok (with_word 33025)
unfolding kind_of called number_of number_from all_digits value_from
line-again = refl

-- `--after=7` and `--after=9`, the later one wins; `--line=15` keeps it
abbrev soon_text : List ℕ
soon_text = 45 ∷ 45 ∷ 97 ∷ 102 ∷ 116 ∷ 101 ∷ 114 ∷ 61 ∷ 55 ∷ []

abbrev late_text : List ℕ
late_text = 45 ∷ 45 ∷ 97 ∷ 102 ∷ 116 ∷ 101 ∷ 114 ∷ 61 ∷ 57 ∷ []

pub later-after : then_text (text_says (with_word 257) soon_text) late_text ≡ Ok (comes_after 257 9)
unfolding kind_of called number_of number_from all_digits value_from
later-after = refl

pub line-keeps-after : text_says (comes_after 257 9) last_text ≡ Ok (comes_after 33025 9)
unfolding kind_of called number_of number_from all_digits value_from
line-keeps-after = refl
