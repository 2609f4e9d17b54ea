-- What --vary takes: CH=V1,V2,.., a channel and values with commas between them. Assumes nothing.
use Rattle.std.specs.Prelude.{ℕ, Bool, List, [], ◌∷◌, Option, Some, None, eqb, leb, is_some}
use Rattle.std.specs.List.{list_all, slice_split}
use Rattle.mcode.specs.Word.{pick, and}
use Rattle.console.specs.Choices.{up_to, name_of, value_of}
use Rattle.console.specs.Decimals.{number_of}

-- a value: 0 to 65,535
abbrev pub word_of : List ℕ → Option ℕ
word_of text = up_to 65535 (number_of text)

-- `,`
abbrev pub is_comma : ℕ → Bool
is_comma c = eqb c 44

-- values with a comma between two
unfoldable pub are_words : List ℕ → Bool
are_words list = list_all (λ text. is_some (word_of text)) (slice_split is_comma list)

-- the channel, 0 to 15, where its values are good
abbrev pub channel_by : Option ℕ → List ℕ → Option ℕ
channel_by (Some c) list = pick (and (leb c 15) (are_words list)) (Some c) None
channel_by None list = None

abbrev pub channel_of : List ℕ → Option ℕ
channel_of text = channel_by (number_of (name_of text)) (value_of text)

-- `--vary`
abbrev pub vary_text : List ℕ
vary_text = 45 ∷ 45 ∷ 118 ∷ 97 ∷ 114 ∷ 121 ∷ []
