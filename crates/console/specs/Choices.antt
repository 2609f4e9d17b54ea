-- What the arguments of a reading ask. Assumes nothing.
use Rattle.std.specs.Prelude.{ℕ, ◌^◌, Bool, false, List, [], ◌∷◌, Option, Some, None, eqb, leb, ltb, length, get_or, set, replicate}
use Rattle.std.specs.Int.Bits.{bit_or}
use Rattle.std.specs.List.{find, position_or_len, before_first, after_first}
use Rattle.std.specs.Str.{bytes_eq}
use Rattle.mcode.specs.Word.{pick, and, bit}
use Rattle.console.specs.Decimals.{number_of}
use Rattle.console.specs.declared.options.Options.{Options}
use Rattle.console.specs.declared.options.Setting.{Setting}
use Rattle.console.specs.declared.options.Setting.TheVariants.{Steps as StepsSetting, Store as StoreSetting, Input as InputSetting, Requests as RequestsSetting, Line as LineSetting, After as AfterSetting}
use Rattle.console.specs.declared.options.Argument.{Argument}
use Rattle.console.specs.declared.options.Argument.TheVariants.{Help, Named, Unknown, File}
use Rattle.console.specs.declared.options.Choice.{Choice}
use Rattle.console.specs.declared.options.Choice.TheVariants.{Steps, Store, Input, Requests, Line, After}

-- "W = 4,096, inputs 0, outputs first 0, n = 1,000"; of the requests "The desk program gives 0"
abbrev pub default_options : Options
default_options = record { steps = 1000; store = 4096; inputs = replicate 16 0; given = 0; requests = 0; after = 0 }

-- `--help`, `-h`, `--steps`, `--store`, `--input`, `--requests`, `--line`, `--after` in ASCII
abbrev pub help_text : List ℕ
help_text = 45 ∷ 45 ∷ 104 ∷ 101 ∷ 108 ∷ 112 ∷ []

abbrev pub short_help_text : List ℕ
short_help_text = 45 ∷ 104 ∷ []

abbrev pub steps_text : List ℕ
steps_text = 45 ∷ 45 ∷ 115 ∷ 116 ∷ 101 ∷ 112 ∷ 115 ∷ []

abbrev pub store_text : List ℕ
store_text = 45 ∷ 45 ∷ 115 ∷ 116 ∷ 111 ∷ 114 ∷ 101 ∷ []

abbrev pub input_text : List ℕ
input_text = 45 ∷ 45 ∷ 105 ∷ 110 ∷ 112 ∷ 117 ∷ 116 ∷ []

abbrev pub requests_text : List ℕ
requests_text = 45 ∷ 45 ∷ 114 ∷ 101 ∷ 113 ∷ 117 ∷ 101 ∷ 115 ∷ 116 ∷ 115 ∷ []

abbrev pub line_text : List ℕ
line_text = 45 ∷ 45 ∷ 108 ∷ 105 ∷ 110 ∷ 101 ∷ []

abbrev pub after_text : List ℕ
after_text = 45 ∷ 45 ∷ 97 ∷ 102 ∷ 116 ∷ 101 ∷ 114 ∷ []

abbrev pub flag_of : Setting → List ℕ
flag_of StepsSetting = steps_text
flag_of StoreSetting = store_text
flag_of InputSetting = input_text
flag_of RequestsSetting = requests_text
flag_of LineSetting = line_text
flag_of AfterSetting = after_text

abbrev pub all_settings : List Setting
all_settings = StepsSetting ∷ StoreSetting ∷ InputSetting ∷ RequestsSetting ∷ LineSetting ∷ AfterSetting ∷ []

-- the option that is called so
unfoldable pub called : List ℕ → Option Setting
called text = find (λ s. bytes_eq text (flag_of s)) all_settings

-- `=`
abbrev pub is_equals : ℕ → Bool
is_equals c = eqb c 61

-- NAME=VALUE, split at the first `=`: what stands before it, all of the text where there is none; whether there is one; and what stands
-- after it, nothing where there is none
abbrev pub name_of : List ℕ → List ℕ
name_of text = before_first is_equals text

abbrev pub has_value : List ℕ → Bool
has_value text = ltb (position_or_len is_equals text) (length text)

abbrev pub value_of : List ℕ → List ℕ
value_of text = after_first is_equals text

-- An option that takes a value may have it in its own argument, `--steps=5`; help takes none. Another text that begins with `-` and has
-- more than that is no file.
abbrev pub kind_by : Option Setting → List ℕ → Argument
kind_by (Some setting) text = Named setting
kind_by None text = pick (ltb (length text) 2) File (pick (eqb (get_or text 0 0) 45) Unknown File)

unfoldable pub kind_of : List ℕ → Argument
kind_of text = pick (bytes_eq text help_text) Help (pick (bytes_eq text short_help_text) Help (kind_by (called (name_of text)) text))

-- a number up to the most
abbrev pub up_to : ℕ → Option ℕ → Option ℕ
up_to most (Some n) = pick (leb n most) (Some n) None
up_to most None = None

abbrev pub steps_from : Option ℕ → Option Choice
steps_from (Some n) = Some (Steps n)
steps_from None = None

abbrev pub steps_of : List ℕ → Option Choice
steps_of text = steps_from (number_of text)

abbrev pub store_from : Option ℕ → Option Choice
store_from (Some n) = pick (leb n 65536) (Some (Store n)) None
store_from None = None

abbrev pub store_of : List ℕ → Option Choice
store_of text = store_from (number_of text)

abbrev pub wired : Option ℕ → Option ℕ → Option Choice
wired (Some c) (Some v) = pick (and (leb c 15) (leb v 65535)) (Some (Input c v)) None
wired (Some c) None = None
wired None v = None

abbrev pub input_from : List ℕ → List ℕ → Option Choice
input_from channel value = wired (number_of channel) (number_of value)

-- CH=VALUE
abbrev pub input_of : List ℕ → Option Choice
input_of text = pick (has_value text) (input_from (name_of text) (value_of text)) None

abbrev pub requests_from : Option ℕ → Option Choice
requests_from (Some n) = pick (leb n 65535) (Some (Requests n)) None
requests_from None = None

abbrev pub requests_of : List ℕ → Option Choice
requests_of text = requests_from (number_of text)

abbrev pub line_from : Option ℕ → Option Choice
line_from (Some n) = pick (and (leb 8 n) (leb n 15)) (Some (Line n)) None
line_from None = None

abbrev pub line_choice : List ℕ → Option Choice
line_choice text = line_from (number_of text)

abbrev pub after_from : Option ℕ → Option Choice
after_from (Some n) = Some (After n)
after_from None = None

abbrev pub after_of : List ℕ → Option Choice
after_of text = after_from (number_of text)

-- what the value of an option says
abbrev pub choice_of : Setting → List ℕ → Option Choice
choice_of StepsSetting text = steps_of text
choice_of StoreSetting text = store_of text
choice_of InputSetting text = input_of text
choice_of RequestsSetting text = requests_of text
choice_of LineSetting text = line_choice text
choice_of AfterSetting text = after_of text

-- line i stands in bit i of the word of requests, input channel i in bit i of the word of those given: a word has 16
abbrev pub bit_weight : ℕ → ℕ
bit_weight i = pick (ltb i 16) (2 ^ i) 0

abbrev pub bit_at : ℕ → ℕ → Bool
bit_at w i = pick (ltb i 16) (bit w i) false

-- the bits of a word, united with the requests so far
abbrev pub with_requests : Options → ℕ → Options
with_requests o w = record { steps = o.steps; store = o.store; inputs = o.inputs; given = o.given; requests = bit_or o.requests w; after = o.after }

-- the field that a choice sets, to what it says; a later one wins. Requests and lines are united, and so are the channels that are given.
abbrev pub with_choice : Options → Choice → Options
with_choice o (Steps n) = record { steps = n; store = o.store; inputs = o.inputs; given = o.given; requests = o.requests; after = o.after }
with_choice o (Store w) = record { steps = o.steps; store = w; inputs = o.inputs; given = o.given; requests = o.requests; after = o.after }
with_choice o (Input c v) = record { steps = o.steps; store = o.store; inputs = set o.inputs c v; given = bit_or o.given (bit_weight c); requests = o.requests; after = o.after }
with_choice o (Requests w) = with_requests o w
with_choice o (Line i) = with_requests o (bit_weight i)
with_choice o (After n) = record { steps = o.steps; store = o.store; inputs = o.inputs; given = o.given; requests = o.requests; after = n }

-- the requests come after so many steps: all of them where there are none
abbrev pub quiet_steps : Options → ℕ
quiet_steps o = pick (eqb o.requests 0) o.steps (pick (ltb o.steps o.after) o.steps o.after)
