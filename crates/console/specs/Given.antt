-- What an argument is behind the ones before it, beside the options of all programs. Assumes nothing.
use Rattle.std.specs.Prelude.{◌≡◌, ℕ, Bool, true, false, not, List, Option, Some, None}
use Rattle.std.specs.Str.{bytes_eq}
use Rattle.mcode.specs.Word.{pick, and}
use Rattle.console.specs.declared.options.Argument.{Argument}
use Rattle.console.specs.declared.options.Argument.TheVariants.{Help, Named, Unknown, File}
use Rattle.console.specs.declared.given.Given.{Given}
use Rattle.console.specs.declared.given.Given.TheVariants.{File as FileGiven, Own as OwnGiven}
use Rattle.console.specs.declared.given.Next.{Next}
use Rattle.console.specs.declared.given.Next.TheVariants.{Any, Value, Own}
use Rattle.console.specs.Choices.{kind_of, name_of, has_value, value_of}

abbrev pub is_file : Argument → Bool
is_file File = true
is_file Help = false
is_file (Named setting) = false
is_file Unknown = false

-- it is a file: no value, and no option, the program's own one too
abbrev pub gives_file : Next → List ℕ → List ℕ → Bool
gives_file Any own text = and (not (bytes_eq (name_of text) own)) (is_file (kind_of text))
gives_file Value own text = false
gives_file Own own text = false

-- it has or is a value of the program's own option
abbrev pub gives_own : Next → List ℕ → List ℕ → Bool
gives_own Any own text = and (bytes_eq (name_of text) own) (has_value text)
gives_own Value own text = false
gives_own Own own text = true

abbrev pub own_value : Next → List ℕ → List ℕ
own_value Any text = value_of text
own_value Value text = value_of text
own_value Own text = text

abbrev pub IsGiven : Next → List ℕ → List ℕ → Option Given → Type 0
IsGiven next own text None = (gives_file next own text ≡ false) × (gives_own next own text ≡ false)
IsGiven next own text (Some (FileGiven v)) = (gives_file next own text ≡ true) × (v.now ≡ text)
IsGiven next own text (Some (OwnGiven v)) = (gives_own next own text ≡ true) × (v.now ≡ own_value next text)

-- what the next one is: an option without its value has it next
abbrev pub option_next : Next → List ℕ → Next
option_next value text = pick (has_value text) Any value

abbrev pub next_of : Next → List ℕ → List ℕ → Next
next_of Any own text = pick (bytes_eq (name_of text) own) (option_next Own text) (pick (is_file (kind_of text)) Any (option_next Value text))
next_of Value own text = Any
next_of Own own text = Any
