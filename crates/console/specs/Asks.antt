-- What the arguments of a program ask together, one after another. Assumes nothing.
use Rattle.std.specs.Prelude.{◌≡◌, ℕ, Bool, true, false, not, List, Option, Some, None, Result, Ok, Err, is_some}
use Rattle.std.specs.Str.{bytes_eq}
use Rattle.mcode.specs.Word.{pick, and}
use Rattle.console.specs.declared.options.Options.{Options}
use Rattle.console.specs.declared.options.Setting.{Setting}
use Rattle.console.specs.declared.options.Argument.{Argument}
use Rattle.console.specs.declared.options.Argument.TheVariants.{Help as HelpNamed, Named, Unknown, File}
use Rattle.console.specs.declared.options.Choice.{Choice}
use Rattle.console.specs.declared.arguments.Files.{Files}
use Rattle.console.specs.declared.arguments.Files.TheVariants.{No, One, Several}
use Rattle.console.specs.declared.arguments.Ended.{Ended}
use Rattle.console.specs.declared.arguments.Ended.TheVariants.{Help, Bad}
use Rattle.console.specs.declared.arguments.Asked.{Asked}
use Rattle.console.specs.declared.arguments.Part.{Part}
use Rattle.console.specs.declared.arguments.Part.TheVariants.{Flag, Value, Other}
use Rattle.console.specs.Choices.{default_options, kind_of, name_of, has_value, value_of, choice_of, with_choice}

-- what is asked so far, or what ended it: a call for help ends it, and a bad argument does
abbrev pub Asking : Type 0
Asking = Result Asked Ended

abbrev pub goes_on : Options → Files → Option Setting → Asking
goes_on options files awaited = Ok (record { options = options; files = files; awaited = awaited })

abbrev pub nothing_asked : Asked
nothing_asked = record { options = default_options; files = No; awaited = None }

-- no file, one, or several
abbrev pub one_more : Files → Files
one_more No = One
one_more One = Several
one_more Several = Several

-- an argument that is no value
abbrev pub kind_says : Asked → Argument → Asking
kind_says a HelpNamed = Err Help
kind_says a (Named setting) = goes_on a.options a.files (Some setting)
kind_says a Unknown = Err Bad
kind_says a File = goes_on a.options (one_more a.files) None

abbrev pub name_says : Asked → List ℕ → Asking
name_says a text = kind_says a (kind_of text)

-- the value of an option: the options with that choice
abbrev pub with_value : Asked → Option Choice → Asking
with_value a (Some choice) = goes_on (with_choice a.options choice) a.files None
with_value a None = Err Bad

abbrev pub value_by : Option Setting → Asked → List ℕ → Asking
value_by None a text = Ok a
value_by (Some setting) a text = with_value a (choice_of setting text)

-- the value of the option that awaits one
abbrev pub value_says : Asked → List ℕ → Asking
value_says a text = value_by a.awaited a text

-- `--steps=5` says what `--steps` and then `5` say; the `=` in the name of a file says nothing
abbrev pub then_value : Asking → List ℕ → Asking
then_value (Ok a) text = value_says a text
then_value (Err e) text = Err e

abbrev pub word_says : Asked → List ℕ → Asking
word_says a text = pick (has_value text) (then_value (name_says a text) (value_of text)) (name_says a text)

-- one argument more: where an option awaits its value, that is it
abbrev pub text_by : Option Setting → Asked → List ℕ → Asking
text_by None a text = word_says a text
text_by (Some setting) a text = value_says a text

abbrev pub text_says : Asked → List ℕ → Asking
text_says a text = text_by a.awaited a text

-- one more behind those that are asked, which something may have ended
abbrev pub then_text : Asking → List ℕ → Asking
then_text (Ok a) text = text_says a text
then_text (Err e) text = Err e

-- after the last argument no option may still await its value
abbrev pub whole_by : Option Setting → Asked → Asking
whole_by None a = Ok a
whole_by (Some setting) a = Err Bad

abbrev pub whole_of : Asked → Asking
whole_of a = whole_by a.awaited a

-- whether an argument that is no value of the program's own option names it, by its flag: it does not where another option awaits its value
abbrev pub names_own : List ℕ → Asked → List ℕ → Bool
names_own flag a text = and (not (is_some a.awaited)) (bytes_eq (name_of text) flag)

-- what an argument is to that option, whose value it is where `is_value`: else its name, alone or with the value, or something else
abbrev pub IsPart : List ℕ → Asked → Bool → List ℕ → Part → Type 0
IsPart flag a is_value text Flag = (is_value ≡ false) × (names_own flag a text ≡ true) × (has_value text ≡ false)
IsPart flag a true text (Value v) = v.now ≡ text
IsPart flag a false text (Value v) = (names_own flag a text ≡ true) × (has_value text ≡ true) × (v.now ≡ value_of text)
IsPart flag a is_value text Other = (is_value ≡ false) × (names_own flag a text ≡ false)
