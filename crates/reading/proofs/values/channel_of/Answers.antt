-- Without a value there are no words.
use Rattle.std.proofs.Common.{◌≡◌, ℕ, Bool, true, false, List, [], Option, Some, None, leb, refl, sym, ◌∙◌, arith}
use lib.ListN.{drop_of_length-le}
use borrow.Author.Tests.{ltb-false}
use Rattle.mcode.specs.Word.{and, pick}
use Rattle.console.specs.Choices.{has_value, value_of, name_of}
use Rattle.console.specs.Decimals.{number_of}
use Rattle.reading.specs.Values.{are_words, channel_by}
use Rattle.reading.proofs.values.channel_of.Goals as goal

wordless : are_words [] ≡ false
unfolding are_words number_of
wordless = refl

valueless : (text : List ℕ) → has_value text ≡ false → value_of text ≡ []
valueless text e = let l = ltb-false _ _ e in drop_of_length-le text (omega arith)

refused : (a b : Bool) (c : ℕ) → b ≡ false → pick (and a b) (Some c) None ≡ None
refused true b c e = rw e
refused false b c e = refl

none-by : (o : Option ℕ) (list : List ℕ) → are_words list ≡ false → channel_by o list ≡ None
none-by (Some c) list e = refused (leb c 15) (are_words list) c e
none-by None list e = refl

pub returns-in_err-value : goal.returns-in_err-value
returns-in_err-value c =
    let t = c.args.text.now in
    c.from_residual-in_err-value.ensures ∙ sym (none-by (number_of (name_of t)) (value_of t) (rw (valueless t c.in_err-value.ensures) wordless))
