-- Each of the parts.
use Rattle.std.proofs.Common.{rules, tests, is_some}
use Rattle.std.proofs.lemmas.Iterator.Search.{all_from_yields_List}
use Rattle.std.proofs.lemmas.Iterator.Splits.{YieldsList-from_slice_split}
use Rattle.reading.specs.Values.{word_of, is_comma, are_words}
use Rattle.reading.proofs.values.are_words.Goals as goal

pub returns : goal.returns
unfolding are_words
returns c = all_from_yields_List (λ text. is_some (word_of text)) _ _ c.all.result c.all.ensures.ran
    (YieldsList-from_slice_split _ is_comma c.args.list.now c.split.ensures.rest c.split.ensures.done c.split.ensures.closure (λ x b q k. search (rules, tests)))
    (λ x b q k. search (rules, tests))
