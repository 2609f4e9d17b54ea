-- The search over the settings, in their order.
use Rattle.std.proofs.Common.{rules, tests, sym, ap, ◌∙◌}
use Rattle.std.proofs.lemmas.Iterator.{YieldsList-from_slice}
use Rattle.std.proofs.lemmas.Iterator.Adapters.{option_map_id}
use Rattle.std.proofs.lemmas.Iterator.Consumers.{YieldsList-from_copied}
use Rattle.std.proofs.lemmas.Iterator.Search.{find_from_yields_List}
use Rattle.std.specs.Slice.Iter.{iter_rest}
use Rattle.std.specs.Str.{bytes_eq}
use Rattle.console.specs.Choices.{called, all_settings, flag_of}
use Rattle.console.proofs.options.Setting.called.Goals as goal

pub returns : goal.returns
unfolding called
returns c =
    let all = YieldsList-from_copied {s = c.copied.result} {ys = all_settings} (YieldsList-from_slice all_settings (ap iter_rest c.copied.ensures.source ∙ c.iter.ensures.rest)) in
    sym (option_map_id _) ∙ find_from_yields_List (λ s. bytes_eq c.args.text.now (flag_of s)) _ _ _ c.find.ensures.ran all (λ x b q k. search (rules, tests))
