-- The search over the modules.
use Rattle.std.proofs.Common.{rules, tests, refl, sym, ◌∙◌, arith}
use Rattle.std.proofs.lemmas.Iterator.{YieldsList-from_range}
use Rattle.std.proofs.lemmas.Iterator.Adapters.{option_map_id}
use Rattle.std.proofs.lemmas.Iterator.Search.{find_from_yields_List}
use Rattle.console.specs.Caught.{is_base, based_on}
use Rattle.console.proofs.caught.based_on.Goals as goal

pub returns-clause-found : goal.returns-clause-found
unfolding based_on
returns-clause-found c = sym (option_map_id _) ∙ find_from_yields_List (is_base c.args.store.now c.args.g) _ _ _ c.find.ensures.ran (YieldsList-from_range 0 c.args.count c.args.count refl (omega arith)) (λ x b q k. search (rules, tests))
