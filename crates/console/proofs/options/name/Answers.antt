-- What stands before the first `=`, or all.
use Rattle.std.proofs.Common.{rules, tests, sym, ap, take}
use Rattle.std.proofs.lemmas.Iterator.{YieldsList-from_slice}
use Rattle.std.proofs.lemmas.Iterator.Search.{position_from_yields_List}
use borrow.Author.Tests.{ltb-false}
use lib.Seq.{take_all}
use Rattle.console.specs.Choices.{is_equals}
use Rattle.console.proofs.Texts.{found_at, found_none}
use Rattle.console.proofs.options.name.Goals as goal

pub returns-in-Some : goal.returns-in-Some
returns-in-Some c =
    let e = position_from_yields_List is_equals _ _ c.position.result c.position.ensures.ran (YieldsList-from_slice c.args.text.now c.iter.ensures.rest) (λ x b q k. search (rules, tests)) in
    ap (λ n. take n c.args.text.now) (found_at _ _ _ e c.in-Some.at c.in-Some.is).0

pub returns-in-None : goal.returns-in-None
returns-in-None c =
    let e = position_from_yields_List is_equals _ _ c.position.result c.position.ensures.ran (YieldsList-from_slice c.args.text.now c.iter.ensures.rest) (λ x b q k. search (rules, tests)) in
    sym (take_all _ c.args.text.now (ltb-false _ _ (found_none _ _ _ e c.in-None.is)))
