-- What stands after the first `=`.
use Rattle.std.proofs.Common.{rules, tests, ◌∙◌, ◌+◌, ap, arith, drop}
use Rattle.std.proofs.lemmas.Iterator.{YieldsList-from_slice}
use Rattle.std.proofs.lemmas.Iterator.Search.{position_from_yields_List}
use lib.ListN.{length-drop}
use lib.Seq.{take_all}
use Rattle.console.specs.Choices.{is_equals}
use Rattle.console.proofs.Texts.{found_at, found_none}
use Rattle.console.proofs.options.value.Goals as goal

pub returns-in_err-at : goal.returns-in_err-at
returns-in_err-at c =
    let e = position_from_yields_List is_equals _ _ c.position.result c.position.ensures.ran (YieldsList-from_slice c.args.text.now c.iter.ensures.rest) (λ x b q k. search (rules, tests)) in
    rw c.from_residual.ensures (found_none _ _ _ e c.in_err-at.was)

pub returns : goal.returns
returns c =
    let e = position_from_yields_List is_equals _ _ c.position.result c.position.ensures.ran (YieldsList-from_slice c.args.text.now c.iter.ensures.rest) (λ x b q k. search (rules, tests)) in
    let (p, h) = found_at _ _ _ e c.in_ok-at.at c.in_ok-at.was in
    (h, take_all _ (drop (c.in_ok-at.at + 1) c.args.text.now) (omega (arith, length-drop (c.in_ok-at.at + 1) c.args.text.now)) ∙ ap (λ n. drop (n + 1) c.args.text.now) p)
