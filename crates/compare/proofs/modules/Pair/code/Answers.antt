use Rattle.std.proofs.Common.{rules}
use Rattle.compare.specs.Facts.{code_facts}
use Rattle.compare.proofs.Lists.{counted}
use Rattle.compare.proofs.Found.{first-found}
use Rattle.compare.proofs.modules.Pair.code.Goals as goal

pub returns : goal.returns
returns c =
    let p = c.args.self in
    let f = code_facts p.first.image.now p.k p.first.m in
    let h = code_facts p.second.image.now p.k p.second.m in
    counted _ _ _ _ f h _ c.in_default.ensures (first-found _ _ _ f h (λ i d q k. search rules) _ c.find_map.ensures.runs)
