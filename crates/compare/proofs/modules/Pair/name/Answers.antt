use Rattle.std.proofs.Common.{rules}
use Rattle.compare.specs.Facts.{name_facts}
use Rattle.compare.proofs.Lists.{each-first}
use Rattle.compare.proofs.Found.{first-found}
use Rattle.compare.proofs.modules.Pair.name.Goals as goal

pub returns : goal.returns
returns c =
    let p = c.args.self in
    let f = name_facts p.first.image.now p.k p.first.begin p.first.m in
    let h = name_facts p.second.image.now p.k p.second.begin p.second.m in
    each-first 8 f h _ (first-found _ _ 8 f h (λ i d q k. search rules) _ c.find_map.ensures.runs)
