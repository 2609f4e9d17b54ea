use Rattle.std.proofs.Common.{rules}
use Rattle.compare.specs.Facts.{facts_at}
use Rattle.compare.proofs.Lists.{counted}
use Rattle.compare.proofs.Found.{first-found}
use Rattle.compare.proofs.modules.modules.Goals as goal

pub returns : goal.returns
returns c =
    let a = c.args.first in
    let b = c.args.second in
    let f = facts_at a.bytes.now a.program.now in
    let h = facts_at b.bytes.now b.program.now in
    counted _ _ _ _ f h _ c.in_default.ensures (first-found _ _ _ f h (λ i d q k. search rules) _ c.find_map.ensures.runs)
