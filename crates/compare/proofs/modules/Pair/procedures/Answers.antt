use Rattle.std.proofs.Common.{rules}
use Rattle.compare.specs.Facts.{procedure_facts}
use Rattle.compare.proofs.Lists.{counted}
use Rattle.compare.proofs.Found.{first-found}
use Rattle.compare.proofs.modules.Pair.procedures.Goals as goal

pub returns : goal.returns
returns c =
    let p = c.args.self in
    let f = procedure_facts p.first.image.now p.k p.first.m in
    let h = procedure_facts p.second.image.now p.k p.second.m in
    counted _ _ _ _ f h _ (rw (c.proc_count-n.ensures.0, c.proc_count.ensures.0) at c.in_default.ensures)
    (first-found _ _ _ f h (λ i d q k. search rules) _ (rw c.proc_count-n.ensures.0 at c.find_map.ensures.runs))
