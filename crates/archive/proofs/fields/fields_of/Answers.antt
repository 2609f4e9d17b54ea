use Rattle.std.proofs.Common.{refl, rules}
use Rattle.archive.proofs.Needed.{named-so, needed-so}
use Rattle.archive.proofs.fields.fields_of.Goals as goal

pub returns : goal.returns
returns c =
    let p = c.args.p in
    needed-so p.image.now p.begin p.m _ _ _ refl c.is_default.ensures (named-so p.image.now p.begin p.m _ c.name.ensures _ _ (λ x k. search rules) c.is_some_and.ensures)
