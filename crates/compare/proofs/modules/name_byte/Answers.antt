use Rattle.std.proofs.Common.{rules}
use Rattle.compare.proofs.Pieces.{name-read}
use Rattle.compare.proofs.modules.name_byte.Goals as goal

pub returns : goal.returns
returns c = let p = c.args.p in name-read p.image.now p.begin p.m _ c.name.ensures c.args.i c.requires _ _ (λ x k. search rules) c.map_or.ensures
