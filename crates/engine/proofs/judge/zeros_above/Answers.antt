use Rattle.std.proofs.Common.{rules}
use Rattle.engine.proofs.Judged.{zeros-is}
use Rattle.engine.proofs.judge.zeros_above.Goals as goal

pub returns : goal.returns
returns c = zeros-is _ _ _ (search rules)
