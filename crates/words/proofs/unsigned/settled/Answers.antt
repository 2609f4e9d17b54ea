use Rattle.std.proofs.Common.{sym, arith}
use Rattle.words.proofs.Results.{word-settles, above-settles}
use Rattle.words.proofs.unsigned.settled.Goals as goal

pub returns-then-n-lt65536 : goal.returns-then-n-lt65536
returns-then-n-lt65536 c = sym (word-settles c.args.n (omega (arith, c.if-n-lt65536.true)))

pub returns-else-n-lt65536 : goal.returns-else-n-lt65536
returns-else-n-lt65536 c = sym (above-settles c.args.n (omega (arith, c.if-n-lt65536.false)))
