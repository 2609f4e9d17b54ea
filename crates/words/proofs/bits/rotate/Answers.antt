use Rattle.std.proofs.Common.{div-one}
use native.Mathlib.Nat.{mul-mod_left}
use lib.Bits.{or_zero_r}
use Rattle.words.proofs.bits.rotate.Goals as goal

pub returns-then-k-eq0 : goal.returns-then-k-eq0
returns-then-k-eq0 c = rw (c.if-k-eq0.true, div-one c.args.c, mul-mod_left c.args.c 65536, or_zero_r c.args.c)
