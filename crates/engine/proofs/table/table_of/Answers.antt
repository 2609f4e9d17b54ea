use mathlib.Core.Path.{refl}
use native.Mathlib.Omega.{arith}
use Rattle.engine.proofs.Numbers.{holds-none, holds_more, tabled-so}
use Rattle.engine.proofs.table.table_of.Goals as goal

pub loop-k-init : goal.loop-k-init
loop-k-init c = holds-none _ _ refl

pub put_module-requires : goal.put_module-requires
put_module-requires c = (omega (arith, c.requires.few), c.requires.words c.loop-k.k (omega arith))

pub loop-k-preserved : goal.loop-k-preserved
loop-k-preserved c = rw c.put_module.ensures (holds_more c.args.program c.loop-k.table c.loop-k.k (omega (arith, c.requires.few)) c.loop-k.invariant)

pub returns : goal.returns
returns c = tabled-so _ _ c.loop-k.k (omega arith) c.requires c.loop-k.invariant
