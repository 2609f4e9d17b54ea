use native.Mathlib.Omega.{arith}
use Rattle.mcode.specs.Depths.{mark_of}
use Rattle.marks.proofs.Laws.{packed}
use Rattle.marks.proofs.pack.Goals as goal

pub returns : goal.returns
unfolding mark_of
returns c = packed _ _ _ _ _ c.requires.0 c.requires.1 c.requires.2 (omega arith)
