use mathlib.Core.Path.{sym}
use Rattle.marks.proofs.Laws.{by-depth}
use Rattle.marks.proofs.is_mark.Goals as goal

pub returns-then-k-lt160 : goal.returns-then-k-lt160
returns-then-k-lt160 c = rw c.depth_of.ensures (sym (by-depth _ c.if-k-lt160.true))
