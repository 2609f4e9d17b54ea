use Rattle.std.proofs.Common.{◌≡◌, ℕ, ◌<◌, true}
use Rattle.depths.specs.Lent.{depths_of}
use Rattle.depths.specs.Test.{mark_fits}
use Rattle.depths.proofs.Bools.{Floor}
use Rattle.depths.proofs.fits.marks_fit.Given as goal

abbrev pub invariant-loop-p : goal.invariant-loop-p
invariant-loop-p l = Floor l.floor × ((j : ℕ) → j < l.p → mark_fits (depths_of l.rules) l.map j ≡ true)
