use Rattle.std.proofs.Common.{◌≡◌, ℕ, ◌<◌, true}
use Rattle.depths.specs.Test.{entry_fits}
use Rattle.depths.proofs.fits.entries_fit.Given as goal

abbrev pub invariant-loop-i : goal.invariant-loop-i
invariant-loop-i l = (j : ℕ) → j < l.i → entry_fits l.code.image.now l.code.m l.map j ≡ true
