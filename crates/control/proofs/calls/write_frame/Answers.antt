use lib.ListN.{length-set}
use native.Mathlib.Omega.{arith}
use Rattle.control.proofs.calls.write_frame.Goals as goal

pub bounds-store-s-2 : goal.bounds-store-s-2
bounds-store-s-2 c = simp length-set (omega (arith, c.requires))

pub bounds-store-s-3 : goal.bounds-store-s-3
bounds-store-s-3 c = simp length-set (omega (arith, c.requires))
