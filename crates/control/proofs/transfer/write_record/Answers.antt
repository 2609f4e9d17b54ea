use lib.ListN.{length-set}
use Rattle.control.proofs.Process.{written-six}
use native.Mathlib.Omega.{arith}
use Rattle.control.proofs.transfer.write_record.Goals as goal

pub bounds-store-p-2 : goal.bounds-store-p-2
bounds-store-p-2 c = simp length-set (omega (arith, c.requires))

pub bounds-store-p-3 : goal.bounds-store-p-3
bounds-store-p-3 c = simp length-set (omega (arith, c.requires))

pub bounds-store-p-4 : goal.bounds-store-p-4
bounds-store-p-4 c = simp length-set (omega (arith, c.requires))

pub bounds-store-p-5 : goal.bounds-store-p-5
bounds-store-p-5 c = simp length-set (omega (arith, c.requires))

pub bounds-store-p-6 : goal.bounds-store-p-6
bounds-store-p-6 c = simp length-set (omega (arith, c.requires))

pub returns : goal.returns
returns c = rw written-six
