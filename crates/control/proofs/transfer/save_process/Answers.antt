use lib.ListN.{length-set}
use Rattle.mcode.specs.Step.{saved_store}
use native.Mathlib.Omega.{arith}
use Rattle.control.proofs.transfer.save_process.Goals as goal

pub overflow_sub-to : goal.overflow_sub-to
overflow_sub-to c = omega (arith, c.requires.d_bound)

pub overflow_cast-to : goal.overflow_cast-to
overflow_cast-to c = omega (arith, c.requires.d_bound)

pub write_record-requires : goal.write_record-requires
write_record-requires c = omega (arith, c.save_stack.auto, c.requires)

pub bounds-store-c : goal.bounds-store-c
bounds-store-c c = omega (arith, c.write_record.auto.store, c.save_stack.auto, c.requires)

pub shape_of-store : goal.shape_of-store
shape_of-store c = simp length-set (omega (arith, c.write_record.auto.store, c.save_stack.auto))

pub returns : goal.returns
unfolding saved_store
returns c = rw (← c.save_stack.ensures, ← c.write_record.ensures)
