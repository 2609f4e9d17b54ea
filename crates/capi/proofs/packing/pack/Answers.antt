use native.Mathlib.Omega.{arith}
use Rattle.mcode.proofs.Zeros.{length-written}
use Rattle.capi.specs.Words.{register_words}
use Rattle.capi.proofs.Written.{packed}
use Rattle.capi.proofs.packing.pack.Goals as goal

pub returns : goal.returns
returns c =
    let front = register_words c.args.machine.registers in
    rw (c.put_registers.ensures, c.copy_from_slice.ensures.after, length-written front 0 c.args.words.now) (packed front c.args.words.now c.args.machine.stack (omega (arith, c.requires.0)))
