use mathlib.Core.Path.{refl}
use lib.ListN.{length-set}
use Rattle.mcode.specs.Step.{written}
use native.Mathlib.Omega.{arith}
use Rattle.capi.proofs.packing.put_registers.Goals as goal

pub bounds-words-4 : goal.bounds-words-4
bounds-words-4 c = simp length-set (omega arith)

pub bounds-words-5 : goal.bounds-words-5
bounds-words-5 c = simp length-set (omega arith)

pub bounds-words-6 : goal.bounds-words-6
bounds-words-6 c = simp length-set (omega arith)

pub bounds-words-7 : goal.bounds-words-7
bounds-words-7 c = simp length-set (omega arith)

pub shape_of-words : goal.shape_of-words
shape_of-words c = simp length-set (omega arith)

pub returns : goal.returns
unfolding written
returns c = refl
