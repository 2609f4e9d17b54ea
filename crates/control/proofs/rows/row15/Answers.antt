use Rattle.mcode.specs.Opcode.{lengths}
use Rattle.actions.specs.Core.{instruction}
use Rattle.control.proofs.Laws.{anchored-on}
use Rattle.control.proofs.Decoded.{decoded-call, callee-exists}
use native.Mathlib.Omega.{arith}
use Rattle.control.proofs.rows.row15.Goals as goal

pub callee-n-requires : goal.callee-n-requires
unfolding lengths
callee-n-requires c = (omega (arith, c.requires.op_value), λ e. omega (arith, rw e at c.requires.controls.ready.bytes))

pub after_call-requires : goal.after_call-requires
after_call-requires c = c.requires.controls.ready.near

pub call-requires : goal.call-requires
call-requires c = record { entered = c.requires.controls.entered; framed = c.requires.controls.framed; n_bound = (rw c.callee-n.ensures (callee-exists c.requires.controls c.requires.op_value), omega (arith, c.requires.controls.ready.own, c.requires.controls.ready.near), omega (arith, c.after_call.ensures.1, c.requires.controls.ready.own), omega (arith, c.after_call.ensures.2, c.requires.controls.inside, c.requires.controls.ready.own)) }

pub returns : goal.returns
unfolding instruction
returns c = ((λ lent marks words h stack out. rw (decoded-call _ _ _ _ c.requires.op_value, ← c.callee-n.ensures, ← c.after_call.ensures.0) (c.call.ensures.0 lent marks words h stack out)), anchored-on c.requires.anchored c.call.ensures.1)
