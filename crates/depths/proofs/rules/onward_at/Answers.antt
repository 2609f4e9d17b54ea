-- What follows an instruction that is no jump, has successors and is not plain: it names a module, or is a call.
use Rattle.std.proofs.Common.{◌≡◌, ℕ, ltb, sym, refl, ap, ◌∙◌, arith, le-ltb, lt-ltb}
use Rattle.mcode.specs.Word.{pick}
use Rattle.mcode.specs.Depths.{depth_of, passed, carry, calls}
use Rattle.mcode.specs.declared.Flow.TheVariants.{Fault, To}
use Rattle.mcode.proofs.Marks.{passed-own}
use Rattle.depths.proofs.Flows.{onward-names, onward-far, onward_near}
use Rattle.depths.proofs.rules.onward_at.Goals as goal

pub returns-then-b-rules : goal.returns-then-b-rules
returns-then-b-rules c =
    let a = c.args in
    let r = a.rules.now in
    let (j, h, q) = c.requires in
    let e : pick (ltb a.b r.program.now.count) (To a.n (depth_of a.e)) Fault ≡ To a.n (depth_of a.e) = rw (lt-ltb _ _ c.if-b-rules.true) refl in
    λ p. ap (To a.n) (sym (passed-own a.e))
    ∙ ap (carry (passed a.e)) (sym (onward-names r.code.image.now r.program.now r.code.m p a.op a.b a.c a.n (depth_of a.e) j h q c.if-op-lt237.true ∙ e))

pub returns-then-op-lt237 : goal.returns-then-op-lt237
returns-then-op-lt237 c =
    let a = c.args in
    let r = a.rules.now in
    let (j, h, q) = c.requires in
    let e : pick (ltb a.b r.program.now.count) (To a.n (depth_of a.e)) Fault ≡ Fault = rw (le-ltb _ _ c.if-b-rules.false) refl in
    λ p. ap (carry (passed a.e)) (sym (onward-names r.code.image.now r.program.now r.code.m p a.op a.b a.c a.n (depth_of a.e) j h q c.if-op-lt237.true ∙ e))

pub returns-then-op-eq237 : goal.returns-then-op-eq237
returns-then-op-eq237 c =
    let a = c.args in
    let r = a.rules.now in
    λ p. c.call_in.ensures
    ∙ ap (carry (passed a.e)) (sym (onward-far r.code.image.now r.program.now r.code.m p a.op a.b a.c a.n (depth_of a.e) c.requires.0 c.requires.1 c.if-op-eq237.true))

pub returns : goal.returns
returns c =
    let a = c.args in
    let r = a.rules.now in
    let k = ap (λ (i : ℕ). calls r.code.image.now r.code.m i a.n (depth_of a.e)) c.callee_of.ensures.0 in
    λ p. c.call.ensures
    ∙ ap (carry (passed a.e)) (k ∙ sym (onward_near r.code.image.now r.program.now r.code.m p a.op a.b a.c a.n (depth_of a.e) c.requires.0 c.requires.1 (omega (arith, c.if-op-lt237.false, c.if-op-eq237.false))))
