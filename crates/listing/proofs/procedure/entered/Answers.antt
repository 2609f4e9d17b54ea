-- What is left of the range may hold the first one.
use Rattle.std.proofs.Common.{ap, sym, ◌∙◌, None, Some, arith}
use borrow.Author.Tests.{ne_eqb, eq-eqb}
use Rattle.listing.specs.First.{enters}
use Rattle.listing.specs.Shape.{procedure_of}
use Rattle.listing.specs.declared.procedure.Procedure.{Procedure}
use Rattle.listing.proofs.Least.{found, one-more}
use Rattle.listing.proofs.procedure.entered.Goals as goal

pub returns-then-procedure_of-p-clause-first : goal.returns-then-procedure_of-p-clause-first
unfolding procedure_of
returns-then-procedure_of-p-clause-first c =
    let here = eq-eqb _ _ (sym (ap (λ (q : Procedure). q.entry) c.procedure_of.ensures) ∙ c.if-procedure_of-p.true) in
    found (enters c.args.image.now c.args.m c.args.p) _ _ (Some c.loop-i.i) (c.loop-i.auto.i, omega (arith, c.loop-i-test.true, c.proc_count-i-end.ensures.0), here, c.loop-i.invariant)

pub loop-i-preserved : goal.loop-i-preserved
unfolding procedure_of
loop-i-preserved c = one-more (enters c.args.image.now c.args.m c.args.p) _ _ c.loop-i.invariant (ne_eqb _ _ (λ z. c.if-procedure_of-p.false (ap (λ (q : Procedure). q.entry) c.procedure_of.ensures ∙ z)))

pub returns-clause-first : goal.returns-clause-first
returns-clause-first c = found (enters c.args.image.now c.args.m c.args.p) _ _ None (λ k a b. c.loop-i.invariant k a (omega (arith, c.loop-i-test.false, c.proc_count-i-end.ensures.0, b)))
