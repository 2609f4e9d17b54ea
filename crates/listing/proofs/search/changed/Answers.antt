-- What is left of the range may hold the first one.
use Rattle.std.proofs.Common.{ap, ◌∙◌, not, None, Some, arith}
use borrow.Author.Tests.{ne_eqb}
use Rattle.listing.specs.First.{differ}
use Rattle.listing.proofs.Least.{found}
use Rattle.listing.proofs.search.changed.Goals as goal

pub returns-then-word_at-after : goal.returns-then-word_at-after
returns-then-word_at-after c =
    let here = ap not (ne_eqb _ _ (λ z. c.if-word_at-after.true (c.word_at.ensures ∙ z))) in
    found (differ c.args.before.now c.args.after.now) _ _ (Some c.loop-i.i) (c.loop-i.auto.i, c.loop-i-test.true, here, c.loop-i.invariant)

pub returns : goal.returns
returns c = found (differ c.args.before.now c.args.after.now) _ _ None (λ k a b. c.loop-i.invariant k a (omega (arith, c.loop-i-test.false, b)))
