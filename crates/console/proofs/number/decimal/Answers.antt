-- std's readers of text and of numbers, and what they do not take.
use Rattle.std.proofs.Common.{sym, ◌∙◌, arith}
use borrow.Author.Tests.{eqb-true, eqb-false}
use Rattle.console.proofs.Texts.{parsed, signed, no_utf8, is_utf8}
use Rattle.console.proofs.number.decimal.Goals as goal

pub returns-in_err-digits : goal.returns-in_err-digits
returns-in_err-digits c = c.from_residual.ensures ∙ no_utf8 _ _ _ c.from_utf8.ensures.cases c.in_err-digits.ensures.value

pub returns-then-starts_with : goal.returns-then-starts_with
returns-then-starts_with c =
    let h = c.if-starts_with.ensures.byte (omega arith) (omega arith) (λ w o h. h) in
    signed _ (rw (is_utf8 _ _ _ _ c.from_utf8.ensures.cases c.in_ok-digits.ensures.value) at (eqb-true _ _ (sym h)))

pub returns : goal.returns
returns c =
    let e = is_utf8 _ _ _ _ c.from_utf8.ensures.cases c.in_ok-digits.ensures.value in
    let h = c.if-starts_with.ensures.byte (omega arith) (omega arith) (λ w o h. h) in
    c.ok-2.ensures.value ∙ parsed _ _ (rw e at c.parse.ensures.value.0) (rw e at (eqb-false _ _ (sym h)))
