use native.Mathlib.Omega.{arith}
use borrow.Author.Tests.{ne_eqb, eq-eqb}
use Rattle.control.proofs.table.entry_of.Goals as goal

pub returns-then-number-eq0 : goal.returns-then-number-eq0
returns-then-number-eq0 c = rw (← c.number.ensures, eq-eqb _ _ c.if-number-eq0.true)

pub word_in-requires : goal.word_in-requires
word_in-requires c =
    let h = rw (← c.number.ensures, ne_eqb _ _ c.if-number-eq0.false) at c.requires.k_bound.1 in
    let e = c.requires.entered.entries _ _ c.requires.k_bound.0 (rw c.number.ensures at h) in
    omega (arith, e, c.number-t.ensures)

pub returns : goal.returns
returns c = rw (← c.number.ensures, ne_eqb _ _ c.if-number-eq0.false, ← c.number-t.ensures) c.word_in.ensures
