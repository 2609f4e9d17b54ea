use Rattle.std.proofs.Common.{◌∙◌, sym}
use mathlib.Core.Bool.{true≢false}
use borrow.Author.Tests.{eqb-true, eqb-false, lt-leb}
use Rattle.archive.proofs.Needed.{many-so, entry_other, params-other, results-so}
use Rattle.archive.proofs.fields.is_default.Goals.{then-m-le1, else-m-le1, then-entry_of-eq0, else-entry_of-eq0}
use Rattle.archive.proofs.fields.is_default.Goals as goal

pub returns-then-params_of-eq0 : goal.returns-then-params_of-eq0
returns-then-params_of-eq0 c =
    elim c.if-entry_of-eq0.branch [
      | then-entry_of-eq0 w ↦ elim c.if-m-le1.branch [
        | then-m-le1 v ↦ results-so c.args.p.image.now c.args.p.m v.if-m-le1.true _ v.entry_of.ensures _ w.params_of.ensures
            (eqb-true _ 0 (sym v.value-is ∙ w.if-entry_of-eq0.true)) _ c.results_of.ensures (eqb-true _ 0 (sym w.value-is ∙ c.if-params_of-eq0.true))
        | else-m-le1 v ↦ absurd (true≢false (sym w.if-entry_of-eq0.true ∙ v.value-is ∙ lt-leb _ 1 v.if-m-le1.false))
      ]
      | else-entry_of-eq0 w ↦ absurd (true≢false (sym c.if-params_of-eq0.true ∙ w.value-is ∙ w.if-entry_of-eq0.false))
    ]

pub returns-else-params_of-eq0 : goal.returns-else-params_of-eq0
returns-else-params_of-eq0 c =
    c.if-params_of-eq0.false
    ∙ elim c.if-entry_of-eq0.branch [
      | then-entry_of-eq0 w ↦ elim c.if-m-le1.branch [
        | then-m-le1 v ↦ params-other c.args.p.image.now c.args.p.m v.if-m-le1.true _ v.entry_of.ensures _ w.params_of.ensures
            (eqb-true _ 0 (sym v.value-is ∙ w.if-entry_of-eq0.true)) (eqb-false _ 0 (sym w.value-is ∙ c.if-params_of-eq0.false))
        | else-m-le1 v ↦ absurd (true≢false (sym w.if-entry_of-eq0.true ∙ v.value-is ∙ lt-leb _ 1 v.if-m-le1.false))
      ]
      | else-entry_of-eq0 w ↦ elim c.if-m-le1.branch [
        | then-m-le1 v ↦ entry_other c.args.p.image.now c.args.p.m v.if-m-le1.true _ v.entry_of.ensures (eqb-false _ 0 (sym v.value-is ∙ w.if-entry_of-eq0.false))
        | else-m-le1 v ↦ many-so c.args.p.image.now c.args.p.m v.if-m-le1.false
      ]
    ]
