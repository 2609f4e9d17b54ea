use Rattle.std.proofs.Common.{◌≡◌, refl, ◌∙◌, ap, ℕ, ◌+◌, length, arith}
use Rattle.mcode.specs.Word.{tabulate}
use Rattle.mcode.specs.Archive.{content_of, modules_form}
use Rattle.archive.proofs.Modules.{placed-is, front-short, sum-next, form-length-is}
use Rattle.archive.proofs.form.form_length.Goals.{After-module_length-sum}
use Rattle.archive.proofs.form.form_length.Goals as goal

-- one module more
next-sum : (c : After-module_length-sum) → c.loop-k.sum + c.module_length-sum.result ≡ 1 + length (modules_form (tabulate (c.loop-k.k + 1) (content_of c.args.image.bytes.now c.args.image.program.now)))
next-sum c =
    let i = c.args.image in
    let e = placed-is i.bytes.now i.program.now c.loop-k.k c.module.result c.module.ensures in
    omega (arith, c.loop-k.invariant, sum-next i.bytes.now i.program.now i.told c.loop-k.k c.loop-k-test.true _ e _ _ refl c.module_length-sum.ensures)

pub loop-k-init : goal.loop-k-init
unfolding tabulate
loop-k-init c = refl

pub overflow_add-sum : goal.overflow_add-sum
overflow_add-sum c =
    let d = (goal.at.overflow_add-sum c).After-module_length-sum in
    omega (arith, next-sum d, front-short c.args.image.bytes.now c.args.image.program.now c.args.image.told (c.loop-k.k + 1) (omega (arith, c.loop-k-test.true)))

pub loop-k-preserved : goal.loop-k-preserved
loop-k-preserved c = next-sum (goal.at.loop-k-preserved c).After-module_length-sum

pub returns : goal.returns
returns c =
    let i = c.args.image in
    let e : c.loop-k.k ≡ i.program.now.count = omega (arith, c.loop-k.auto.k-end, c.loop-k-test.false) in
    c.loop-k.invariant ∙ ap (λ (k : ℕ). 1 + length (modules_form (tabulate k (content_of i.bytes.now i.program.now)))) e ∙ form-length-is i.bytes.now i.program.now
