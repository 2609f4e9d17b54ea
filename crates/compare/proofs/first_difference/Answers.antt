use Rattle.std.proofs.Common.{◌∙◌, sym, arith}
use Rattle.compare.proofs.Answers.{told-so, refused-first, refused-second, compared-so}
use Rattle.compare.proofs.first_difference.Goals as goal

pub returns-in_err-p : goal.returns-in_err-p
returns-in_err-p c = c.from_residual.ensures ∙ refused-first c.args.first.now c.args.second.now _ c.read_image.ensures (sym c.ok.ensures.value ∙ c.in_err-p.was)

pub returns-in_err-q : goal.returns-in_err-q
returns-in_err-q c = c.from_residual-in_err-q.ensures ∙ refused-second c.args.first.now c.args.second.now _ c.read_image.ensures _ c.read_image-2.ensures (sym c.ok-2.ensures.value ∙ c.in_err-q.was)

pub invariant_of-first : goal.invariant_of-first
invariant_of-first c = record { in_range = λ i. omega (arith, c.type_inv.first i); told = told-so _ _ c.read_image.ensures _ (sym c.ok.ensures.value ∙ c.in_ok-p.was) }

pub invariant_of-second : goal.invariant_of-second
invariant_of-second c = record { in_range = λ i. omega (arith, c.type_inv.second i); told = told-so _ _ c.read_image-2.ensures _ (sym c.ok-2.ensures.value ∙ c.in_ok-q.was) }

pub returns : goal.returns
returns c =
    compared-so c.args.first.now c.args.second.now _ c.read_image.ensures _ c.read_image-2.ensures _ _ (sym c.ok.ensures.value ∙ c.in_ok-p.was) (sym c.ok-2.ensures.value ∙ c.in_ok-q.was)
    _ c.modules.ensures
