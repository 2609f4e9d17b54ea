use Rattle.std.proofs.Common.{◌≡◌, ap, ◌∙◌, ◌++◌, ◌+◌, ◌-◌, ℕ, suc, length, length-append, arith}
use Rattle.listing.specs.Cell.{saves_text}
use Rattle.listing.proofs.Cells.{no-saves, next-save}
use Rattle.listing.proofs.cell.push_saves.Goals as goal

pub loop-preserved : goal.loop-preserved
loop-preserved c =
    let left : suc (c.args.n - (c.loop.counter + 1)) ≡ c.args.n - c.loop.counter = omega arith in
    let plus = c.push.ensures.ascii (omega arith) in
    record {
      text = rw (c.push_number.ensures.text, plus) (next-save _ _ _ ∙ ap (λ k. c.loop.cell.bytes ++ saves_text k c.loop.rest) left ∙ c.loop.invariant.text);
      room = omega (arith, c.push_number.ensures.letters, ap length plus, length-append {A = ℕ});
    }

pub returns-clause-text : goal.returns-clause-text
returns-clause-text c =
    let none : 0 ≡ c.args.n - c.loop.counter = omega arith in
    no-saves _ c.loop.rest ∙ ap (λ k. c.loop.cell.bytes ++ saves_text k c.loop.rest) none ∙ c.loop.invariant.text
