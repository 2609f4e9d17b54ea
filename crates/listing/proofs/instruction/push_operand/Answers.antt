use Rattle.std.proofs.Common.{ℕ, ◌++◌, ◌∷◌, [], length-append, arith}
use Rattle.std.specs.Fmt.{decimal}
use Rattle.listing.proofs.Text.{five-letters}
use Rattle.listing.proofs.instruction.push_operand.Goals as goal

pub push_number-requires : goal.push_number-requires
push_number-requires c = rw (c.push.ensures.ascii (omega arith)) (omega (arith, c.requires, five-letters c.args.n (omega arith), length-append {A = ℕ} c.args.text.now.bytes (32 ∷ [])))

pub returns-clause-letters : goal.returns-clause-letters
returns-clause-letters c =
    rw (c.push_number.ensures, c.push.ensures.ascii (omega arith))
    (omega (arith, five-letters c.args.n (omega arith), length-append {A = ℕ} (c.args.text.now.bytes ++ 32 ∷ []) (decimal c.args.n), length-append {A = ℕ} c.args.text.now.bytes (32 ∷ [])))
