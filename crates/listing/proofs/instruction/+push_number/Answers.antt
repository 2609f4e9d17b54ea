-- The number without its last digit is written first.
use Rattle.std.proofs.Common.{ap, ◌++◌, ◌/◌, length-append, arith}
use Rattle.std.specs.Fmt.{decimal}
use Rattle.std.proofs.lemmas.Str.{encode_ascii}
use Rattle.listing.proofs.Text.{one-digit, more-digits, one-letter, more-letters}
use Rattle.listing.proofs.instruction.+push_number.Goals as goal
use Rattle.listing.proofs.instruction.+push_number.Goals.{then-n-ge10, else-n-ge10}

pub push_number-requires : goal.push_number-requires
push_number-requires t c = (omega (arith, c.decreases, c.if-n-ge10.true), omega (arith, c.requires, more-letters c.args.n c.if-n-ge10.true (omega arith)))

pub push-requires : goal.push-requires
push-requires t c =
    let letter = encode_ascii c.digit.result (omega (arith, c.digit.ensures)) in
    rw letter (elim c.if-n-ge10.branch [
      | then-n-ge10 w ↦ rw (w.text-is, w.push_number.ensures) (omega (arith, c.requires, more-letters c.args.n w.if-n-ge10.true (omega arith), length-append c.args.text.now.bytes (decimal (c.args.n / 10))))
      | else-n-ge10 w ↦ rw w.text-is (omega (arith, c.requires, one-letter c.args.n w.if-n-ge10.false))
    ])

pub returns : goal.returns
returns t c =
    let last = rw c.digit.ensures at (c.push.ensures.ascii (omega (arith, c.digit.ensures))) in
    elim c.if-n-ge10.branch [
      | then-n-ge10 w ↦ rw (last, w.text-is, w.push_number.ensures) (more-digits c.args.text.now.bytes c.args.n w.if-n-ge10.true (omega arith))
      | else-n-ge10 w ↦ rw (last, w.text-is) (ap (λ t. c.args.text.now.bytes ++ t) (one-digit c.args.n w.if-n-ge10.false))
    ]
