-- The digits lie at the end, and the blanks before them stay.
use Rattle.std.proofs.Common.{◌≡◌, ℕ, sym, ◌∙◌, ap, ◌++◌, ◌-◌, ◌≤◌, ◌<◌, ◌^◌, length, replicate, take, drop, append-nil, arith}
use Rattle.std.specs.Fmt.{decimal}
use Rattle.std.proofs.lemmas.Fmt.{length-decimal-le}
use Rattle.std.proofs.lemmas.List.{take-append-drop, take-replicate}
use Rattle.list.proofs.code.column_of.Goals as goal

short : (n : ℕ) → n < 2 ^ 16 → length (decimal n) ≤ 6
short n h = length-decimal-le 6 n (omega arith) (omega arith) (omega arith)

pub write_digits-requires : goal.write_digits-requires
write_digits-requires c = (short c.args.n c.ranges.n.fits, omega arith)

pub returns : goal.returns
returns c =
    let r = c.write_digits.result in
    let column = c.write_digits.new.buf in
    let e : r ≡ 6 - length (decimal c.args.n) = omega (arith, c.write_digits.ensures.start) in
    let digits : drop r column ≡ decimal c.args.n = c.write_digits.ensures.written ∙ append-nil (decimal c.args.n) in
    let blanks : take r column ≡ replicate r 32 = c.write_digits.ensures.before ∙ take-replicate r 6 32 (omega (arith, c.write_digits.ensures.start)) in
    sym (take-append-drop r column) ∙ (rw (blanks, digits) (ap (λ (k : ℕ). replicate k 32 ++ decimal c.args.n) e))
