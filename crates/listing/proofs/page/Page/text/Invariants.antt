use Rattle.std.proofs.Common.{◌≡◌, ◌+◌, ◌≤◌, ◌++◌, length, take, Some, IfSome}
use Rattle.listing.specs.Waiting.{block, text_more, Leaves}
use Rattle.listing.proofs.page.Page.text.Given as goal

abbrev pub invariant-loop-letter : goal.invariant-loop-letter
invariant-loop-letter l = record {
  after : Leaves (text_more (take l.letter-index l.letters)) l.initial.self l.self;
  room : IfSome l.initial.self (λ w. length w + length l.letters ≤ block → l.self ≡ Some (w ++ take l.letter-index l.letters));
}
