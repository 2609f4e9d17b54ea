use Rattle.std.proofs.Common.{◌-◌, ◌<◌, IfSome}
use Rattle.listing.specs.First.{place_of}
use Rattle.list.proofs.code.Code.put_labels.Given as goal

abbrev pub invariant-loop-next : goal.invariant-loop-next
invariant-loop-next l = IfSome l.next (λ i. i < 65536)

abbrev pub decreases-loop-next : goal.decreases-loop-next
decreases-loop-next l = 65536 - place_of 65536 l.next
