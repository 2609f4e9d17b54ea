-- The loop adds a byte at each turn.
use Rattle.listing.proofs.Waiting.{Leaves-none, Leaves-more, Room-none, Room-more}
use Rattle.listing.proofs.page.Page.text.Goals as goal

pub loop-letter-init : goal.loop-letter-init
loop-letter-init c = record { after = Leaves-none _; room = Room-none _ _ }

pub loop-letter-preserved : goal.loop-letter-preserved
loop-letter-preserved c = record {
  after = Leaves-more _ _ _ _ _ c.loop-letter-test.true c.loop-letter.invariant.after c.put.ensures.after;
  room = Room-more _ _ _ _ _ c.loop-letter-test.true c.loop-letter.invariant.room c.put.ensures.room;
}
