use Rattle.mcode.specs.Run.{start_machine, start_store}
use Rattle.loader.proofs.start.begin.Goals as goal

pub returns : goal.returns
unfolding start_machine start_store
returns c = (rw (c.machine_at.ensures, c.entry_of-entry.ensures), rw (c.first_frame.ensures, c.copy_bases.ensures, c.fill.ensures.after (λ y e. e)))
