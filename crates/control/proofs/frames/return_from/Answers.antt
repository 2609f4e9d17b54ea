use Rattle.mcode.specs.Step.{perform_of, returned}
use Rattle.control.proofs.Laws.{anchored-on}
use borrow.Author.Tests.{ne_eqb, lt-ltb, le-ltb, eq-eqb}
use Rattle.control.proofs.frames.return_from.Goals as goal

pub returns-then-r : goal.returns-then-r
unfolding perform_of returned
returns-then-r c = ((λ lent bytes words h to stack out. rw (lt-ltb _ _ c.if-r.true)), c.requires.anchored)

pub returns-then-word-eq32767 : goal.returns-then-word-eq32767
unfolding perform_of returned
returns-then-word-eq32767 c = ((λ lent bytes words h to stack out. rw (le-ltb _ _ c.if-r.false, eq-eqb _ _ c.if-word-eq32767.true)), c.requires.anchored)

pub returns-then-word-lt32768 : goal.returns-then-word-lt32768
unfolding perform_of returned
returns-then-word-lt32768 c = ((λ lent bytes words h to stack out. rw (le-ltb _ _ c.if-r.false, ne_eqb _ _ c.if-word-eq32767.false, lt-ltb _ _ c.if-word-lt32768.true) (c.back_here.ensures.0 lent bytes words h stack out)), anchored-on c.requires.anchored c.back_here.ensures.1)

pub returns : goal.returns
unfolding perform_of returned
returns c = ((λ lent bytes words h to stack out. rw (le-ltb _ _ c.if-r.false, ne_eqb _ _ c.if-word-eq32767.false, le-ltb _ _ c.if-word-lt32768.false) (c.back_there.ensures.0 lent bytes words h stack out)), c.back_there.ensures.1)
