use Rattle.std.proofs.Common.{rules}
use Rattle.console.specs.Choices.{kind_of}
use Rattle.console.proofs.options.kind.Goals as goal
use Rattle.console.proofs.options.kind.Goals.{then-eq-via-then-eq, then-eq-via-else-eq+then-eq-2}

pub returns-then-eq : goal.returns-then-eq
unfolding kind_of
returns-then-eq c = elim c.then-eq.branch [ then-eq-via-then-eq w ↦ search rules | then-eq-via-else-eq+then-eq-2 w ↦ search rules ]

pub returns-in-Some : goal.returns-in-Some
unfolding kind_of
returns-in-Some c = search rules

pub returns-in-None : goal.returns-in-None
unfolding kind_of
returns-in-None c = search rules

pub returns-in-None-2 : goal.returns-in-None-2
unfolding kind_of
returns-in-None-2 c = search rules

pub returns-in-None-2-2 : goal.returns-in-None-2-2
unfolding kind_of
returns-in-None-2-2 c = search rules
