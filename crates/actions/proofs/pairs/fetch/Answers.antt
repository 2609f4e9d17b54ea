use Rattle.std.proofs.Common.{◌∙◌, le-ltb, lt-ltb}
use Rattle.mcode.specs.Demands.{PairFact}
use Rattle.mcode.proofs.Pairs.{pair-fact}
use Rattle.actions.proofs.Laws.{stays_at, stays-as}
use Rattle.actions.proofs.pairs.fetch.Goals as goal

pub bounds-store-j : goal.bounds-store-j
unfolding PairFact
bounds-store-j c = rw c.plus-low.ensures ((pair-fact _ _).inside ((pair-fact _ _).test c.requires.1 ∙ lt-ltb _ _ c.if-i-store.true)).1

pub returns-then-i-store : goal.returns-then-i-store
unfolding PairFact
returns-then-i-store c = ((λ out. rw ((pair-fact _ _).test c.requires.1, lt-ltb _ _ c.if-i-store.true, c.place.ensures.0, c.place.ensures.1, c.plus-low.ensures)), stays_at _ _ _ _ c.requires.2 c.place.ensures.0)

pub returns-else-i-store : goal.returns-else-i-store
unfolding PairFact
returns-else-i-store c = ((λ out. rw ((pair-fact _ _).test c.requires.1, le-ltb _ _ c.if-i-store.false)), stays-as _)
