use Rattle.std.proofs.Common.{refl, ◌∙◌, length-set, le-ltb, lt-ltb}
use Rattle.mcode.specs.Demands.{PairFact}
use Rattle.mcode.proofs.Pairs.{pair-fact}
use Rattle.actions.proofs.pairs.write.Goals as goal

pub bounds-store-j : goal.bounds-store-j
unfolding PairFact
bounds-store-j c = rw (c.plus-next.ensures, length-set) ((pair-fact _ _).inside ((pair-fact _ _).test c.requires ∙ lt-ltb _ _ c.if-i-store.true)).1

pub returns-then-i-store : goal.returns-then-i-store
unfolding PairFact
returns-then-i-store c = rw ((pair-fact _ _).test c.requires, lt-ltb _ _ c.if-i-store.true, c.plus-next.ensures) (refl, refl)

pub returns-else-i-store : goal.returns-else-i-store
unfolding PairFact
returns-else-i-store c = rw ((pair-fact _ _).test c.requires, le-ltb _ _ c.if-i-store.false) (refl, refl)
