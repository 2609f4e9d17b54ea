use Rattle.std.proofs.Common.{arith}
use Rattle.control.proofs.Process.{sizes}
use Rattle.control.proofs.transfer.change.Goals as goal

pub bounds-store-q : goal.bounds-store-q
bounds-store-q c = let z = sizes _ _ _ c.requires.k_lt_most_modules.1 in omega (arith, z.whole)

pub overflow_sub-n : goal.overflow_sub-n
overflow_sub-n c = let z = sizes _ _ _ c.requires.k_lt_most_modules.1 in omega (arith, z.some)

pub bounds-store-s : goal.bounds-store-s
bounds-store-s c = let z = sizes _ _ _ c.requires.k_lt_most_modules.1 in omega (arith, z.some, z.inside)

pub overflow_sub-s : goal.overflow_sub-s
overflow_sub-s c = let z = sizes _ _ _ c.requires.k_lt_most_modules.1 in omega (arith, z.some)

pub overflow_sub-s-2 : goal.overflow_sub-s-2
overflow_sub-s-2 c = let z = sizes _ _ _ c.requires.k_lt_most_modules.1 in omega (arith, z.below)

pub exchange-requires-clause-n_bound : goal.exchange-requires-clause-n_bound
exchange-requires-clause-n_bound c = let z = sizes _ _ _ c.requires.k_lt_most_modules.1 in (z.few, omega (arith, z.below, z.inside))
