use Rattle.std.proofs.Common.{arith}
use Rattle.control.proofs.Process.{sizes}
use Rattle.control.proofs.transfer.resume.Goals as goal

pub bounds-store-i : goal.bounds-store-i
bounds-store-i c = let z = sizes _ _ _ c.requires.1 in omega (arith, z.whole)

pub bounds-store-i-2 : goal.bounds-store-i-2
bounds-store-i-2 c = let z = sizes _ _ _ c.requires.1 in omega (arith, z.whole)

pub bounds-store-i-3 : goal.bounds-store-i-3
bounds-store-i-3 c = let z = sizes _ _ _ c.requires.1 in omega (arith, z.whole)

pub bounds-store-i-4 : goal.bounds-store-i-4
bounds-store-i-4 c = let z = sizes _ _ _ c.requires.1 in omega (arith, z.whole)

pub bounds-store-i-else-b-eq0 : goal.bounds-store-i-else-b-eq0
bounds-store-i-else-b-eq0 c = let z = sizes _ _ _ c.requires.1 in omega (arith, z.whole)

pub overflow_sub-n : goal.overflow_sub-n
overflow_sub-n c = let z = sizes _ _ _ c.requires.1 in omega (arith, z.some)

pub bounds-store-above : goal.bounds-store-above
bounds-store-above c = let z = sizes _ _ _ c.requires.1 in omega (arith, z.some, z.inside)

pub overflow_sub-result : goal.overflow_sub-result
overflow_sub-result c = let z = sizes _ _ _ c.requires.1 in omega (arith, z.some)

pub overflow_sub-result-2 : goal.overflow_sub-result-2
overflow_sub-result-2 c = let z = sizes _ _ _ c.requires.1 in omega (arith, z.below)

pub overflow_sub-result-3 : goal.overflow_sub-result-3
overflow_sub-result-3 c = let z = sizes _ _ _ c.requires.1 in omega (arith, z.margin)
