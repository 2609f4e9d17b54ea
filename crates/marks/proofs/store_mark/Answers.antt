use native.Mathlib.Omega.{arith}
use Rattle.mcode.specs.Depths.{depth_of, promised}
use Rattle.marks.proofs.Laws.{stored-by}
use Rattle.mcode.proofs.Marks.{store-permitted, list-room}
use Rattle.marks.proofs.store_mark.Goals as goal

pub overflow_add-saves_of : goal.overflow_add-saves_of
overflow_add-saves_of c = omega (arith, c.saves_of.ensures, store-permitted _ c.requires.1)

pub overflow_add-depth_of : goal.overflow_add-depth_of
unfolding depth_of
overflow_add-depth_of c = omega (arith, c.depth_of.ensures, c.list_of.ensures, list-room _ c.requires.0 (store-permitted _ c.requires.1))

pub pack-requires : goal.pack-requires
unfolding depth_of promised
pack-requires c = (omega arith, omega (arith, c.promised_of.ensures), omega (arith, c.saves_of.ensures, store-permitted _ c.requires.1), omega (arith, c.depth_of.ensures, c.list_of.ensures, list-room _ c.requires.0 (store-permitted _ c.requires.1)))

pub returns : goal.returns
returns c =
    stored-by _ _ _ _ _ _ c.pack.ensures.0 c.promised_of.ensures c.saves_of.ensures c.depth_of.ensures
    (omega (arith, c.list_of.ensures, list-room _ c.requires.0 (store-permitted _ c.requires.1)))
