use native.Mathlib.Omega.{arith}
use Rattle.mcode.specs.Depths.{promised, saves, list_of}
use Rattle.marks.proofs.Laws.{fetched-by}
use Rattle.mcode.proofs.Marks.{fetch-permitted}
use Rattle.marks.proofs.fetch_mark.Goals as goal

pub overflow_add-front_of : goal.overflow_add-front_of
overflow_add-front_of c = omega (arith, c.front_of.ensures, (fetch-permitted _ c.requires).1)

pub overflow_sub-saves_of : goal.overflow_sub-saves_of
overflow_sub-saves_of c = omega (arith, c.saves_of.ensures, (fetch-permitted _ c.requires).2)

pub pack-requires : goal.pack-requires
unfolding promised saves list_of
pack-requires c = (omega (arith, c.front_of.ensures, (fetch-permitted _ c.requires).1), omega (arith, c.promised_of.ensures), omega (arith, c.saves_of.ensures), omega (arith, c.list_of.ensures))

pub returns : goal.returns
returns c = fetched-by _ _ _ _ _ _ c.pack.ensures.0 c.front_of.ensures c.promised_of.ensures c.saves_of.ensures (omega (arith, c.list_of.ensures))
