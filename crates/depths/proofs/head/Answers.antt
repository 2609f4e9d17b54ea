-- The head of the queue and its mark, where one waits.
use Rattle.std.proofs.Common.{refl, arith}
use Rattle.mcode.specs.Depths.{unmarked}
use Rattle.depths.proofs.Lists.{get_d_any}
use Rattle.depths.proofs.head.Goals as goal

pub offset_bounds-work-h : goal.offset_bounds-work-h
offset_bounds-work-h c = omega (arith, (c.requires c.if-h-t.true).0)

pub bounds-work-h : goal.bounds-work-h
bounds-work-h c = (c.requires c.if-h-t.true).0

pub overflow_cast-p : goal.overflow_cast-p
overflow_cast-p c = omega (arith, c.type_inv.work c.args.h)

pub offset_bounds-map-p : goal.offset_bounds-map-p
offset_bounds-map-p c = omega (arith, (c.requires c.if-h-t.true).1, c.type_inv.work c.args.h)

pub bounds-map-p : goal.bounds-map-p
bounds-map-p c = (c.requires c.if-h-t.true).1

pub returns-then-h-t : goal.returns-then-h-t
returns-then-h-t c = (refl, λ l. (refl, get_d_any c.args.map.now _ unmarked 0 (c.requires c.if-h-t.true).1))

pub returns : goal.returns
returns c = (refl, λ l. absurd (omega (arith, l, c.if-h-t.false)))
