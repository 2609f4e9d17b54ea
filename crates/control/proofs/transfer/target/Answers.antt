use Rattle.std.proofs.Common.{sym, ◌∙◌, arith}
use Rattle.control.specs.Transfer.{target_in}
use Rattle.control.proofs.Process.{sizes}
use Rattle.control.proofs.transfer.target.Goals as goal

pub returns-then-not-is_sized : goal.returns-then-not-is_sized
unfolding target_in
returns-then-not-is_sized c = rw (sym c.is_sized.ensures ∙ c.if-not-is_sized.true)

pub bounds-store-i : goal.bounds-store-i
bounds-store-i c = let z = sizes _ _ _ (sym c.is_sized.ensures ∙ c.if-not-is_sized.false) in omega (arith, z.whole)

pub bounds-store-i-2 : goal.bounds-store-i-2
bounds-store-i-2 c = let z = sizes _ _ _ (sym c.is_sized.ensures ∙ c.if-not-is_sized.false) in omega (arith, z.whole)

pub bounds-store-i-3 : goal.bounds-store-i-3
bounds-store-i-3 c = let z = sizes _ _ _ (sym c.is_sized.ensures ∙ c.if-not-is_sized.false) in omega (arith, z.whole)

pub overflow_sub-n : goal.overflow_sub-n
overflow_sub-n c = let z = sizes _ _ _ (sym c.is_sized.ensures ∙ c.if-not-is_sized.false) in omega (arith, z.some)

pub bounds-store-s : goal.bounds-store-s
bounds-store-s c = let z = sizes _ _ _ (sym c.is_sized.ensures ∙ c.if-not-is_sized.false) in omega (arith, z.some, z.inside)

pub stands-requires-clause-depth_bound : goal.stands-requires-clause-depth_bound
stands-requires-clause-depth_bound c = let z = sizes _ _ _ (sym c.is_sized.ensures ∙ c.if-not-is_sized.false) in z.few

pub returns-then-not-stands : goal.returns-then-not-stands
unfolding target_in
returns-then-not-stands c =
    let e = rw c.find_base-k.ensures at (sym c.stands.ensures ∙ c.if-not-stands.true) in
    rw (sym c.is_sized.ensures ∙ c.if-not-is_sized.false, e)

pub returns : goal.returns
unfolding target_in
returns c =
    let e = rw c.find_base-k.ensures at (sym c.stands.ensures ∙ c.if-not-stands.false) in
    rw (sym c.is_sized.ensures ∙ c.if-not-is_sized.false, e, c.find_base-k.ensures)
