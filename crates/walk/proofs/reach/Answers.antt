-- A visit marks and queues a position of the code that is unmarked: a free place in the map leaves one in the queue.
use mathlib.Core.Path.{refl, ◌∙◌}
use mathlib.Core.Logic.{inl, inr}
use Rattle.mcode.specs.Depths.{unmarked}
use Rattle.depths.proofs.Lists.{get_d_any, free-pos}
use native.Mathlib.Omega.{arith}
use Rattle.walk.proofs.reach.Goals as goal
use Rattle.walk.proofs.reach.Goals.{else-q-map-via-then-q-map+else-map-q, else-q-map-via-else-q-map}

pub bounds-work-t : goal.bounds-work-t
bounds-work-t c =
    let a = c.args in
    let l = c.if-q-map.true in
    omega (arith, free-pos unmarked a.map.now a.q l (get_d_any a.map.now a.q unmarked 0 l ∙ c.if-map-q.true))

pub returns-then-map-q : goal.returns-then-map-q
returns-then-map-q c =
    let a = c.args in
    let l = c.if-q-map.true in
    inl (l, get_d_any a.map.now a.q unmarked 0 l ∙ c.if-map-q.true, refl, refl, refl)

pub returns : goal.returns
returns c =
    let a = c.args in
    inr (
      λ l z. elim c.else-q-map.branch [
        | else-q-map-via-then-q-map+else-map-q w ↦ w.if-map-q.false (get_d_any a.map.now a.q 0 unmarked l ∙ z)
        | else-q-map-via-else-q-map w ↦ omega (arith, l, w.if-q-map.false)
      ],
      refl,
      refl,
      refl,
    )
