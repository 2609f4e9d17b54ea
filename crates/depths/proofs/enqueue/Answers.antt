-- A visit marks and queues an unmarked position, and clashes with another mark: a free place in the map leaves one in the queue.
use Rattle.std.proofs.Common.{refl, ◌∙◌, inl, inr, arith}
use Rattle.mcode.specs.Depths.{unmarked}
use Rattle.depths.proofs.Lists.{get_d_any, free-pos}
use Rattle.depths.proofs.enqueue.Goals as goal

pub returns-then-map-q : goal.returns-then-map-q
returns-then-map-q c = inl c.if-map-q.true

pub bounds-work-t : goal.bounds-work-t
bounds-work-t c =
    let a = c.args in
    omega (arith, free-pos unmarked a.map.now a.q c.if-map-q.false (get_d_any a.map.now a.q unmarked 0 c.if-map-q.false ∙ c.if-old.true))

pub returns-then-old : goal.returns-then-old
returns-then-old c =
    let a = c.args in
    let l = c.if-map-q.false in
    (l, inl (get_d_any a.map.now a.q unmarked 0 l ∙ c.if-old.true, refl, refl, refl))

pub returns-then-old-d : goal.returns-then-old-d
returns-then-old-d c =
    let a = c.args in
    let l = c.if-map-q.false in
    (l, inr (get_d_any a.map.now a.q unmarked 0 l ∙ c.if-old-d.true, refl, refl, refl))

pub returns : goal.returns
returns c =
    let a = c.args in
    let l = c.if-map-q.false in
    let s = get_d_any a.map.now a.q 0 unmarked l in
    inr (l, (λ z. c.if-old.false (s ∙ z)), (λ z. c.if-old-d.false (s ∙ z)))
