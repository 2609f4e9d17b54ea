-- The position at h leaves the queue with its successors in the code marked.
use Rattle.std.proofs.Common.{sym, ◌∙◌}
use Rattle.walk.proofs.Laws.{noted-room, turn_one, turn_two}
use Rattle.walk.proofs.step.Goals as goal

pub reach-requires-in-Fork-clause-map_in_bounds : goal.reach-requires-in-Fork-clause-map_in_bounds
reach-requires-in-Fork-clause-map_in_bounds c =
    let a = c.args in
    let r = c.reach-s in
    (noted-room a.map.now a.work.now a.t _ _ r.new.map r.new.work r.ensures c.requires.1.room).0

pub returns-in-To : goal.returns-in-To
returns-in-To c =
    let a = c.args in
    let r = c.reach in
    turn_one a.code.now a.map.now a.work.now a.h a.t c.requires.1 c.requires.0 _ _ (sym c.ways_at.ensures ∙ c.in-To.is)
    r.result r.new.map r.new.work r.ensures

pub returns-in-Fork : goal.returns-in-Fork
returns-in-Fork c =
    let a = c.args in
    let r = c.reach-s in
    let s = c.reach-in-Fork in
    turn_two a.code.now a.map.now a.work.now a.h a.t c.requires.1 c.requires.0 _ _ _ _ (sym c.ways_at.ensures ∙ c.in-Fork.is)
    r.result r.new.map r.new.work r.ensures s.result s.new.map s.new.work s.ensures
