-- The entries are visited; the loop keeps the queue and the entries that are marked.
use Rattle.std.proofs.Common.{refl, ◌∙◌, below_none}
use Rattle.walk.specs.Set.{walk_of}
use Rattle.depths.proofs.Theory.{blank-queue, enter-tail}
use Rattle.walk.proofs.Laws.{real, reals, visited}
use Rattle.walk.proofs.enter.Goals as goal

pub loop-i-init : goal.loop-i-init
loop-i-init c = rw c.requires.map_value (blank-queue (walk_of c.args.code.now) c.args.work.now c.requires.length_in_bounds, below_none _, refl)

pub loop-i-preserved : goal.loop-i-preserved
loop-i-preserved c =
    let k = c.args.code.now in
    let l = c.loop-i in
    let (Q, E, same) = l.invariant in
    let lt = rw c.proc_count-n.ensures.0 at c.loop-i-test.true in
    let r = c.reach-t in
    let D = visited k l.map l.work 0 l.t Q _ (k.sound.entries l.i lt) r.result r.new.map r.new.work (rw c.entry_of-q.ensures at r.ensures) in
    let (Q', E') = enter-tail (walk_of k) l.map l.work l.t l.i Q E lt (reals k) (real k) r.result r.new.map r.new.work D in
    (Q', E', r.auto.work ∙ same)
