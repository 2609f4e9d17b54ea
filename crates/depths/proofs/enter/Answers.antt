-- The entries are visited with their parameter counts; the loop keeps the queue and the entries that are marked.
use Rattle.std.proofs.Common.{refl, ◌∙◌, below_none}
use Rattle.depths.specs.Lent.{depths_of}
use Rattle.depths.proofs.Theory.{blank-map, blank-queue, enter-clash, enter-tail}
use Rattle.depths.proofs.Marks.{real-flow, packed-entry, real-entry, visited-marks}
use Rattle.depths.proofs.enter.Goals as goal

pub loop-i-init : goal.loop-i-init
loop-i-init c =
    let A = depths_of c.args.rules.now in
    rw c.requires.map_value (blank-queue A c.args.work.now c.requires.length_in_bounds, below_none _, refl, λ p h. absurd (h (blank-map A p)))

pub returns-in_err-t : goal.returns-in_err-t
returns-in_err-t c =
    let r = c.args.rules.now in
    let l = c.loop-i in
    let lt = rw c.proc_count-n.ensures.0 at c.loop-i-test.true in
    let D = rw (c.entry_of-q.ensures, c.entry_mark-d.ensures, c.in_err-t.was) at c.enqueue.ensures in
    rw c.from_residual.ensures (enter-clash (depths_of r) l.map l.work l.t l.i l.invariant.0 l.invariant.1 lt (real-entry r) c.enqueue.new.map c.enqueue.new.work D, tt)

pub loop-i-preserved : goal.loop-i-preserved
loop-i-preserved c =
    let r = c.args.rules.now in
    let l = c.loop-i in
    let lt = rw c.proc_count-n.ensures.0 at c.loop-i-test.true in
    let D = rw (c.entry_of-q.ensures, c.entry_mark-d.ensures, c.in_ok-t.was) at c.enqueue.ensures in
    let (Q, E) = enter-tail (depths_of r) l.map l.work l.t l.i l.invariant.0 l.invariant.1 lt (real-entry r) (real-flow r) _ _ _ D in
    (Q, E, c.enqueue.auto.work ∙ l.invariant.2, visited-marks l.map l.work l.t _ _ _ _ _ D (packed-entry r l.i lt) l.invariant.3)
