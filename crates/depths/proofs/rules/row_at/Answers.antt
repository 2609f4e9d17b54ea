-- The row of an opcode, by its tests: the mark that it leaves has the words taken less and the words left more.
use Rattle.std.proofs.Common.{◌+◌, ◌-◌, ◌<◌, ◌≤◌, get_or, refl, arith, le-ltb, lt-ltb}
use Rattle.mcode.specs.Opcode.{lengths, takens, lefts}
use Rattle.mcode.specs.Depths.{depth_of}
use Rattle.mcode.proofs.Marks.{depth_below, mark-small, passed-row}
use Rattle.depths.specs.Cases.{row_at}
use Rattle.depths.proofs.rules.row_at.Goals as goal
use Rattle.depths.proofs.rules.row_at.Goals.{then-length-n-via-then-length-n, then-length-n-via-else-length-n+then-d-row, then-length-n-via-else-length-n+else-d-row+then-d-row-gt16}

pub overflow_add-d : goal.overflow_add-d
overflow_add-d c = omega (arith, c.row_of-row.ensures.left.1, c.requires.2, depth_below c.args.mark, mark-small _ c.requires.1)

pub returns-then-length-n : goal.returns-then-length-n
unfolding row_at
returns-then-length-n c =
    let a = c.args in
    let s = c.row_of-row.ensures.length.0 in
    let t = c.row_of-row.ensures.taken.0 in
    elim c.then-length-n.branch [
      | then-length-n-via-then-length-n w ↦ rw (lt-ltb a.length (a.p + get_or lengths a.op 0) (omega (arith, s, w.if-length-n.true))) refl
      | then-length-n-via-else-length-n+then-d-row w ↦
          let x : depth_of a.mark < get_or takens a.op 0 = omega (arith, t, c.requires.2, w.if-d-row.true) in
          rw (le-ltb a.length (a.p + get_or lengths a.op 0) (omega (arith, s, w.if-length-n.false)), lt-ltb _ _ x) refl
      | then-length-n-via-else-length-n+else-d-row+then-d-row-gt16 w ↦
          let x : get_or takens a.op 0 ≤ depth_of a.mark = omega (arith, t, c.requires.2, w.if-d-row.false) in
          let y : 16 < depth_of a.mark - get_or takens a.op 0 + get_or lefts a.op 0 = omega (arith, t, c.row_of-row.ensures.left.0, c.requires.2, w.if-d-row-gt16.true) in
          rw (le-ltb a.length (a.p + get_or lengths a.op 0) (omega (arith, s, w.if-length-n.false)), le-ltb _ _ x, lt-ltb _ _ y) refl
    ]

pub overflow_sub-result : goal.overflow_sub-result
overflow_sub-result c = omega (arith, c.if-d-row.false, c.requires.2, depth_below c.args.mark)

pub overflow_add-result : goal.overflow_add-result
overflow_add-result c = omega (arith, c.row_of-row.ensures.left.1, mark-small _ c.requires.1)

pub returns : goal.returns
unfolding row_at
returns c =
    let a = c.args in
    let s = c.row_of-row.ensures.length.0 in
    let t = c.row_of-row.ensures.taken.0 in
    let l = c.row_of-row.ensures.left.0 in
    let x : get_or takens a.op 0 ≤ depth_of a.mark = omega (arith, t, c.if-d-row.false, c.requires.2) in
    let y : depth_of a.mark - get_or takens a.op 0 + get_or lefts a.op 0 ≤ 16 = omega (arith, t, l, c.if-d-row-gt16.false, c.requires.2) in
    let z : a.p + get_or lengths a.op 0 ≤ a.length = omega (arith, s, c.if-length-n.false) in
    rw (s, t, l, le-ltb _ _ z, le-ltb _ _ x, le-ltb _ _ y, passed-row a.mark (get_or takens a.op 0) (get_or lefts a.op 0) x) refl
