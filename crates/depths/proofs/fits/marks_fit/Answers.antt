-- The test of the positions; the loop keeps that those before p fit, and that `floor` is a mark at depth 0.
use Rattle.std.proofs.Common.{◌≡◌, ℕ, true, get_or, sym, refl, ◌∙◌, arith, below_none, below_more}
use Rattle.mcode.specs.Depths.{depth_of, promised, saves, list_of, is_list, is_mark}
use Rattle.mcode.proofs.Tests.{and_both, at_all}
use Rattle.mcode.proofs.Marks.{mark-real}
use Rattle.depths.specs.Lent.{depths_of}
use Rattle.depths.specs.Test.{mark_fits}
use Rattle.depths.proofs.Bools.{Floor, one-fails, floor-real, mark-tested, mark-odd}
use Rattle.depths.proofs.fits.marks_fit.Goals as goal
use Rattle.depths.proofs.fits.marks_fit.Goals.{then-not-has_floor+else-mark+else-not-is_mark, else-not-has_floor}

pub loop-p-init : goal.loop-p-init
unfolding is_mark depth_of promised saves list_of is_list
loop-p-init c = ((refl, refl), below_none _)

pub returns-then-not-is_mark : goal.returns-then-not-is_mark
returns-then-not-is_mark c =
    let r = c.args.rules.now in
    let A = depths_of r in
    let p = c.loop-p.p in
    sym (one-fails A.size (mark_fits A c.args.map.now) p (omega (arith, c.requires))
    (mark-odd r c.args.map.now p c.loop-p-test.true c.if-mark.false (sym c.is_mark.ensures ∙ c.if-not-is_mark.true)))

pub returns-then-not-position_fits : goal.returns-then-not-position_fits
returns-then-not-position_fits c =
    let r = c.args.rules.now in
    let A = depths_of r in
    let p = c.loop-p.p in
    let real : is_mark (get_or c.args.map.now p 0) ≡ true = elim c.if-not-has_floor.branch [
      | then-not-has_floor+else-mark+else-not-is_mark w ↦ sym w.is_mark.ensures ∙ w.if-not-is_mark.false
      | else-not-has_floor w ↦ (and_both _ _ (sym c.has_floor.ensures ∙ w.if-not-has_floor.false)).0
    ] in
    sym (one-fails A.size (mark_fits A c.args.map.now) p (omega (arith, c.requires))
    (mark-tested r c.args.map.now p _ c.loop-p-test.true (mark-real _ real) c.position_fits.ensures ∙ c.if-not-position_fits.true))

pub loop-p-preserved : goal.loop-p-preserved
loop-p-preserved c =
    let r = c.args.rules.now in
    let p = c.loop-p.p in
    let k = get_or c.args.map.now p 0 in
    let (real, low) : (is_mark k ≡ true) × Floor c.if-not-has_floor.floor = elim c.if-not-has_floor.branch [
      | then-not-has_floor+else-mark+else-not-is_mark w ↦
          let t = sym w.is_mark.ensures ∙ w.if-not-is_mark.false in
          (t, rw (w.floor-is, w.passed_on-floor.ensures) (floor-real k t))
      | else-not-has_floor w ↦ ((and_both _ _ (sym c.has_floor.ensures ∙ w.if-not-has_floor.false)).0, rw w.floor-is c.loop-p.invariant.0)
    ] in (
      low,
      below_more (λ (j : ℕ). mark_fits (depths_of r) c.args.map.now j ≡ true) p c.loop-p.invariant.1
          (mark-tested r c.args.map.now p _ c.loop-p-test.true (mark-real _ real) c.position_fits.ensures ∙ c.if-not-position_fits.false),
    )

pub returns : goal.returns
returns c =
    let A = depths_of c.args.rules.now in
    sym (at_all A.size (mark_fits A c.args.map.now) (λ j l. c.loop-p.invariant.1 j (omega (arith, c.requires))))
