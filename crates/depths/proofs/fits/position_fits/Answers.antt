-- The test of a position is `followed` of its flow: by its row, and by the kind of its opcode.
use Rattle.std.proofs.Common.{◌≡◌, ◌-◌, sym, ap, ◌∙◌, arith}
use Rattle.depths.proofs.Flows.{kind-other, kind-saves, flow-unfit, flow-plain, flow-jump, flow-last, flow-saves, flow-unlisted, flow_next}
use Rattle.depths.proofs.Bools.{last-follows}
use Rattle.depths.specs.Test.{followed_in}
use Rattle.mcode.specs.Depths.{depth_of}
use Rattle.mcode.proofs.Marks.{passed-own, passed-floor}
use Rattle.depths.proofs.fits.position_fits.Goals as goal

pub overflow_sub-mark : goal.overflow_sub-mark
overflow_sub-mark c = omega (arith, passed-own c.args.mark, passed-floor c.args.mark (depth_of c.args.mark))

pub row_at-requires : goal.row_at-requires
row_at-requires c =
    let d : c.args.mark - c.args.floor ≡ depth_of c.args.mark = omega (arith, passed-own c.args.mark, passed-floor c.args.mark (depth_of c.args.mark)) in
    (omega (arith, c.args.rules.now.code.sound.short), c.requires.mark_value.0, d)

pub returns-in_default : goal.returns-in_default
returns-in_default c =
    let r = c.args.rules.now in
    sym (ap (followed_in c.args.map.now) (flow-unfit r.code.image.now r.program.now r.code.m c.args.p c.args.mark c.requires.mark_value.0 r.code.bytes.now r.code.begins _ c.requires.p_lt_length.1 (sym c.row_at.ensures ∙ c.in_default.is)))

pub returns-then-kind-le-PLAIN : goal.returns-then-kind-le-PLAIN
returns-then-kind-le-PLAIN c =
    let r = c.args.rules.now in
    let q = sym c.row_at.ensures ∙ c.in-Some.is in
    c.has_mark.ensures ∙ sym (ap (followed_in c.args.map.now) (flow-plain r.code.image.now r.program.now r.code.m c.args.p c.args.mark c.requires.mark_value.0 r.code.bytes.now r.code.begins _ c.requires.p_lt_length.1 _ _ q _ c.row_of-kind.ensures.kind c.if-kind-le-PLAIN.true))

pub returns-then-kind-le-JUMP : goal.returns-then-kind-le-JUMP
returns-then-kind-le-JUMP c =
    let r = c.args.rules.now in
    let q = sym c.row_at.ensures ∙ c.in-Some.is in
    c.follows.ensures
    ∙ ap (followed_in c.args.map.now) (c.jump-f.ensures ∙ sym (flow-jump r.code.image.now r.program.now r.code.m c.args.p c.args.mark c.requires.mark_value.0 r.code.bytes.now r.code.begins _ c.requires.p_lt_length.1 _ _ q _ c.row_of-kind.ensures.kind c.if-kind-le-PLAIN.false c.if-kind-le-JUMP.true _ c.target_at-t.ensures))

pub returns-then-kind-le-LAST : goal.returns-then-kind-le-LAST
returns-then-kind-le-LAST c =
    let r = c.args.rules.now in
    let q = sym c.row_at.ensures ∙ c.in-Some.is in
    c.permitted.ensures ∙ sym (ap (followed_in c.args.map.now) (flow-last r.code.image.now r.program.now r.code.m c.args.p c.args.mark c.requires.mark_value.0 r.code.bytes.now r.code.begins _ c.requires.p_lt_length.1 _ _ q _ c.row_of-kind.ensures.kind c.if-kind-le-JUMP.false c.if-kind-le-LAST.true) ∙ last-follows c.args.map.now _)

pub onward_at-f-requires : goal.onward_at-f-requires
onward_at-f-requires c = kind-other _ _ c.row_of-kind.ensures.kind c.if-kind-le-LAST.false c.if-kind-le-NAMES.true

pub returns-then-kind-le-NAMES : goal.returns-then-kind-le-NAMES
returns-then-kind-le-NAMES c =
    let r = c.args.rules.now in
    let q = sym c.row_at.ensures ∙ c.in-Some.is in
    c.follows-then-kind-le-NAMES.ensures
    ∙ ap (followed_in c.args.map.now) (c.onward_at-f.ensures c.args.p ∙ sym (flow_next r.code.image.now r.program.now r.code.m c.args.p c.args.mark c.requires.mark_value.0 r.code.bytes.now r.code.begins _ c.requires.p_lt_length.1 _ _ q _ c.row_of-kind.ensures.kind c.if-kind-le-LAST.false c.if-kind-le-NAMES.true _ _ c.byte_at-b.ensures c.byte_at-c.ensures))

pub moved-f-requires : goal.moved-f-requires
moved-f-requires c = (kind-saves _ _ c.row_of-kind.ensures.kind c.if-kind-le-NAMES.false c.if-kind-le-SAVES.true, c.requires.mark_value.0)

pub returns-then-kind-le-SAVES : goal.returns-then-kind-le-SAVES
returns-then-kind-le-SAVES c =
    let r = c.args.rules.now in
    let q = sym c.row_at.ensures ∙ c.in-Some.is in
    c.follows-then-kind-le-SAVES.ensures
    ∙ ap (followed_in c.args.map.now) (c.moved-f.ensures _ ∙ sym (flow-saves r.code.image.now r.program.now r.code.m c.args.p c.args.mark c.requires.mark_value.0 r.code.bytes.now r.code.begins _ c.requires.p_lt_length.1 _ _ q _ c.row_of-kind.ensures.kind c.if-kind-le-NAMES.false c.if-kind-le-SAVES.true))

pub returns : goal.returns
returns c =
    let r = c.args.rules.now in
    let q = sym c.row_at.ensures ∙ c.in-Some.is in
    sym (ap (followed_in c.args.map.now) (flow-unlisted r.code.image.now r.program.now r.code.m c.args.p c.args.mark c.requires.mark_value.0 r.code.bytes.now r.code.begins _ c.requires.p_lt_length.1 _ _ q _ c.row_of-kind.ensures.kind c.if-kind-le-SAVES.false))
