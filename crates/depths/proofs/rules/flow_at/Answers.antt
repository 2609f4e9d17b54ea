-- What follows a position with a mark is `flow_at`: by its row, and by the kind of its opcode.
use Rattle.std.proofs.Common.{sym, refl, ◌∙◌}
use Rattle.depths.proofs.Flows.{kind-other, kind-saves, flow-unfit, flow-plain, flow-jump, flow-last, flow-saves, flow-unlisted, flow_next}
use Rattle.depths.proofs.rules.flow_at.Goals as goal

pub returns-in_default : goal.returns-in_default
returns-in_default c =
    let r = c.args.rules.now in
    sym (flow-unfit r.code.image.now r.program.now r.code.m c.args.p c.args.mark c.requires.1 r.code.bytes.now r.code.begins _ refl (sym c.row_at.ensures ∙ c.in_default.is))

pub returns-then-kind-le-PLAIN : goal.returns-then-kind-le-PLAIN
returns-then-kind-le-PLAIN c =
    let r = c.args.rules.now in
    let q = sym c.row_at.ensures ∙ c.in-Some.is in
    sym (flow-plain r.code.image.now r.program.now r.code.m c.args.p c.args.mark c.requires.1 r.code.bytes.now r.code.begins _ refl _ _ q _ c.row_of-kind.ensures.kind c.if-kind-le-PLAIN.true)

pub returns-then-kind-le-JUMP : goal.returns-then-kind-le-JUMP
returns-then-kind-le-JUMP c =
    let r = c.args.rules.now in
    let q = sym c.row_at.ensures ∙ c.in-Some.is in
    c.jump.ensures
    ∙ sym (flow-jump r.code.image.now r.program.now r.code.m c.args.p c.args.mark c.requires.1 r.code.bytes.now r.code.begins _ refl _ _ q _ c.row_of-kind.ensures.kind c.if-kind-le-PLAIN.false c.if-kind-le-JUMP.true _ c.target_at-t.ensures)

pub returns-then-kind-le-LAST : goal.returns-then-kind-le-LAST
returns-then-kind-le-LAST c =
    let r = c.args.rules.now in
    let q = sym c.row_at.ensures ∙ c.in-Some.is in
    c.last.ensures
    ∙ sym (flow-last r.code.image.now r.program.now r.code.m c.args.p c.args.mark c.requires.1 r.code.bytes.now r.code.begins _ refl _ _ q _ c.row_of-kind.ensures.kind c.if-kind-le-JUMP.false c.if-kind-le-LAST.true)

pub onward_at-requires : goal.onward_at-requires
onward_at-requires c = kind-other _ _ c.row_of-kind.ensures.kind c.if-kind-le-LAST.false c.if-kind-le-NAMES.true

pub returns-then-kind-le-NAMES : goal.returns-then-kind-le-NAMES
returns-then-kind-le-NAMES c =
    let r = c.args.rules.now in
    let q = sym c.row_at.ensures ∙ c.in-Some.is in
    c.onward_at.ensures c.args.p
    ∙ sym (flow_next r.code.image.now r.program.now r.code.m c.args.p c.args.mark c.requires.1 r.code.bytes.now r.code.begins _ refl _ _ q _ c.row_of-kind.ensures.kind c.if-kind-le-LAST.false c.if-kind-le-NAMES.true _ _ c.byte_at-b.ensures c.byte_at-c.ensures)

pub moved-requires : goal.moved-requires
moved-requires c = (kind-saves _ _ c.row_of-kind.ensures.kind c.if-kind-le-NAMES.false c.if-kind-le-SAVES.true, c.requires.1)

pub returns-then-kind-le-SAVES : goal.returns-then-kind-le-SAVES
returns-then-kind-le-SAVES c =
    let r = c.args.rules.now in
    let q = sym c.row_at.ensures ∙ c.in-Some.is in
    c.moved.ensures _
    ∙ sym (flow-saves r.code.image.now r.program.now r.code.m c.args.p c.args.mark c.requires.1 r.code.bytes.now r.code.begins _ refl _ _ q _ c.row_of-kind.ensures.kind c.if-kind-le-NAMES.false c.if-kind-le-SAVES.true)

pub returns : goal.returns
returns c =
    let r = c.args.rules.now in
    let q = sym c.row_at.ensures ∙ c.in-Some.is in
    sym (flow-unlisted r.code.image.now r.program.now r.code.m c.args.p c.args.mark c.requires.1 r.code.bytes.now r.code.begins _ refl _ _ q _ c.row_of-kind.ensures.kind c.if-kind-le-SAVES.false)
