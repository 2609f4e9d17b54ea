-- Where a position leads, by the kind of its opcode.
use Rattle.std.proofs.Common.{◌≡◌, ℕ, ◌+◌, get_or, sym, ap, ap₂, ◌∙◌, arith}
use Rattle.mcode.specs.Opcode.{lengths}
use Rattle.mcode.specs.Word.{byte}
use Rattle.mcode.specs.Image.{code_byte}
use Rattle.mcode.specs.declared.Flow.TheVariants.{To}
use Rattle.mcode.specs.Depths.{jumps}
use Rattle.walk.proofs.Laws.{code-at}
use Rattle.walk.proofs.Opcodes.{way-none, way-cut, way-last, way-jump, way_next}
use Rattle.walk.proofs.ways.ways_at.Goals as goal

pub returns-then-row-gt-SAVES : goal.returns-then-row-gt-SAVES
returns-then-row-gt-SAVES c = sym (way-none c.args.code.now c.args.p _ c.row_of-row.ensures.kind c.if-row-gt-SAVES.true)

pub returns-then-m-n : goal.returns-then-m-n
returns-then-m-n c =
    let a = c.args in
    let size = c.row_of-row.ensures.length.0 ∙ ap (λ (o : ℕ). get_or lengths o 0) (code-at a.code.now a.p) in
    sym (way-cut a.code.now a.p _ c.row_of-row.ensures.kind (omega (arith, size, c.if-m-n.true)))

pub returns-then-row-eq-LAST : goal.returns-then-row-eq-LAST
returns-then-row-eq-LAST c =
    let a = c.args in
    let size = c.row_of-row.ensures.length.0 ∙ ap (λ (o : ℕ). get_or lengths o 0) (code-at a.code.now a.p) in
    sym (way-last a.code.now a.p _ c.row_of-row.ensures.kind c.if-row-gt-SAVES.false (omega (arith, size, c.if-m-n.false)) c.if-row-eq-LAST.true)

pub returns-then-row-eq-JUMP : goal.returns-then-row-eq-JUMP
returns-then-row-eq-JUMP c =
    let a = c.args in
    let k = a.code.now in
    let o = code-at k a.p in
    let size = c.row_of-row.ensures.length.0 ∙ ap (λ (o : ℕ). get_or lengths o 0) o in
    let y : byte k.bytes.now (a.p + 1 + 1) ≡ code_byte k.image.now k.m (a.p + 2) = ap (byte k.bytes.now) (omega arith) ∙ code-at k (a.p + 2) in
    let t = rw (o, code-at k (a.p + 1), y) at c.target_at-t.ensures in
    rw o at c.jump.ensures
    ∙ ap₂ (λ (t n : ℕ). jumps (code_byte k.image.now k.m a.p) t (a.p + n) 0) t size
    ∙ sym (way-jump k a.p _ c.row_of-row.ensures.kind c.if-row-gt-SAVES.false (omega (arith, size, c.if-m-n.false)) c.if-row-eq-JUMP.true)

pub returns : goal.returns
returns c =
    let a = c.args in
    let size = c.row_of-row.ensures.length.0 ∙ ap (λ (o : ℕ). get_or lengths o 0) (code-at a.code.now a.p) in
    ap (λ (n : ℕ). To (a.p + n) 0) size
    ∙ sym (way_next a.code.now a.p _ c.row_of-row.ensures.kind c.if-row-gt-SAVES.false (omega (arith, size, c.if-m-n.false)) c.if-row-eq-LAST.false c.if-row-eq-JUMP.false)
