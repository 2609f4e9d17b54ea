-- The first cause that holds: the tests of `cause_at`, in its order.
use Rattle.std.proofs.Common.{ℕ, ◌+◌, Bool, not, get_or, sym, ap, ◌∙◌, arith, Some, None}
use Rattle.mcode.specs.Word.{pick}
use Rattle.mcode.specs.Opcode.{lengths}
use Rattle.mcode.specs.declared.Cause.TheVariants.{Successor}
use Rattle.walk.proofs.Laws.{code-at}
use Rattle.walk.proofs.Opcodes.{cause-none, cause-cut, cause-name, cause-ways}
use Rattle.walk.proofs.causes.cause_at.Goals as goal

pub returns-then-row-gt-SAVES : goal.returns-then-row-gt-SAVES
returns-then-row-gt-SAVES c = sym (cause-none c.args.code.now c.args.p _ c.row_of-row.ensures.kind c.args.program.now c.if-row-gt-SAVES.true)

pub returns-then-code-p : goal.returns-then-code-p
returns-then-code-p c =
    let a = c.args in
    let size = c.row_of-row.ensures.length.0 ∙ ap (λ (o : ℕ). get_or lengths o 0) (code-at a.code.now a.p) in
    sym (cause-cut a.code.now a.p _ c.row_of-row.ensures.kind a.program.now c.if-row-gt-SAVES.false (omega (arith, size, c.if-code-p.true)))

pub returns-then-not-is_named : goal.returns-then-not-is_named
returns-then-not-is_named c =
    let a = c.args in
    let k = a.code.now in
    let size = c.row_of-row.ensures.length.0 ∙ ap (λ (o : ℕ). get_or lengths o 0) (code-at k a.p) in
    let named = rw (c.byte_at-b.ensures, c.byte_at-c.ensures, code-at k a.p, code-at k (a.p + 1), code-at k (a.p + 2)) at c.is_named.ensures in
    sym (cause-name k a.p _ c.row_of-row.ensures.kind a.program.now c.if-row-gt-SAVES.false (omega (arith, size, c.if-code-p.false)) (sym named ∙ c.if-not-is_named.true))

pub returns-then-not-stays_in : goal.returns-then-not-stays_in
returns-then-not-stays_in c =
    let a = c.args in
    let k = a.code.now in
    let size = c.row_of-row.ensures.length.0 ∙ ap (λ (o : ℕ). get_or lengths o 0) (code-at k a.p) in
    let named = rw (c.byte_at-b.ensures, c.byte_at-c.ensures, code-at k a.p, code-at k (a.p + 1), code-at k (a.p + 2)) at c.is_named.ensures in
    sym (cause-ways k a.p _ c.row_of-row.ensures.kind a.program.now c.if-row-gt-SAVES.false (omega (arith, size, c.if-code-p.false)) (sym named ∙ c.if-not-is_named.false) _ c.ways_at-f.ensures
    ∙ ap (λ (t : Bool). pick (not t) (Some Successor) None) (sym c.stays_in.ensures ∙ c.if-not-stays_in.true))

pub returns : goal.returns
returns c =
    let a = c.args in
    let k = a.code.now in
    let size = c.row_of-row.ensures.length.0 ∙ ap (λ (o : ℕ). get_or lengths o 0) (code-at k a.p) in
    let named = rw (c.byte_at-b.ensures, c.byte_at-c.ensures, code-at k a.p, code-at k (a.p + 1), code-at k (a.p + 2)) at c.is_named.ensures in
    sym (cause-ways k a.p _ c.row_of-row.ensures.kind a.program.now c.if-row-gt-SAVES.false (omega (arith, size, c.if-code-p.false)) (sym named ∙ c.if-not-is_named.false) _ c.ways_at-f.ensures
    ∙ ap (λ (t : Bool). pick (not t) (Some Successor) None) (sym c.stays_in.ensures ∙ c.if-not-stays_in.false))
