use Rattle.std.proofs.Common.{◌*◌, get_or, sym, ◌∙◌, eq-eqb, ne_eqb}
use Rattle.mcode.specs.Step.{process_at, taken_line}
use Rattle.control.proofs.Process.{not_so, target-few, target_fits, switched-in, switched-not, anchored-resumed}
use Rattle.control.proofs.transfer.take_line.Goals as goal

pub returns-then-q-r : goal.returns-then-q-r
unfolding taken_line
returns-then-q-r c = ((λ lent bytes words h out. rw (eq-eqb _ _ c.if-q-r.true)), c.requires.anchored)

pub returns-then-k-eq-MOST_MODULES : goal.returns-then-k-eq-MOST_MODULES
unfolding taken_line
returns-then-k-eq-MOST_MODULES c = ((λ lent bytes words h out. rw (ne_eqb _ _ c.if-q-r.false) (sym (switched-not h c.args.r _ _ _ out c.requires.mapped (sym c.target-k.ensures ∙ c.if-k-eq-MOST_MODULES.true) _ _ _ _))), c.requires.anchored)

pub change-requires-clause-k_lt_most_modules : goal.change-requires-clause-k_lt_most_modules
change-requires-clause-k_lt_most_modules c =
    let n = not_so c.target-k.ensures c.if-k-eq-MOST_MODULES.false in
    (rw c.target-k.ensures (target-few _ _ _ _ c.requires.mapped n), target_fits _ _ _ _ n)

pub returns : goal.returns
unfolding taken_line
returns c =
    let n = not_so c.target-k.ensures c.if-k-eq-MOST_MODULES.false in
    ((λ lent bytes words h out. rw (ne_eqb _ _ c.if-q-r.false, c.change.ensures.0, c.change.ensures.1, c.change.ensures.2, c.target-k.ensures) (sym (switched-in h c.args.r _ _ _ out c.requires.anchored n _ _ _ _))), anchored-resumed _ _ 1 _ (process_at c.args.store.now (get_or c.args.store.now (2 * c.args.i) 0)) c.args.r _ (rw c.target-k.ensures (target-few _ _ _ _ c.requires.mapped n)) c.change.ensures.0)
