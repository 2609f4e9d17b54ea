use Rattle.std.proofs.Common.{get_or, sym, ◌∙◌, lt-ltb, le-ltb, eq-eqb, ne_eqb}
use Rattle.mcode.specs.Step.{perform_of, process_at, transferred}
use Rattle.actions.proofs.Laws.{stays_at}
use Rattle.control.proofs.Laws.{anchored-on}
use Rattle.control.proofs.Process.{not_so, target-few, target_fits, switched-in, switched-not, anchored-resumed}
use Rattle.control.proofs.transfer.transfer.Goals as goal

pub returns-then-store-a : goal.returns-then-store-a
unfolding perform_of transferred
returns-then-store-a c = ((λ lent bytes words h out. rw (← c.nth_of-a.ensures, le-ltb _ _ c.if-store-a.true)), c.requires.anchored)

pub returns-then-store-c : goal.returns-then-store-c
unfolding perform_of transferred
returns-then-store-c c = ((λ lent bytes words h out. rw (← c.nth_of-a.ensures, ← c.nth_of-c.ensures, lt-ltb _ _ c.if-store-a.false, le-ltb _ _ c.if-store-c.true)), c.requires.anchored)

pub returns-then-q-r : goal.returns-then-q-r
unfolding perform_of transferred
returns-then-q-r c = ((λ lent bytes words h out. rw (← c.nth_of-a.ensures, ← c.nth_of-c.ensures, lt-ltb _ _ c.if-store-a.false, lt-ltb _ _ c.if-store-c.false, eq-eqb _ _ c.if-q-r.true, c.take.ensures.0, c.take.ensures.1)), anchored-on c.requires.anchored (stays_at _ _ _ c.args.r c.requires.lt_depth.1 c.take.ensures.0))

pub returns-then-k-eq-MOST_MODULES : goal.returns-then-k-eq-MOST_MODULES
unfolding perform_of transferred
returns-then-k-eq-MOST_MODULES c = ((λ lent bytes words h out. rw (← c.nth_of-a.ensures, ← c.nth_of-c.ensures, lt-ltb _ _ c.if-store-a.false, lt-ltb _ _ c.if-store-c.false, ne_eqb _ _ c.if-q-r.false) (sym (switched-not h c.args.r _ _ _ out c.requires.mapped (sym c.target-k.ensures ∙ c.if-k-eq-MOST_MODULES.true) _ _ _ _))), c.requires.anchored)

pub change-requires-clause-k_lt_most_modules : goal.change-requires-clause-k_lt_most_modules
change-requires-clause-k_lt_most_modules c =
    let n = not_so c.target-k.ensures c.if-k-eq-MOST_MODULES.false in
    (rw c.target-k.ensures (target-few _ _ _ _ c.requires.mapped n), target_fits _ _ _ _ n)

pub returns : goal.returns
unfolding perform_of transferred
returns c =
    let n = not_so c.target-k.ensures c.if-k-eq-MOST_MODULES.false in
    ((λ lent bytes words h out. rw (← c.nth_of-a.ensures, ← c.nth_of-c.ensures, lt-ltb _ _ c.if-store-a.false, lt-ltb _ _ c.if-store-c.false, ne_eqb _ _ c.if-q-r.false, c.change.ensures.0, c.change.ensures.1, c.change.ensures.2, c.target-k.ensures) (sym (switched-in h c.args.r _ _ _ out c.requires.anchored n _ _ _ _))), anchored-resumed _ _ c.args.b _ (process_at c.args.store.now (get_or c.args.store.now c.nth_of-a.result 0)) c.args.r _ (rw c.target-k.ensures (target-few _ _ _ _ c.requires.mapped n)) c.change.ensures.0)
