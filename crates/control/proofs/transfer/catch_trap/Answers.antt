use Rattle.std.proofs.Common.{get_or, refl, sym, ◌∙◌, arith}
use Rattle.mcode.specs.Step.{process_at}
use Rattle.control.proofs.Process.{not_so, sizes, caught-few, caught-fits, trapped-in, trapped-not, anchored-resumed}
use Rattle.control.proofs.transfer.catch_trap.Goals as goal

pub returns-then-k-eq-MOST_MODULES : goal.returns-then-k-eq-MOST_MODULES
returns-then-k-eq-MOST_MODULES c = ((λ lent bytes words h j e out. sym (trapped-not h c.args.r _ _ out j c.requires.mapped (rw e (sym c.catcher-k.ensures ∙ c.if-k-eq-MOST_MODULES.true)))), c.requires.anchored)

pub bounds-store-q : goal.bounds-store-q
bounds-store-q c = let z = sizes _ _ _ (caught-fits _ _ _ _ _ c.catcher-k.ensures c.if-k-eq-MOST_MODULES.false refl) in omega (arith, z.whole)

pub overflow_sub-n : goal.overflow_sub-n
overflow_sub-n c = let z = sizes _ _ _ (caught-fits _ _ _ _ _ c.catcher-k.ensures c.if-k-eq-MOST_MODULES.false refl) in omega (arith, z.some)

pub bounds-store-s : goal.bounds-store-s
bounds-store-s c = let z = sizes _ _ _ (caught-fits _ _ _ _ _ c.catcher-k.ensures c.if-k-eq-MOST_MODULES.false refl) in omega (arith, z.some, z.inside)

pub overflow_sub-s : goal.overflow_sub-s
overflow_sub-s c = let z = sizes _ _ _ (caught-fits _ _ _ _ _ c.catcher-k.ensures c.if-k-eq-MOST_MODULES.false refl) in omega (arith, z.some)

pub overflow_sub-s-2 : goal.overflow_sub-s-2
overflow_sub-s-2 c = let z = sizes _ _ _ (caught-fits _ _ _ _ _ c.catcher-k.ensures c.if-k-eq-MOST_MODULES.false refl) in omega (arith, z.below)

pub words_at-words-requires : goal.words_at-words-requires
words_at-words-requires c = let z = sizes _ _ _ (caught-fits _ _ _ _ _ c.catcher-k.ensures c.if-k-eq-MOST_MODULES.false refl) in (z.few, omega (arith, z.below, z.inside))

pub resume_noted-next-requires : goal.resume_noted-next-requires
resume_noted-next-requires c = (caught-few _ _ _ _ _ c.catcher-k.ensures c.if-k-eq-MOST_MODULES.false c.requires.mapped, (caught-fits _ _ _ _ _ c.catcher-k.ensures c.if-k-eq-MOST_MODULES.false refl), c.requires.framed.proc)

pub returns : goal.returns
returns c =
    let n = not_so c.catcher-k.ensures c.if-k-eq-MOST_MODULES.false in
    ((λ lent bytes words h j e out. rw (c.resume_noted-next.ensures.0, c.words_at-words.ensures, c.save_process.ensures, c.resume_noted-next.ensures.1, c.catcher-k.ensures, ← e) (sym (trapped-in h c.args.r _ _ out j c.requires.anchored (rw (← e) at n)))), anchored-resumed _ _ 1 _ (process_at c.args.store.now (get_or c.args.store.now 14 0)) c.args.r _ (caught-few _ _ _ _ _ c.catcher-k.ensures c.if-k-eq-MOST_MODULES.false c.requires.mapped) c.resume_noted-next.ensures.0)
