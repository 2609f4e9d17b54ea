use Rattle.std.proofs.lemmas.Result.{err_from_is_err_and}
use Rattle.std.proofs.Common.{refl, ap, sym, lt-ltb, le-ltb, bit_or}
use Rattle.mcode.specs.Step.{perform_of}
use Rattle.actions.proofs.Laws.{bit-fits, picked, refused, stays_at, stays-as, stays_err}
use Rattle.actions.proofs.channels.read.Goals as goal

pub returns-then-a-gt15 : goal.returns-then-a-gt15
unfolding perform_of
returns-then-a-gt15 c = (refl, (λ lent h out. rw (← c.nth_of-a.ensures, lt-ltb _ _ c.if-a-gt15.true)), stays-as _)

pub returns : goal.returns
unfolding perform_of
returns c =
    let e = picked _ _ _ _ (sym c.in_ok-set_word.ensures.0) in (
      rw (c.take.ensures.0, ← c.nth_of-a.ensures) (ap (bit_or c.args.taken.now) (bit-fits c.nth_of-a.result c.if-a-gt15.false)),
      (λ lent h out. rw (h, ← c.nth_of-a.ensures, ← c.nth_of.ensures, le-ltb _ _ c.if-a-gt15.false, c.set_word.ensures.1, e.0, c.take.ensures.0, c.take.ensures.1)),
      stays_at _ _ _ _ c.requires.3 c.take.ensures.0,
    )

pub returns-in_err-set_word : goal.returns-in_err-set_word
unfolding perform_of
returns-in_err-set_word c =
    let p = err_from_is_err_and c.from_residual.result c.from_residual.ensures.1 in
    let e = refused _ _ _ _ (sym c.in_err-set_word.ensures.0) in (
      rw p.1 refl,
      (λ lent h out. rw (← c.nth_of-a.ensures, ← c.nth_of.ensures, le-ltb _ _ c.if-a-gt15.false, p.1, p.2, c.set_word.ensures.1, e.0, e.1)),
      stays_err _ _ _ p.1,
    )
