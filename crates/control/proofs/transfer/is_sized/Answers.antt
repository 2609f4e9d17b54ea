use mathlib.Core.Path.{refl}
use Rattle.control.specs.Transfer.{sized}
use borrow.Author.Tests.{lt-ltb, le-ltb, le-leb, lt-leb}
use Rattle.control.proofs.transfer.is_sized.Goals as goal

pub returns-then-w-q : goal.returns-then-w-q
unfolding sized
returns-then-w-q c = rw (lt-leb _ _ c.if-w-q.true) refl

pub returns-then-v-lt-MARGIN : goal.returns-then-v-lt-MARGIN
unfolding sized
returns-then-v-lt-MARGIN c = rw (le-leb _ _ c.if-w-q.false, lt-leb _ _ c.if-v-lt-MARGIN.true) refl

pub returns-then-w-v : goal.returns-then-w-v
unfolding sized
returns-then-w-v c = rw (le-leb _ _ c.if-w-q.false, le-leb _ _ c.if-v-lt-MARGIN.false, lt-leb _ _ c.if-w-v.true) refl

pub returns-then-s-lt1 : goal.returns-then-s-lt1
unfolding sized
returns-then-s-lt1 c = rw (le-leb _ _ c.if-w-q.false, le-leb _ _ c.if-v-lt-MARGIN.false, le-leb _ _ c.if-w-v.false, lt-leb _ _ c.if-s-lt1.true) refl

pub returns-then-w-s : goal.returns-then-w-s
unfolding sized
returns-then-w-s c = rw (le-leb _ _ c.if-w-q.false, le-leb _ _ c.if-v-lt-MARGIN.false, le-leb _ _ c.if-w-v.false, le-leb _ _ c.if-s-lt1.false, lt-leb _ _ c.if-w-s.true) refl

pub returns-then-k-gt16 : goal.returns-then-k-gt16
unfolding sized
returns-then-k-gt16 c = rw (le-leb _ _ c.if-w-q.false, le-leb _ _ c.if-v-lt-MARGIN.false, le-leb _ _ c.if-w-v.false, le-leb _ _ c.if-s-lt1.false, le-leb _ _ c.if-w-s.false, lt-leb _ _ c.if-k-gt16.true) refl

pub returns-then-s-k : goal.returns-then-s-k
unfolding sized
returns-then-s-k c = rw (le-leb _ _ c.if-w-q.false, le-leb _ _ c.if-v-lt-MARGIN.false, le-leb _ _ c.if-w-v.false, le-leb _ _ c.if-s-lt1.false, le-leb _ _ c.if-w-s.false, le-leb _ _ c.if-k-gt16.false, le-ltb _ _ c.if-s-k.true) refl

pub returns : goal.returns
unfolding sized
returns c = rw (le-leb _ _ c.if-w-q.false, le-leb _ _ c.if-v-lt-MARGIN.false, le-leb _ _ c.if-w-v.false, le-leb _ _ c.if-s-lt1.false, le-leb _ _ c.if-w-s.false, le-leb _ _ c.if-k-gt16.false, lt-ltb _ _ c.if-s-k.false) refl
