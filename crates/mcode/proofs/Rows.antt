-- The rules of the opcode table, each proved once over the whole table by a test that antt computes. Assumes nothing.
use mathlib.Core.Path.{◌≡◌, refl}
use mathlib.Core.Bool.{Bool, true, false}
use mathlib.Core.List.{List}
use Prim.Native.Nat.{ℕ, ◌<◌, ◌≤◌}
use lib.Dec.{T, eqb, leb, eqb→eq, leb→le}
use borrow.Author.Tests.{ne_eqb}
use native.Mathlib.Omega.{arith}
use lib.ListN.{get_or, get_or-eq_default}
use native.Mathlib.Decide.{dec_lt}
use Rattle.mcode.proofs.Every.{at}
use Rattle.mcode.specs.declared.Registers.{Registers}
use Rattle.mcode.specs.Decode.{Action, Put, AddTop, Jump, JumpZero, OrJump, AndJump, Load, LoadTop, LoadIndexed, Store, StoreBelow, StoreIndexed, LoadByte, StoreByte, One, Two, Three, Copy, Nothing, Read, Write, Trap, Enter, Follow, Call, CallLinked, CallExternal, Return, Transfer, PutPair, LoadPair, LoadPairTop, StorePair, StorePairBelow, Double, Save, Fetch}
use Rattle.mcode.specs.Opcode.{lengths, takens, lefts, used_below}
use Rattle.mcode.specs.Demands.{Row, RowRule}
use Rattle.mcode.specs.Decode.{decode_of, row1, row2, row3, loads, stores, row8, row9, row10, row11, row12, row13, row14, row15}

pub row-rule : (op : ℕ) → op < 256 → Row op
unfolding lengths takens lefts
row-rule op h = record {
  long = leb→le (get_or lengths op 0) 5 (at (λ (k x : ℕ). leb x 5) lengths tt op h);
  taken = leb→le (get_or takens op 0) 4 (at (λ (k x : ℕ). leb x 4) takens tt op h);
  left = leb→le (get_or lefts op 0) 2 (at (λ (k x : ℕ). leb x 2) lefts tt op h);
}

pub row-rule-holds : RowRule
unfolding RowRule used_below lengths
row-rule-holds = (row-rule, refl)

-- the words that an action takes from the stack, and those that it then puts, as its row says
abbrev pub taken_by : Action → ℕ
taken_by (Put v) = 0
taken_by (AddTop b) = 1
taken_by (Jump q) = 0
taken_by (JumpZero q) = 1
taken_by (OrJump q) = 1
taken_by (AndJump q) = 1
taken_by (Load a) = 0
taken_by (LoadTop k) = 1
taken_by LoadIndexed = 2
taken_by (Store a) = 1
taken_by (StoreBelow k) = 2
taken_by StoreIndexed = 3
taken_by LoadByte = 2
taken_by StoreByte = 3
taken_by (One op) = 1
taken_by (Two op) = 2
taken_by (Three op) = 3
taken_by Copy = 1
taken_by Nothing = 0
taken_by Read = 2
taken_by Write = 2
taken_by Trap = 1
taken_by (Enter b) = 0
taken_by (Follow b) = 0
taken_by (Call n) = 0
taken_by (CallLinked n) = 1
taken_by (CallExternal m n) = 0
taken_by Return = 0
taken_by (Transfer b) = 2
taken_by (PutPair high low) = 0
taken_by (LoadPair a) = 0
taken_by (LoadPairTop k) = 1
taken_by (StorePair a) = 2
taken_by (StorePairBelow k) = 3
taken_by (Double op) = 4
taken_by Save = 0
taken_by Fetch = 1

abbrev pub left_by : Action → ℕ
left_by (Put v) = 1
left_by (AddTop b) = 1
left_by (Jump q) = 0
left_by (JumpZero q) = 0
left_by (OrJump q) = 1
left_by (AndJump q) = 1
left_by (Load a) = 1
left_by (LoadTop k) = 1
left_by LoadIndexed = 1
left_by (Store a) = 0
left_by (StoreBelow k) = 0
left_by StoreIndexed = 0
left_by LoadByte = 1
left_by StoreByte = 0
left_by (One op) = 1
left_by (Two op) = 1
left_by (Three op) = 1
left_by Copy = 2
left_by Nothing = 0
left_by Read = 0
left_by Write = 0
left_by Trap = 0
left_by (Enter b) = 0
left_by (Follow b) = 1
left_by (Call n) = 0
left_by (CallLinked n) = 0
left_by (CallExternal m n) = 0
left_by Return = 0
left_by (Transfer b) = 0
left_by (PutPair high low) = 2
left_by (LoadPair a) = 2
left_by (LoadPairTop k) = 2
left_by (StorePair a) = 0
left_by (StorePairBelow k) = 0
left_by (Double op) = 2
left_by Save = 0
left_by Fetch = 1

-- the test holds, or the row is unused
either : Bool → Bool → Bool
either true b = true
either false b = b

used : (n : ℕ) (t : Bool) → 0 < n → T (either (eqb n 0) t) → T t
unfolding either
used n t h e = rw (ne_eqb n 0 (λ z. omega arith)) at e

-- what decoding makes of an opcode has the length, the words taken and the words left that the table says
module _ (o : ℕ → ℕ) (r : Registers) (bases : List ℕ) where
  size-test : ℕ → ℕ → Bool
  size-test k x = either (eqb x 0) (eqb x (decode_of k o r bases).size)

  taken-test : ℕ → ℕ → Bool
  taken-test k x = either (eqb (get_or lengths k 0) 0) (eqb x (taken_by (decode_of k o r bases).action))

  left-test : ℕ → ℕ → Bool
  left-test k x = either (eqb (get_or lengths k 0) 0) (eqb x (left_by (decode_of k o r bases).action))

  pub size-row : (op : ℕ) → op < 256 → 0 < get_or lengths op 0 → get_or lengths op 0 ≡ (decode_of op o r bases).size
  unfolding lengths size-test either decode_of row1 row2 row3 loads stores row8 row9 row10 row11 row12 row13 row14 row15
  size-row op h l = eqb→eq (get_or lengths op 0) _ (used (get_or lengths op 0) _ l (at size-test lengths tt op h))

  pub taken-row : (op : ℕ) → op < 256 → 0 < get_or lengths op 0 → get_or takens op 0 ≡ taken_by (decode_of op o r bases).action
  unfolding lengths takens taken-test either decode_of row1 row2 row3 loads stores row8 row9 row10 row11 row12 row13 row14 row15
  taken-row op h l = eqb→eq (get_or takens op 0) _ (used (get_or lengths op 0) _ l (at taken-test takens tt op h))

  pub left-row : (op : ℕ) → op < 256 → 0 < get_or lengths op 0 → get_or lefts op 0 ≡ left_by (decode_of op o r bases).action
  unfolding lengths lefts left-test either decode_of row1 row2 row3 loads stores row8 row9 row10 row11 row12 row13 row14 row15
  left-row op h l = eqb→eq (get_or lefts op 0) _ (used (get_or lengths op 0) _ l (at left-test lefts tt op h))

-- 036, 037, 240, 256, 260, 262 and 354 are the only opcodes of their actions, and calls are those from 355 on
abbrev pub own_op : ℕ → Action → Bool
own_op op (Put v) = true
own_op op (AddTop b) = true
own_op op (Jump q) = true
own_op op (JumpZero q) = true
own_op op (OrJump q) = eqb op 0o36
own_op op (AndJump q) = eqb op 0o37
own_op op (Load a) = true
own_op op (LoadTop k) = true
own_op op LoadIndexed = true
own_op op (Store a) = true
own_op op (StoreBelow k) = true
own_op op StoreIndexed = true
own_op op LoadByte = true
own_op op StoreByte = true
own_op op (One j) = true
own_op op (Two j) = true
own_op op (Three j) = true
own_op op Copy = true
own_op op Nothing = true
own_op op Read = eqb op 0o240
own_op op Write = true
own_op op Trap = true
own_op op (Enter b) = true
own_op op (Follow b) = true
own_op op (Call n) = leb 0o355 op
own_op op (CallLinked n) = leb 0o355 op
own_op op (CallExternal m n) = leb 0o355 op
own_op op Return = eqb op 0o354
own_op op (Transfer b) = eqb op 0o256
own_op op (PutPair high low) = true
own_op op (LoadPair a) = true
own_op op (LoadPairTop k) = true
own_op op (StorePair a) = true
own_op op (StorePairBelow k) = true
own_op op (Double j) = true
own_op op Save = eqb op 0o262
own_op op Fetch = eqb op 0o260

module _ (o : ℕ → ℕ) (r : Registers) (bases : List ℕ) where
  own-test : ℕ → ℕ → Bool
  own-test k x = own_op k (decode_of k o r bases).action

  pub own_row : (op : ℕ) → op < 256 → T (own_op op (decode_of op o r bases).action)
  unfolding lengths own-test decode_of row1 row2 row3 loads stores row8 row9 row10 row11 row12 row13 row14 row15
  own_row op h = at own-test lengths tt op h

beyond : (op : ℕ) → 256 ≤ op → get_or lengths op 0 ≡ 0
unfolding lengths
beyond op l = get_or-eq_default lengths 0 l

-- a listed opcode is a row of the table
pub listed_below : (op : ℕ) → 0 < get_or lengths op 0 → op < 256
listed_below op h = go (dec_lt op 256)
  where
    go : Dec (op < 256) → op < 256
    go (yes l) = l
    go (no n) = absurd (let z : ⊥ = omega (arith, beyond op (omega arith)) in z)
