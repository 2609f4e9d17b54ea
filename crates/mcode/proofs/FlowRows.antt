-- What the rules say follows an opcode is what its action does: one line for all 256 rows, each by computing. Assumes nothing.
use mathlib.Core.Path.{sym, subst}
use mathlib.Core.Logic.{⊎_elim}
use mathlib.Core.List.{List}
use Prim.Native.Nat.{ℕ, zero, suc, ◌-◌, ◌≤◌, ◌<◌}
use native.Mathlib.Nat.{eq-or-lt_of_le, not-suc-le-zero}
use native.Mathlib.Omega.{arith}
use lib.ListN.{get_or}
use lib.Dec.{ltb, eqb}
use borrow.Author.Tests.{ne_eqb}
use Rattle.mcode.specs.declared.Module.{Module}
use Rattle.mcode.specs.declared.Program.{Program}
use Rattle.mcode.specs.declared.Registers.{Registers}
use Rattle.mcode.specs.declared.Flow.{Flow}
use Rattle.mcode.specs.declared.Flow.TheVariants.{Ends, To, Fork}
use Rattle.mcode.specs.Decode.{Action, Put, AddTop, Jump, JumpZero, OrJump, AndJump, Load, LoadTop, LoadIndexed, Store, StoreBelow, StoreIndexed, LoadByte, StoreByte, One, Two, Three, Copy, Nothing, Read, Write, Trap, Enter, Follow, Call, CallLinked, CallExternal, Return, Transfer, PutPair, LoadPair, LoadPairTop, StorePair, StorePairBelow, Double, Save, Fetch}
use Rattle.mcode.specs.Word.{pick}
use Rattle.mcode.specs.Opcode.{lengths}
use Rattle.mcode.specs.Depths.{Follows, depths, carry, onward, jumps, calls, calls_in}
use Rattle.mcode.specs.Decode.{decode_of, row1, row2, row3, loads, stores, row8, row9, row10, row11, row12, row13, row14, row15}
use Rattle.mcode.proofs.Standing.{met}

-- what follows an action, with the next position n and the depth e that its row says
abbrev pub flow_of : List ℕ → Program → Module → ℕ → ℕ → Action → Flow
flow_of image program m n e (Put v) = To n e
flow_of image program m n e (AddTop b) = To n e
flow_of image program m n e (Jump t) = To t.0 e
flow_of image program m n e (JumpZero t) = Fork t.0 e n e
flow_of image program m n e (OrJump t) = Fork t.0 e n (e - 1)
flow_of image program m n e (AndJump t) = Fork t.0 e n (e - 1)
flow_of image program m n e (Load a) = To n e
flow_of image program m n e (LoadTop k) = To n e
flow_of image program m n e LoadIndexed = To n e
flow_of image program m n e (Store a) = To n e
flow_of image program m n e (StoreBelow k) = To n e
flow_of image program m n e StoreIndexed = To n e
flow_of image program m n e LoadByte = To n e
flow_of image program m n e StoreByte = To n e
flow_of image program m n e (One op) = To n e
flow_of image program m n e (Two op) = To n e
flow_of image program m n e (Three op) = To n e
flow_of image program m n e Copy = To n e
flow_of image program m n e Nothing = To n e
flow_of image program m n e Read = To n e
flow_of image program m n e Write = To n e
flow_of image program m n e Trap = Ends
flow_of image program m n e (Enter b) = To n e
flow_of image program m n e (Follow b) = To n e
flow_of image program m n e (Call i) = calls image m i n e
flow_of image program m n e (CallLinked i) = calls image m i n e
flow_of image program m n e (CallExternal k i) = calls_in image program k i n e
flow_of image program m n e Return = Ends
flow_of image program m n e (Transfer b) = To n e
flow_of image program m n e (PutPair high low) = To n e
flow_of image program m n e (LoadPair a) = To n e
flow_of image program m n e (LoadPairTop k) = To n e
flow_of image program m n e (StorePair a) = To n e
flow_of image program m n e (StorePairBelow k) = To n e
flow_of image program m n e (Double op) = To n e
flow_of image program m n e Save = To n e
flow_of image program m n e Fetch = To n e

module _ (image : List ℕ) (program : Program) (m : Module) (w : List ℕ) (g o : ℕ → ℕ) (n e : ℕ) (r : Registers) (bases : List ℕ) where
  -- the row op, if it is used; g makes the marks
  abbrev Row : ℕ → Type 0
  Row op =
      pick (eqb (get_or lengths op 0) 0) (Unit {0})
      (Follows (depths image program m) w (carry g (onward image program m r.pc.0 op (o 1) (o 2) n e)) → Follows (depths image program m) w (carry g (flow_of image program m n e (decode_of op o r bases).action)))

  abbrev Rows : ℕ → Type 0
  Rows zero = Unit {0}
  Rows (suc k) = Row k × Rows k

  row_of : (n op : ℕ) → op < n → Rows n → Row op
  row_of zero op l t = absurd (not-suc-le-zero l)
  row_of (suc k) op l t =
      let le : op ≤ k = omega arith in
      ⊎_elim (λ q. subst Row (sym q) t.0) (λ h. row_of k op h t.1) (eq-or-lt_of_le le)

  all-rows : Rows 256
  unfolding lengths onward jumps decode_of row1 row2 row3 loads stores row8 row9 row10 row11 row12 row13 row14 row15
  all-rows = (λ f. f, (λ f. f, (λ f. f, (λ f. f, (λ f. f, (λ f. f, (λ f. f, (λ f. f, (λ f. f, (λ f. f, (λ f. f, (λ f. f, (λ f. f, (λ f. f, (λ f. f, (λ f. f, (tt, (λ f. f, (λ f. f, (λ f. f, (λ f. f, (tt, (λ f. f, (λ f. f, (tt, (tt, (tt, (tt, (tt, (tt, (tt, (tt, (tt, (λ f. f, (tt, (tt, (λ f. f, (λ f. f, (λ f. f, (λ f. f, (λ f. f, (tt, (tt, (tt, (λ f. f, (λ f. f, (λ f. f, (λ f. f, (λ f. f, (λ f. f, (λ f. f, (λ f. f, (λ f. f, (λ f. f, (λ f. f, (λ f. f, (tt, (λ f. f, (λ f. f, (λ f. f, (tt, (tt, (tt, (tt, (λ f. f, (λ f. f, (λ f. f, (λ f. f, (λ f. f, (λ f. f, (λ f. f, (λ f. f, (tt, (tt, (λ f. f, (tt, (tt, (λ f. f, (tt, (λ f. f, (tt, (λ f. f, (λ f. f, (λ f. f, (λ f. f, (λ f. f, (tt, (tt, (tt, (tt, (λ f. f, (tt, (tt, (tt, (λ f. f, (λ f. f, (tt, (tt, (tt, (tt, (tt, (tt, (tt, (tt, (tt, (λ f. f, (λ f. f, (tt, (tt, (λ f. f, (λ f. f, (λ f. f, (tt, (tt, (tt, (tt, (tt, (tt, (λ f. f, (λ f. f, (tt, (λ f. f, (λ f. f, (tt, (tt, (λ f. f, (λ f. f, (λ f. f, (λ f. f, (λ f. f, (λ f. f, (λ f. f, (λ f. f, (λ f. f, (λ f. f, (λ f. f, (λ f. f, (λ f. f, (λ f. f, (λ f. f, (λ f. f, (λ f. f, (λ f. f, (λ f. f, (λ f. f, (λ f. f, (λ f. f, (λ f. f, (λ f. f, (λ f. f, (λ f. f, (λ f. f, (λ f. f, (λ f. f, (λ f. f, (λ f. f, (λ f. f, (λ f. f, (λ f. f, (λ f. f, (λ f. f, (λ f. f, (λ f. f, (λ f. f, (λ f. f, (λ f. f, (λ f. f, (λ f. f, (λ f. f, (λ f. f, (λ f. f, (λ f. f, (λ f. f, (λ f. f, (λ f. f, (λ f. f, (λ f. f, (λ f. f, (λ f. f, (λ f. f, (λ f. f, (λ f. f, (λ f. f, (λ f. f, (λ f. f, (λ f. f, (λ f. f, (λ f. f, (λ f. f, (λ f. f, (λ f. f, (λ f. f, (λ f. f, (λ f. f, (λ f. f, (λ f. f, (λ f. f, (λ f. f, (λ f. f, (λ f. f, (λ f. f, (λ f. f, (λ f. f, (λ f. f, (λ f. (met (depths image program m) w g (ltb (o 1) program.count) (To n e) f).1, (λ f. (met (depths image program m) w g (ltb (o 1) program.count) (To n e) f).1, (λ f. f, (λ f. f, (λ f. f, (λ f. f, (λ f. f, (λ f. f, (λ f. f, (λ f. f, (λ f. f, (λ f. f, (λ f. f, (λ f. f, (λ f. f, (λ f. f, (λ f. (met (depths image program m) w g (ltb (o 1) program.count) (To n e) f).1, (λ f. (met (depths image program m) w g (ltb (o 1) program.count) (To n e) f).1, (λ f. f, (λ f. f, (λ f. f, (λ f. f, (λ f. f, (λ f. f, (λ f. f, (λ f. f, (λ f. f, (λ f. f, (λ f. (met (depths image program m) w g (ltb (o 1) program.count) (To n e) f).1, (λ f. f, (λ f. f, (λ f. f, (λ f. f, (λ f. f, (tt, (λ f. f, (λ f. f, (λ f. f, (λ f. f, (λ f. f, (λ f. f, (λ f. f, (λ f. f, (λ f. f, (λ f. f, (λ f. f, (λ f. f, (λ f. f, (λ f. f, (λ f. f, (λ f. f, (λ f. f, tt))))))))))))))))))))))))))))))))))))))))))))))))))))))))))))))))))))))))))))))))))))))))))))))))))))))))))))))))))))))))))))))))))))))))))))))))))))))))))))))))))))))))))))))))))))))))))))))))))))))))))))))))))))))))))))))))))))))))))))))))))))))))))))))))

  pub flow-row : (op : ℕ) → op < 256 → 0 < get_or lengths op 0 → Follows (depths image program m) w (carry g (onward image program m r.pc.0 op (o 1) (o 2) n e))
      → Follows (depths image program m) w (carry g (flow_of image program m n e (decode_of op o r bases).action))
  flow-row op h l f = (rw (ne_eqb (get_or lengths op 0) 0 (λ z. omega arith)) at (row_of 256 op h all-rows)) f
