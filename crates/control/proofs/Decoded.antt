-- What the last two rows decode and ask. Assumes nothing.
use Rattle.std.specs.Prelude.{Ok, Err}
use mathlib.Core.Path.{◌≡◌, refl}
use mathlib.Core.Bool.{Bool, true, false}
use mathlib.Core.Logic.{inr}
use mathlib.Core.List.{List, [], ◌∷◌}
use Prim.Native.Nat.{ℕ, ◌-◌, ◌/◌, ◌≤◌, ◌<◌}
use native.Mathlib.Omega.{arith}
use lib.Dec.{eqb, ltb, leb}
use lib.ListN.{length, get_or}
use borrow.Author.Tests.{eqb-true, eqb-false, lt-leb}
use Rattle.mcode.specs.Word.{pick, all_below}
use Rattle.mcode.specs.Opcode.{lengths}
use Rattle.mcode.specs.Image.{proc_count}
use Rattle.mcode.specs.Machine.{State, Outcome, halt, put}
use Rattle.mcode.specs.Decode.{decode_of, row15, sized, Call, Follow, Load}
use Rattle.mcode.specs.Step.{Lent, perform_of, followed, computed, goes, word_in}
use Rattle.mcode.specs.declared.Position.{Position}
use Rattle.mcode.specs.declared.Registers.{Registers}
use Rattle.mcode.specs.declared.Stop.TheVariants.{BadAddress}
use Rattle.mcode.proofs.Listed.{None, among, left, one_left}
use Rattle.actions.specs.declared.Core.{Core}
use Rattle.actions.specs.Core.{operand_at}
use Rattle.actions.specs.Table.{module_in}
use Rattle.control.specs.Rows.{Controls}

-- 351: one link from L is the word at L
pub follow_one : (lent : Lent) (q : Position) (x : State) → perform_of lent (Follow 1) q x ≡ perform_of lent (Load x.machine.registers.l) q x
unfolding perform_of followed
follow_one lent q x = choose (ltb x.machine.registers.l.0 (length x.store)) (word_in x x.machine.registers.l.0) (λ v. goes x (put q x.machine v))
  where
    choose : (t : Bool) (v : ℕ) (f : ℕ → Outcome) → computed (pick t (Ok v) (Err BadAddress)) f ≡ pick t (f v) (halt BadAddress)
    choose true v f = refl
    choose false v f = refl

-- what is left of the listed opcodes of row 14, before 354 and after it
pub is353 : (op : ℕ) → op / 16 ≡ 14 → 1 ≤ get_or lengths op 0 → op ≤ 0o354 → (op ≡ 0o354 → ⊥) → None (0o351 ∷ 0o350 ∷ 0o340 ∷ []) op → op ≡ 0o353
unfolding all_below left among lengths
is353 op e l h n = one_left (λ (op : ℕ). leb 0o354 op) (0o351 ∷ 0o350 ∷ 0o340 ∷ []) 14 0o353 op refl (omega (arith, e)) e l (lt-leb 0o354 op (omega (arith, h, n)))

pub is356 : (op : ℕ) → op / 16 ≡ 14 → 1 ≤ get_or lengths op 0 → 0o354 < op → None (0o355 ∷ []) op → op ≡ 0o356
unfolding all_below left among lengths
is356 op e l h = one_left (λ (op : ℕ). leb op 0o354) (0o355 ∷ []) 14 0o356 op refl (omega (arith, e)) e l (lt-leb op 0o354 h)

-- 360 to 377
pub decoded-call : (op : ℕ) (o : ℕ → ℕ) (r : Registers) (bases : List ℕ) → op / 16 ≡ 15 → decode_of op o r bases ≡ sized (pick (eqb op 0o360) 2 1) (Call (pick (eqb op 0o360) (o 1) (op - 0o360)))
unfolding decode_of row15
decoded-call op o r bases row = rw row (choose (eqb op 0o360) (op - 0o360))
  where
    choose : (t : Bool) (k : ℕ) → pick t (sized 2 (Call (o 1))) (sized 1 (Call k)) ≡ sized (pick t 2 1) (Call (pick t (o 1) k))
    choose true k = refl
    choose false k = refl

-- the procedure that one of them names is there
pub callee-exists : {image table : List ℕ} {w op : ℕ} {r : Core} → Controls image table w op r → op / 16 ≡ 15
    → pick (eqb op 0o360) (operand_at image r 1) (op - 0o360) < proc_count (module_in table r.unit)
callee-exists {image} {table} {w} {op} {r} h row = choose (eqb op 0o360) refl
  where
    choose : (t : Bool) → eqb op 0o360 ≡ t → pick t (operand_at image r 1) (op - 0o360) < proc_count (module_in table r.unit)
    choose true t = h.near (inr (eqb-true op 0o360 t))
    choose false t = h.fixed (omega (arith, row, eqb-false op 0o360 t))
