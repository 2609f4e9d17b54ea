-- A step as the instruction where the registers stand, and what the rows ask from the one table. Assumes nothing.
use mathlib.Core.Path.{◌≡◌, refl, sym, ap, ◌∙◌, fun_ext}
use mathlib.Core.Logic.{◌⊎◌, inl, inr}
use mathlib.Core.Bool.{Bool, true, false, false≢true}
use Prim.Native.Nat.{ℕ, zero, suc, ◌+◌, ◌-◌, ◌≤◌, ◌<◌, ◌/◌}
use mathlib.Core.List.{List, [], ◌∷◌}
use lib.ListN.{get_or, length}
use lib.Dec.{eqb, ltb}
use native.Mathlib.Omega.{arith}
use borrow.Author.Tests.{ne_eqb, eqb-true, eqb-false, ltb-true}
use Rattle.mcode.proofs.Tests.{all-at, and_both}
use Rattle.mcode.specs.Word.{pick, and, or, all_below}
use Rattle.std.specs.Prelude.{Some}
use Rattle.mcode.specs.declared.Stop.TheVariants.{Spent}
use Rattle.mcode.specs.Opcode.{lengths, takens, lefts}
use Rattle.mcode.specs.Depths.{names_module}
use Rattle.mcode.specs.Image.{most_modules, proc_count}
use Rattle.mcode.specs.Step.{Lent, instruction_of, read_of}
use Rattle.actions.specs.declared.Core.{Core}
use Rattle.actions.specs.Core.{Stepped, instruction, performed, spent_op, left_by, held, read_at, unites, operand_at}
use Rattle.actions.specs.Table.{module_in, Lends, Anchored, Needs}
use Rattle.control.specs.Frames.{Roomy}
use Rattle.rows_high.specs.Rows.{Stacked}
use Rattle.rows_high.proofs.Laws.{takes_none as no_read}
use Rattle.execute.specs.Stepping.{Asks, opcode_at, chosen_op, turned}

-- ---- places of the image and positions of the code, which begins at s: p is a place in it
pub place : {s p : ℕ} → s ≤ p → s + (p - s) ≡ p
place h = omega (arith, h)

pub place-on : {s p : ℕ} → s ≤ p → (k : ℕ) → s + (p - s + k) ≡ p + k
place-on h k = omega (arith, h)

position-on : {s p : ℕ} → s ≤ p → (k : ℕ) → p + k - s ≡ p - s + k
position-on h k = omega (arith, h)

-- the operand bytes, as positions of the code and as places of the image
operands-on : (image : List ℕ) {s p : ℕ} → s ≤ p → ◌≡◌ {A = ℕ → ℕ} (λ k. get_or image (s + (p - s + k)) 0) (λ k. get_or image (p + k) 0)
operands-on image h = fun_ext (λ k. ap (λ (i : ℕ). get_or image i 0) (place-on h k))

step_is : {image table map inputs : List ℕ} {lent : Lent} (r : Core) (stack store out : List ℕ) → Lends image table map inputs lent → Anchored table r
    → instruction lent (opcode_at image r) (operand_at image r) r stack store out ≡ left_by (held r stack store out) (instruction_of lent (held r stack store out))
unfolding instruction instruction_of
step_is {image} r stack store out h a = rw (h.image, h.tabled.modules r.unit a.few, ← a.start, place a.own, operands-on image a.own, position-on a.own)

-- the channel that it takes
pub read_is : {image table map inputs : List ℕ} {lent : Lent} (r : Core) (stack store out : List ℕ) → Lends image table map inputs lent → Anchored table r
    → read_at (opcode_at image r) r stack ≡ read_of lent (held r stack store out)
read_is r stack store out h a = rw (h.image, h.tabled.modules r.unit a.few, ← a.start, place a.own)

-- an instruction of another row than READ's takes none
pub takes_none : (op k : ℕ) (r : Core) (stack : List ℕ) (q : Stepped) (w : ℕ) → op / 16 ≡ k → eqb k 10 ≡ false → w ≡ unites q w (read_at op r stack)
takes_none op k r stack q w row n = no_read op r stack q w (λ e. eqb-false k 10 n (let q : k ≡ 10 = omega (arith, row, e) in q))

-- ---- the rows that take and leave the same for each opcode: 0, 6 and 7, by one computed test of the table
abbrev is_even : ℕ → Bool
is_even row = or (eqb row 0) (or (eqb row 6) (eqb row 7))

abbrev row_takes : List ℕ
row_takes = 0 ∷ 0 ∷ 0 ∷ 0 ∷ 0 ∷ 0 ∷ 1 ∷ 2 ∷ []

abbrev row_leaves : List ℕ
row_leaves = 1 ∷ 0 ∷ 0 ∷ 0 ∷ 0 ∷ 0 ∷ 1 ∷ 0 ∷ []

abbrev even : ℕ → Bool
even op = pick (is_even (op / 16)) (and (eqb (get_or takens op 0) (get_or row_takes (op / 16) 0)) (eqb (get_or lefts op 0) (get_or row_leaves (op / 16) 0))) true

all-even : all_below 128 even ≡ true
unfolding all_below lengths takens lefts
all-even = refl

-- an opcode of another row than the spent one's is not the spent one
other_row : {op : ℕ} (k : ℕ) → op / 16 ≡ k → eqb k 14 ≡ false → op ≡ spent_op → ⊥
other_row {op} k row n e = eqb-false k 14 n (in-fourteen row e)
  where
    in-fourteen : op / 16 ≡ k → op ≡ spent_op → k ≡ 14
    in-fourteen row e = omega (arith, row, e)

module _ {image table map : List ℕ} {w op : ℕ} {r : Core} (a : Asks image table map w op r) where
  pub even-row : (k : ℕ) → op / 16 ≡ k → ltb k 8 ≡ true → is_even k ≡ true → Needs (get_or row_takes k 0) (get_or row_leaves k 0) (get_or lengths op 0) r (length image)
  even-row k row h n =
      let low : op < 128 = omega (arith, row, ltb-true k 8 h) in
      let e = and_both _ _ (rw (ap is_even row ∙ n) at (all-at 128 even all-even op low)) in
      let t : get_or takens op 0 ≡ get_or row_takes k 0 = rw row at (eqb-true (get_or takens op 0) (get_or row_takes (op / 16) 0) e.0) in
      let f : get_or lefts op 0 ≡ get_or row_leaves k 0 = rw row at (eqb-true (get_or lefts op 0) (get_or row_leaves (op / 16) 0) e.1) in
      rw (t, f) at a.controls.ready

  -- a module operand is a module of the table
  pub within : names_module op ≡ true → operand_at image r 1 < most_modules
  within e = omega (arith, a.named e, a.controls.entered.few)

  pub stacked : Stacked op r
  stacked = let n = a.controls.ready in record { deep = n.deep; room = n.room; most = n.most; own = n.own; near = n.near }

  pub roomy : Roomy w r
  roomy = let f = a.controls.framed in (f.low, f.high, f.proc, f.short)

  -- an opcode of another row than the spent one's is listed
  pub listed_in : (k : ℕ) → op / 16 ≡ k → eqb k 14 ≡ false → 1 ≤ get_or lengths op 0
  listed_in k row n = a.listed (λ e. other_row k row n e)

  -- the spent opcode asks no more than the one in its place
  asks-spent : Asks image table map w spent_op r
  unfolding lengths takens lefts
  asks-spent =
      let c = a.controls in
      record {
        listed = λ n. absurd (n refl);
        named = λ e. absurd (false≢true e);
        controls = record {
          ready = record { deep = omega arith; room = omega (arith, c.ready.most); most = c.ready.most; bytes = omega (arith, c.ready.bytes); own = c.ready.own; near = c.ready.near };
          framed = c.framed;
          entered = c.entered;
          far = λ e. absurd (wrong 0o355 (omega arith) e);
          near = either;
          fixed = λ l. absurd (too-low l);
          inside = omega (arith, c.inside);
        };
        mapped = a.mapped;
        here = a.here;
        front = λ e. absurd (too-high e);
        anchored = a.anchored;
      }
    where
      wrong : (k : ℕ) → spent_op < k → spent_op ≡ k → ⊥
      wrong k h e = omega (arith, h, e)

      too-high : spent_op ≡ 0o260 → ⊥
      too-high e = omega (arith, e)

      too-low : 0o361 ≤ spent_op → ⊥
      too-low l = omega (arith, l)

      either : (spent_op ≡ 0o356) ⊎ (spent_op ≡ 0o360) → operand_at image r 1 < proc_count (module_in table r.unit)
      either (inl e) = absurd (wrong 0o356 (omega arith) e)
      either (inr e) = absurd (wrong 0o360 (omega arith) e)

-- n is none of the numbers below k, as a match leaves it
abbrev pub Past : ℕ → ℕ → Type 0
Past n zero = Unit {0}
Past n (suc k) = Past n k × (n ≡ k → ⊥)

pub past : (n k : ℕ) → Past n k → k ≤ n
past n zero p = omega arith
past n (suc k) p = let l = past n k p.0 in let e = p.1 in omega (arith, l, e)

-- ---- turns

-- a listed opcode is not the spent one
listed-not-spent : {op : ℕ} → 1 ≤ get_or lengths op 0 → op ≡ spent_op → ⊥
unfolding lengths
listed-not-spent {op} l e = let z : 1 ≤ 0 = rw e at l in omega (arith, z)

performed-as : (lent : Lent) (op : ℕ) (o : ℕ → ℕ) (r : Core) (stack store out : List ℕ) → (op ≡ spent_op → ⊥) → instruction lent op o r stack store out ≡ performed lent op o r stack store out
unfolding performed
performed-as lent op o r stack store out n = rw (ne_eqb op spent_op n)

-- an opcode of another row than the spent one's
pub in_row : (lent : Lent) (op : ℕ) (o : ℕ → ℕ) (r : Core) (stack store out : List ℕ) (k : ℕ) → op / 16 ≡ k → eqb k 14 ≡ false
    → instruction lent op o r stack store out ≡ performed lent op o r stack store out
in_row lent op o r stack store out k row n = performed-as lent op o r stack store out (other_row k row n)

module _ {image table map : List ℕ} {w : ℕ} {r : Core} (a : Asks image table map w (opcode_at image r) r) where
  pub asks-turn : (n : ℕ) → Asks image table map w (chosen_op n (opcode_at image r)) r
  asks-turn n = go (eqb n 0)
    where
      go : (spent : Bool) → Asks image table map w (pick spent spent_op (opcode_at image r)) r
      go true = asks-spent a
      go false = a

  pub turn_is : {inputs : List ℕ} {lent : Lent} (stack store out : List ℕ) (n : ℕ) → Lends image table map inputs lent → 1 ≤ get_or lengths (opcode_at image r) 0
      → performed lent (chosen_op n (opcode_at image r)) (operand_at image r) r stack store out ≡ turned lent n (held r stack store out)
  unfolding performed
  turn_is {lent = lent} stack store out n h listed = go (eqb n 0)
    where
      go : (spent : Bool) → performed lent (pick spent spent_op (opcode_at image r)) (operand_at image r) r stack store out
          ≡ pick spent (record { stop = Some Spent; state = held r stack store out }) (left_by (held r stack store out) (instruction_of lent (held r stack store out)))
      go true = refl
      go false = sym (performed-as lent _ _ _ _ _ _ (listed-not-spent listed)) ∙ step_is r stack store out h a.anchored
