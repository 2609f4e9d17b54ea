-- Each instruction of a machine that stands takes and puts what the table says of its opcode. Assumes nothing.
use mathlib.Core.Path.{◌≡◌, refl, sym, ap, ap₂, ◌∙◌, subst}
use mathlib.Core.Logic.{inl, inr}
use mathlib.Core.Bool.{true}
use mathlib.Core.List.{List}
use Prim.Native.Nat.{ℕ, ◌+◌, ◌-◌, ◌<◌}
use lib.ListN.{get_or}
use lib.Dec.{T, eqb→eq}
use Rattle.mcode.specs.Opcode.{lengths, takens, lefts}
use Rattle.mcode.specs.Image.{parse}
use Rattle.mcode.specs.Depths.{map_fits}
use Rattle.mcode.specs.Machine.{State, go, position, depth}
use Rattle.mcode.specs.Decode.{Action}
use Rattle.mcode.specs.Step.{instruction_of}
use Rattle.mcode.specs.Run.{lent_to}
use Rattle.mcode.specs.Demands.{opcode_at, Accounts, by_row, falls, changes, saves, fetches}
use Rattle.mcode.proofs.Rows.{taken_by, left_by, own_op, own_row}
use Rattle.mcode.proofs.Shapes.{Kept, Here, opcode}
use Rattle.mcode.proofs.Keeps.{decoded, decodes, step-goes}
use Rattle.mcode.proofs.Right.{Did, rows, no_or, no-and, other, away, again}

long-transfer : get_or lengths 0o256 0 ≡ 2
unfolding lengths
long-transfer = refl

module _ (image map inputs : List ℕ) (fit : map_fits image (parse image).program map ≡ true) (w : ℕ) (x y : State) (k : Kept (parse image).program map w x) where
  abbrev H : Here
  H = record { lent = lent_to image map inputs; fit = fit; w = w; x = x; kept = k }

  abbrev op : ℕ
  op = opcode_at image x.machine

  from-did : (a : Action) (size : ℕ) → get_or lengths op 0 ≡ size → get_or takens op 0 ≡ taken_by a → get_or lefts op 0 ≡ left_by a → T (own_op op a)
      → Did H (position (x.machine.registers.pc.0 + size)) y a → Accounts image x y
  from-did a size s t u o (rows l d) =
      by_row (λ i h. l i (subst (λ (k : ℕ). i < depth x.machine - k) t h)) (d ∙ sym (ap₂ (λ (j k : ℕ). depth x.machine - j + k) t u))
  from-did a size s t u o (no_or l d) = falls (inl (eqb→eq op 0o36 o)) l d
  from-did a size s t u o (no-and l d) = falls (inr (eqb→eq op 0o37 o)) l d
  from-did a size s t u o (other q f) =
      let e : op ≡ 0o256 = eqb→eq op 0o256 o in
      let z : size ≡ 2 = sym s ∙ ap (λ (k : ℕ). get_or lengths k 0) e ∙ long-transfer in
      changes e (rw z at q) f
  from-did a size s t u o (away q d) = saves (eqb→eq op 0o262 o) q d
  from-did a size s t u o (again k d w l q e) = fetches (eqb→eq op 0o260 o) d k w l q e

  pub account : instruction_of (lent_to image map inputs) x ≡ go y → Accounts image x y
  account e =
      let d = decodes H in
      from-did (decoded H).action (decoded H).size d.size d.taken d.left (own_row _ _ _ (opcode H) d.below) (step-goes H e).1.0
