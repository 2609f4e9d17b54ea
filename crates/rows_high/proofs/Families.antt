-- The families of operations whose opcode is no numeral in the code: each is decoded to one action of itself, Two with two words taken or
-- Double with four. Assumes nothing.
use mathlib.Core.Path.{◌≡◌, refl}
use mathlib.Core.Bool.{true}
use mathlib.Core.List.{List}
use Prim.Native.Nat.{ℕ, ◌+◌, ◌≤◌}
use native.Mathlib.Omega.{arith}
use borrow.Author.Tests.{leb-true}
use lib.Dec.{leb}
use lib.ListN.{get_or}
use Rattle.mcode.specs.Word.{and, two_of}
use Rattle.mcode.specs.Opcode.{takens}
use Rattle.mcode.specs.Machine.{machine, second, top, replace2}
use Rattle.mcode.specs.Decode.{Action, decode_of, sized, Two, Double, row8, row10, row11, row12, row13}
use Rattle.mcode.specs.Step.{Lent, perform_of}
use Rattle.mcode.specs.declared.Registers.{Registers}
use Rattle.mcode.specs.Word.{Value}
use Rattle.actions.specs.declared.Core.{Core}
use Rattle.actions.specs.Core.{Left, shown, replaced, instruction}
use Rattle.mcode.proofs.Tests.{and_both}
use Rattle.words.proofs.Families.{each}

pub record Family (n : ℕ) (act : ℕ → Action) (op : ℕ) : Type 0 where
  pub takes : get_or takens op 0 ≡ n
  pub decodes : (o : ℕ → ℕ) (r : Registers) (bases : List ℕ) → decode_of op o r bases ≡ sized 1 (act op)

abbrev pub Twos : ℕ → Type 0
Twos = Family 2 Two

one_of : {n : ℕ} {act : ℕ → Action} {op : ℕ} → get_or takens op 0 ≡ n → ((o : ℕ → ℕ) (r : Registers) (bases : List ℕ) → decode_of op o r bases ≡ sized 1 (act op)) → Family n act op
one_of e f = record { takes = e; decodes = f }

pub family-compared : (op : ℕ) → 0o252 ≤ op → op ≤ 0o255 → Twos op
unfolding takens decode_of row10
family-compared op l h = each Twos 4 0o252 (one_of refl (λ o r bases. refl), (one_of refl (λ o r bases. refl), (one_of refl (λ o r bases. refl), (one_of refl (λ o r bases. refl), tt)))) op l (omega arith)

pub family-sums : (op : ℕ) → 0o270 ≤ op → op ≤ 0o272 → Twos op
unfolding takens decode_of row11
family-sums op l h = each Twos 3 0o270 (one_of refl (λ o r bases. refl), (one_of refl (λ o r bases. refl), (one_of refl (λ o r bases. refl), tt))) op l (omega arith)

pub family-signed : (op : ℕ) → 0o310 ≤ op → op ≤ 0o315 → Twos op
unfolding takens decode_of row12
family-signed op l h = each Twos 6 0o310 (one_of refl (λ o r bases. refl), (one_of refl (λ o r bases. refl), (one_of refl (λ o r bases. refl), (one_of refl (λ o r bases. refl), (one_of refl (λ o r bases. refl), (one_of refl (λ o r bases. refl), tt)))))) op l (omega arith)

pub family-bitwise : (op : ℕ) → 0o320 ≤ op → op ≤ 0o322 → Twos op
unfolding takens decode_of row13
family-bitwise op l h = each Twos 3 0o320 (one_of refl (λ o r bases. refl), (one_of refl (λ o r bases. refl), (one_of refl (λ o r bases. refl), tt))) op l (omega arith)

-- 210 and 211
pub family-double : (op : ℕ) → 0o210 ≤ op → op ≤ 0o211 → Family 4 Double op
unfolding takens decode_of row8
family-double op l h = each (Family 4 Double) 2 0o210 (one_of refl (λ o r bases. refl), (one_of refl (λ o r bases. refl), tt)) op l (omega arith)

-- the code's test of 252 to 255
pub inside : (op : ℕ) → and (leb 0o252 op) (leb op 0o255) ≡ true → (0o252 ≤ op) × (op ≤ 0o255)
inside op e =
    let (low, high) = and_both (leb 0o252 op) (leb op 0o255) e in
    (leb-true 0o252 op low, leb-true op 0o255 high)

-- such an instruction, from the word that the code computed of the two and put in their place
pub by_two : {op c a : ℕ} {v : Value} {y : Left} (r : Core) (stack store out : List ℕ) → Twos op → v ≡ two_of op c a → c ≡ second (machine (shown r) stack)
    → a ≡ top (machine (shown r) stack) → y ≡ replaced replace2 (r.pc + 1) v r stack store out → (lent : Lent) (o : ℕ → ℕ) → y ≡ instruction lent op o r stack store out
unfolding instruction perform_of
by_two r stack store out p e f g h lent o = rw (p.decodes o _ _) (rw (e, f, g) at h)
