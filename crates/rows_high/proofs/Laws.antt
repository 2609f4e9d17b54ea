-- The opcode of a row's last arm is the one that is left of the listed ones; what is no READ takes no channel; a fact of tests; the next
-- place. Assumes nothing.
use mathlib.Core.Path.{◌≡◌, refl}
use mathlib.Core.Bool.{Bool, true, false}
use mathlib.Core.List.{List, [], ◌∷◌}
use Prim.Native.Nat.{ℕ, ◌+◌, ◌≤◌, ◌<◌, ◌/◌}
use native.Mathlib.Omega.{arith}
use borrow.Author.Tests.{le-leb, lt-leb, le-ltb, eqb-true, eqb-false, ne_eqb}
use lib.Dec.{eqb, ltb, leb}
use lib.ListN.{get_or}
use lib.Bits.{or_zero_r}
use Rattle.std.specs.Prelude.{Ok, Err}
use Rattle.mcode.specs.Word.{pick, and, all_below}
use Rattle.mcode.specs.Opcode.{lengths}
use Rattle.mcode.proofs.Listed.{None, among, left, one_left}
use Rattle.actions.specs.declared.Core.{Core}
use Rattle.actions.specs.Core.{Stepped, read_at, unites}

pub is202 : (op : ℕ) → op / 16 ≡ 8 → op < 0o203 → None (0o201 ∷ 0o200 ∷ []) op → op ≡ 0o202
is202 op e h n = omega (arith, e, h, n.0.1, n.1)

pub is206 : (op : ℕ) → op < 256 → op / 16 ≡ 8 → 1 ≤ get_or lengths op 0 → 0o203 ≤ op → op < 0o210 → None (0o205 ∷ []) op → op ≡ 0o206
unfolding all_below left among lengths
is206 op h e l low high =
    one_left (λ (op : ℕ). pick (ltb op 0o203) true (leb 0o210 op)) (0o205 ∷ []) 8 0o206 op refl h e l (rw (le-ltb op 0o203 low) (lt-leb 0o210 op high))

-- an opcode of row 8 from 210 on is 210 or 211
pub to211 : (op : ℕ) → op < 256 → op / 16 ≡ 8 → 1 ≤ get_or lengths op 0 → 0o210 ≤ op → op ≤ 0o211
unfolding all_below left among lengths
to211 op h e l low = last (eqb op 0o210) refl
  where
    last : (t : Bool) → eqb op 0o210 ≡ t → op ≤ 0o211
    last true q = let z = eqb-true op 0o210 q in omega (arith, z)
    last false q = let z = one_left (λ (op : ℕ). ltb op 0o210) (0o210 ∷ []) 8 0o211 op refl h e l (le-ltb op 0o210 low) (tt, eqb-false op 0o210 q) in omega (arith, z)

pub is222 : (op : ℕ) → op / 16 ≡ 9 → op < 0o223 → None (0o221 ∷ 0o220 ∷ []) op → op ≡ 0o222
is222 op e h n = omega (arith, e, h, n.0.1, n.1)

pub is226 : (op : ℕ) → op < 256 → op / 16 ≡ 9 → 1 ≤ get_or lengths op 0 → 0o223 ≤ op → None (0o225 ∷ []) op → op ≡ 0o226
unfolding all_below left among lengths
is226 op h e l low = one_left (λ (op : ℕ). ltb op 0o223) (0o225 ∷ []) 9 0o226 op refl h e l (le-ltb op 0o223 low)

pub is245 : (op : ℕ) → op < 256 → op / 16 ≡ 10 → 1 ≤ get_or lengths op 0 → and (leb 0o252 op) (leb op 0o255) ≡ false → None (0o256 ∷ 0o241 ∷ 0o240 ∷ []) op → op ≡ 0o245
unfolding all_below left among lengths
is245 op = one_left (λ (op : ℕ). and (leb 0o252 op) (leb op 0o255)) (0o256 ∷ 0o241 ∷ 0o240 ∷ []) 10 0o245 op refl

pub is265 : (op : ℕ) → op < 256 → op / 16 ≡ 11 → 1 ≤ get_or lengths op 0 → op ≤ 0o267 → None (0o262 ∷ 0o260 ∷ []) op → op ≡ 0o265
unfolding all_below left among lengths
is265 op h e l n = one_left (λ (op : ℕ). ltb 0o267 op) (0o262 ∷ 0o260 ∷ []) 11 0o265 op refl h e l (le-ltb 0o267 op n)

pub is273 : (op : ℕ) → 0o273 ≤ op → op < 0o275 → (op ≡ 0o274 → ⊥) → op ≡ 0o273
is273 op l h n = omega (arith, n)

pub is277 : (op : ℕ) → op < 256 → op / 16 ≡ 11 → 1 ≤ get_or lengths op 0 → 0o275 ≤ op → None (0o276 ∷ 0o275 ∷ []) op → op ≡ 0o277
unfolding all_below left among lengths
is277 op h e l n = one_left (λ (op : ℕ). ltb op 0o275) (0o276 ∷ 0o275 ∷ []) 11 0o277 op refl h e l (le-ltb op 0o275 n)

pub is306 : (op : ℕ) → op < 256 → op / 16 ≡ 12 → 1 ≤ get_or lengths op 0 → op < 0o310 → None (0o305 ∷ 0o304 ∷ []) op → op ≡ 0o306
unfolding all_below left among lengths
is306 op h e l n = one_left (λ (op : ℕ). leb 0o310 op) (0o305 ∷ 0o304 ∷ []) 12 0o306 op refl h e l (lt-leb 0o310 op n)

pub is317 : (op : ℕ) → op < 256 → op / 16 ≡ 12 → 1 ≤ get_or lengths op 0 → 0o316 ≤ op → None (0o316 ∷ []) op → op ≡ 0o317
unfolding all_below left among lengths
is317 op h e l n = one_left (λ (op : ℕ). ltb op 0o316) (0o316 ∷ []) 12 0o317 op refl h e l (le-ltb op 0o316 n)

pub is336 : (op : ℕ) → op < 256 → op / 16 ≡ 13 → 1 ≤ get_or lengths op 0 → 0o323 ≤ op
    → None (0o333 ∷ 0o332 ∷ 0o331 ∷ 0o330 ∷ 0o327 ∷ 0o323 ∷ []) op → op ≡ 0o336
unfolding all_below left among lengths
is336 op h e l n = one_left (λ (op : ℕ). ltb op 0o323) (0o333 ∷ 0o332 ∷ 0o331 ∷ 0o330 ∷ 0o327 ∷ 0o323 ∷ []) 13 0o336 op refl h e l (le-ltb op 0o323 n)

-- what is no READ leaves the word of channels
pub takes_none : (op : ℕ) (r : Core) (stack : List ℕ) (q : Stepped) (w : ℕ) → (op ≡ 0o240 → ⊥) → w ≡ unites q w (read_at op r stack)
takes_none op r stack (Ok q) w n = rw (ne_eqb op 0o240 n, or_zero_r w) refl
takes_none op r stack (Err k) w n = refl

-- the next place is in the code too
pub next-own : {s p : ℕ} → s ≤ p → s ≤ p + 1
next-own h = omega (arith, h)

pub from_zero : (n : ℕ) → leb 0 n ≡ true
from_zero n = le-leb 0 n (omega arith)
