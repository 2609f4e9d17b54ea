-- The text of an instruction; what is written to a text stands behind what it had. Assumes nothing.
use Rattle.std.proofs.Common.{◌≡◌, ℕ, List, [], ◌∷◌, ◌++◌, Option, Some, None, IfSome, unwrap_or, Bor, ◌+◌, ◌-◌, ◌/◌, ◌%◌, ◌^◌, ◌≤◌, ◌<◌, length, replicate, refl, sym, ap, ◌∙◌, append_assoc, append-nil, length-append, arith}
use Rattle.std.proofs.lemmas.List.{length-replicate}
use Rattle.std.proofs.lemmas.Fmt.{decimal_digit, decimal_step, length-decimal-le}
use Rattle.std.specs.List.{concat, FoldsTo}
use Rattle.std.specs.Fmt.{WritesInCalls, decimal}
use Rattle.arrayvec.specs.ArrayString.{ArrayString}
use Rattle.listing.specs.Mnemonics.{name_of}
use Rattle.listing.specs.Names.{row_of, EndsInLetter}
use Rattle.listing.specs.Shape.{operand_of}
use Rattle.listing.specs.Text.{operands, operands_text, Shows}
use Rattle.listing.specs.declared.instruction.Instruction.{Instruction}
use Rattle.listing.specs.declared.instruction.Operand.{Operand}

-- a number by its digits
pub one-digit : (n : ℕ) → n < 10 → (48 + n % 10) ∷ [] ≡ decimal n
one-digit n h = let e : n % 10 ≡ n = omega arith in rw e (sym (decimal_digit n h))

pub more-digits : (t : List ℕ) (n : ℕ) → 10 ≤ n → n < 2 ^ 64 → (t ++ decimal (n / 10)) ++ ((48 + n % 10) ∷ []) ≡ t ++ decimal n
more-digits t n h l = append_assoc t (decimal (n / 10)) _ ∙ ap (λ d. t ++ d) (sym (decimal_step n h l))

pub one-letter : (n : ℕ) → n < 10 → length (decimal n) ≡ 1
one-letter n h = ap length (decimal_digit n h)

pub more-letters : (n : ℕ) → 10 ≤ n → n < 2 ^ 64 → length (decimal n) ≡ length (decimal (n / 10)) + 1
more-letters n h l = ap length (decimal_step n h l) ∙ length-append (decimal (n / 10)) _

pub five-letters : (n : ℕ) → n < 2 ^ 16 → length (decimal n) ≤ 5
five-letters n h = length-decimal-le 5 n (omega arith) (omega arith) (omega arith)

-- a name has at most five letters
row-short : (name : List ℕ) (op : ℕ) → name ++ replicate (5 - length name) 32 ≡ name_of op → length name ≤ 5
row-short name op e = omega (arith, ap length e, length-append {A = ℕ} name (replicate (5 - length name) 32), length-replicate {A = ℕ} (5 - length name) 32)

pub name-short : (found : Option (Bor (List ℕ))) (none shown : Bor (List ℕ)) (op : ℕ) → shown ≡ unwrap_or found none → none.now ≡ [] → row_of found ≡ name_of op → length shown.now ≤ 5
name-short None none shown op s e row = rw (s, e) (omega arith)
name-short (Some n) none shown op s e row = rw s (row-short n.now op row)

-- a text that is written in several calls
abbrev Adds : ArrayString → List ℕ → ArrayString → Type 0
Adds s letters t = t.bytes ≡ s.bytes ++ letters

parts-added : (parts : List (List ℕ)) (s t : ArrayString) → FoldsTo Adds s parts t → t.bytes ≡ s.bytes ++ concat parts
parts-added [] s t e = rw e (sym (append-nil t.bytes))
parts-added (x ∷ xs) s t (m, e, f) = rw (parts-added xs m t f, e) (append_assoc s.bytes x (concat xs))

pub added : (s t : ArrayString) (letters : List ℕ) → WritesInCalls Adds s letters t → t.bytes ≡ s.bytes ++ letters
added s t letters w = rw (sym w.whole) (parts-added w.parts s t w.calls)

-- one number, and two
pub one-shown : (n : ℕ) → 32 ∷ decimal n ≡ operands_text (n ∷ [])
one-shown n = rw (append-nil (decimal n)) refl

pub two-shown : (m n : ℕ) → 32 ∷ (decimal m ++ 32 ∷ decimal n) ≡ operands_text (m ∷ n ∷ [])
two-shown m n = rw (append-nil (decimal n)) refl

-- the name is written, then the operands
pub shows : (i : Instruction) (found : Option (Bor (List ℕ))) (none : Bor (List ℕ)) → none.now ≡ [] → row_of found ≡ name_of i.op → IfSome found (λ n. EndsInLetter n.now)
    → (o : Operand) (text rest : List ℕ)
    → text ≡ (unwrap_or found none).now ++ rest
    → rest ≡ operands_text (operands o i.operands i.target)
    → o ≡ operand_of i.op
    → Shows i text
shows i None none e row letter o text rest whole r k = record { name = []; row = row; letter = (λ l. absurd (let z : ⊥ = omega arith in z)); whole = whole ∙ (rw (e, r, k) refl) }
shows i (Some n) none e row letter o text rest whole r k = record { name = n.now; row = row; letter = (λ l. letter.1); whole = whole ∙ (rw (r, k) refl) }
