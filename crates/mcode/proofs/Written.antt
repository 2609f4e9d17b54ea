-- Reading what was written gives it back, at the position behind: a law for each field of a module. Assumes nothing.
use mathlib.Core.Path.{◌≡◌, refl, sym, ap, ◌∙◌, subst}
use mathlib.Core.Bool.{Bool, true, false}
use mathlib.Core.List.{List, [], ◌∷◌, ◌++◌, append_assoc}
use Prim.Native.Nat.{ℕ, suc, ◌+◌, ◌-◌, ◌*◌, ◌/◌, ◌%◌, ◌≤◌, ◌<◌}
use native.Mathlib.Nat.{div-add-mod', add-zero}
use native.Mathlib.Omega.{arith}
use lib.ListN.{length, take, drop, replicate, length-append}
use lib.Seq.{drop-drop, drop-append_seam, take-append_seam, get_or-drop}
use lib.Dec.{eqb}
use borrow.Author.Tests.{lt-ltb, le-leb, ne_eqb}
use Rattle.mcode.specs.Image.{Got}
use Rattle.mcode.specs.declared.Module.{Module}
use Rattle.mcode.specs.Image.{Read}
use Rattle.mcode.specs.Word.{pick, truth, byte, word, tabulate}
use Rattle.mcode.specs.Image.{byte_at, word_at, skip_at, bits_at, data_at, count_at, name_at, length_at, limited_at, record_at, records_at, first_limit, body_at, module_at}
use Rattle.mcode.specs.Archive.{Procedure, Content, Bits, name_of, content_at, word_bytes, record_bytes, records_bytes, bit_map, given, spelled}
use Rattle.mcode.specs.ArchiveDemands.{Enough}
use Rattle.mcode.proofs.Tabulate.{tabulate-same}

-- from position `at` on the bytes s are xs
pub record Rest (s : List ℕ) (at : ℕ) (xs : List ℕ) : Type 0 where
  pub is : drop at s ≡ xs
  pub ends : at + length xs ≡ length s

module _ {s : List ℕ} {at : ℕ} where
  -- byte i from there on
  pub rest_at : {xs : List ℕ} → Rest s at xs → (i : ℕ) → byte s (at + i) ≡ byte xs i
  rest_at R i = sym (get_or-drop at s i 0) ∙ ap (λ (l : List ℕ). byte l i) R.is

  pub behind : (xs : List ℕ) {ys : List ℕ} → Rest s at (xs ++ ys) → Rest s (at + length xs) ys
  behind xs {ys} R = record {
    is = sym (drop-drop (length xs) at s) ∙ ap (drop (length xs)) R.is ∙ drop-append_seam xs ys;
    ends = omega (arith, R.ends, length-append xs ys);
  }

  pub front : (xs ys : List ℕ) → Rest s at (xs ++ ys) → take (length xs) (drop at s) ≡ xs
  front xs ys R = ap (take (length xs)) R.is ∙ take-append_seam xs ys

  pub room : (xs ys : List ℕ) → Rest s at (xs ++ ys) → at + length xs ≤ length s
  room xs ys R = omega (arith, R.ends, length-append xs ys)

  -- the first byte, and the one after it
  pub first : {x : ℕ} {xs : List ℕ} → Rest s at (x ∷ xs) → byte s at ≡ x
  first R = ap (byte s) (sym (add-zero at)) ∙ rest_at R 0

  pub word-is : (w : ℕ) {xs : List ℕ} → Rest s at (w / 256 ∷ w % 256 ∷ xs) → word s at ≡ w
  word-is w R = rw (first R, rest_at R 1) (div-add-mod' w 256)

  -- ---- a field

  byte-law : {x : ℕ} {xs : List ℕ} → Rest s at (x ∷ xs) → byte_at s at ≡ Got x (at + 1)
  unfolding byte_at
  byte-law R = rw (lt-ltb at (length s) (let h : at < length s = omega (arith, R.ends) in h), first R) refl

  word-law : (w : ℕ) {xs : List ℕ} → Rest s at (w / 256 ∷ w % 256 ∷ xs) → word_at s at ≡ Got w (at + 2)
  unfolding word_at
  word-law w R = rw (lt-ltb (at + 1) (length s) (let h : at + 1 < length s = omega (arith, R.ends) in h), word-is w R) refl

  skip-law : (xs ys : List ℕ) → Rest s at (xs ++ ys) → skip_at s at (length xs) ≡ Got 0 (at + length xs)
  unfolding skip_at
  skip-law xs ys R = rw (le-leb (at + length xs) (length s) (room xs ys R)) refl

  bits-law : {x : ℕ} {xs : List ℕ} → x < 8 → Rest s at (x ∷ xs) → bits_at s at ≡ Got x (at + 1)
  unfolding bits_at
  bits-law {x} h R = rw (byte-law R, lt-ltb x 8 h) refl

  data-law : (b : Bool) (bits v : ℕ) (xs : List ℕ) → eqb (bits % 2) 1 ≡ b → (b ≡ false → v ≡ 0)
      → Rest s at (given b (word_bytes v) ++ xs) → data_at s at bits ≡ Got v (at + length (given b (word_bytes v)))
  unfolding data_at
  data-law true bits v xs e h R = rw (e, word-law v R) refl
  data-law false bits v xs e h R = rw (e, h refl, add-zero at) refl

  count_law : (b : Bool) (bits n : ℕ) (xs : List ℕ) → eqb (bits / 2 % 2) 1 ≡ b → 1 ≤ n
      → Rest s at (given b (n ∷ []) ++ xs) → count_at s at bits ≡ Got (pick b n 0) (at + length (given b (n ∷ [])))
  unfolding count_at
  count_law true bits n xs e h R = rw (e, byte-law R, le-leb 1 n h) refl
  count_law false bits n xs e h R = rw (e, add-zero at) refl

  name-law : (b : Bool) (bits : ℕ) (name xs : List ℕ) → eqb (bits / 4 % 2) 1 ≡ b → length name ≡ 8
      → Rest s at (given b name ++ xs) → name_at s at bits ≡ Got 0 (at + length (given b name))
  unfolding name_at
  name-law true bits name xs e h R = rw e (subst (λ (k : ℕ). skip_at s at k ≡ Got 0 (at + length name)) h (skip-law name xs R))
  name-law false bits name xs e h R = rw (e, add-zero at) refl

  length-law : (n : ℕ) {xs : List ℕ} → 1 ≤ n → n ≤ 32767 → Rest s at (n / 256 ∷ n % 256 ∷ xs) → length_at s at ≡ Got n (at + 2)
  unfolding length_at
  length-law n l h R = rw (word-law n R, le-leb 1 n l, le-leb n 32767 h) refl

  limited-law : {x : ℕ} {xs : List ℕ} (limit : ℕ) → x ≤ limit → Rest s at (x ∷ xs) → limited_at s at limit ≡ Got x (at + 1)
  unfolding limited_at
  limited-law {x} limit h R = rw (byte-law R, le-leb x limit h) refl

-- ---- the procedure records

-- procedures whose records are in range, of which the first has at most `limit` parameters
abbrev pub Ranged : ℕ → ℕ → List Procedure → Type 0
Ranged code_length limit [] = Unit {0}
Ranged code_length limit (p ∷ ps) = (p.entry < code_length) × (p.params ≤ limit) × (p.results ≤ 4) × Ranged code_length 16 ps

record-law : {s : List ℕ} {at : ℕ} (code_length limit : ℕ) (p : Procedure) (ps : List Procedure) (xs : List ℕ) → Ranged code_length limit (p ∷ ps)
    → Rest s at (record_bytes p ++ xs) → record_at s code_length limit at ≡ Got p.results (at + 4)
unfolding record_at
record-law {s} {at} code_length limit p ps xs L R =
    let R₂ : Rest s (at + 2) (p.params ∷ p.results ∷ xs) = behind (word_bytes p.entry) R in
    let R₃ : Rest s (at + 2 + 1) (p.results ∷ xs) = behind (p.params ∷ []) R₂ in
    let e : at + 2 + 1 + 1 ≡ at + 4 = omega arith in
    rw (word-law p.entry R, lt-ltb p.entry code_length L.0, limited-law limit L.1 R₂, limited-law 4 L.2 R₃) (ap (Got p.results) e)

records-law : {s : List ℕ} {at : ℕ} (code_length limit : ℕ) (ps : List Procedure) (xs : List ℕ) → Ranged code_length limit ps
    → Rest s at (records_bytes ps ++ xs) → records_at s code_length limit (length ps) at ≡ Got 0 (at + length (records_bytes ps))
unfolding records_at
records-law {s = s} {at = at} code_length limit [] xs L R = rw (add-zero at) refl
records-law {s = s} {at = at} code_length limit (p ∷ ps) xs L R =
    let R₄ : Rest s (at + 4) (records_bytes ps ++ xs) = behind (record_bytes p) R in
    let e : at + 4 + length (records_bytes ps) ≡ at + suc (suc (suc (suc (length (records_bytes ps))))) = omega arith in
    rw (record-law code_length limit p ps (records_bytes ps ++ xs) L R, records-law {at = at + 4} code_length 16 ps xs L.3 R₄) (ap (Got 0) e)

-- record i of those from `at` on
abbrev record_of : List ℕ → ℕ → ℕ → Procedure
record_of s at i = record { entry = word s (at + 4 * i); params = byte s (at + 4 * i + 2); results = byte s (at + 4 * i + 3) }

records-are : {s : List ℕ} {at : ℕ} (ps : List Procedure) (xs : List ℕ) → Rest s at (records_bytes ps ++ xs) → tabulate (length ps) (record_of s at) ≡ ps
unfolding tabulate
records-are {s = s} {at = at} [] xs R = refl
records-are {s = s} {at = at} (p ∷ ps) xs R =
    let R₄ : Rest s (at + 4) (records_bytes ps ++ xs) = behind (record_bytes p) R in
    let e₀ : at + 4 * 0 ≡ at = omega arith in
    let d : record_of s at 0 ≡ p = rw (e₀, word-is p.entry R, rest_at R 2, rest_at R 3) refl in
    rw (d, tabulate-same (length ps) (λ i. record_of s at (suc i)) (record_of s (at + 4)) (λ i l. let e : at + 4 * suc i ≡ at + 4 + 4 * i = omega arith in rw e refl), records-are {at = at + 4} ps xs R₄) refl

-- ---- a module

-- module `number` can be written
pub record Sound (number : ℕ) (c : Content) : Type 0 where
  pub some : 1 ≤ length c.procs
  pub ranged : Ranged (length c.code) (first_limit number) c.procs
  pub eight : length c.name ≡ 8
  pub code : 1 ≤ length c.code
  pub short : length c.code ≤ 32767

abbrev pub single : List Procedure
single = record { entry = 0; params = 0; results = 0 } ∷ []

bit-0 : (x y z : Bool) → eqb ((truth x + 2 * truth y + 4 * truth z) % 2) 1 ≡ x
bit-0 true true true = refl
bit-0 true true false = refl
bit-0 true false true = refl
bit-0 true false false = refl
bit-0 false true true = refl
bit-0 false true false = refl
bit-0 false false true = refl
bit-0 false false false = refl

bit-1 : (x y z : Bool) → eqb ((truth x + 2 * truth y + 4 * truth z) / 2 % 2) 1 ≡ y
bit-1 true true true = refl
bit-1 true true false = refl
bit-1 true false true = refl
bit-1 true false false = refl
bit-1 false true true = refl
bit-1 false true false = refl
bit-1 false false true = refl
bit-1 false false false = refl

bit-2 : (x y z : Bool) → eqb ((truth x + 2 * truth y + 4 * truth z) / 4 % 2) 1 ≡ z
bit-2 true true true = refl
bit-2 true true false = refl
bit-2 true false true = refl
bit-2 true false false = refl
bit-2 false true true = refl
bit-2 false true false = refl
bit-2 false false true = refl
bit-2 false false false = refl

truth-few : (x : Bool) → truth x ≤ 1
truth-few true = omega arith
truth-few false = omega arith

bits-few : (b : Bits) → bit_map b < 8
bits-few b = omega (arith, truth-few b.sized, truth-few b.listing, truth-few b.named)

-- the position behind each field of module c, spelled with the bits b, whose bit map is at `at`
module _ (b : Bits) (c : Content) (at : ℕ) where
  abbrev a₂ : ℕ
  a₂ = at + 1 + length (given b.sized (word_bytes c.size))

  abbrev a₃ : ℕ
  a₃ = a₂ + length (given b.listing (length c.procs ∷ []))

  abbrev a₄ : ℕ
  a₄ = a₃ + length (given b.named c.name)

  abbrev a₅ : ℕ
  a₅ = a₄ + 2

  abbrev a₆ : ℕ
  a₆ = a₅ + length (given b.listing (records_bytes c.procs))

  abbrev pub a₇ : ℕ
  a₇ = a₆ + length c.code

  -- the module that is read there
  abbrev pub placed : ℕ → Module
  placed base = record { code = a₆; length = length c.code; size = c.size; base = base; procs = pick b.listing (length c.procs) 0; table = a₅ }

module _ {s : List ℕ} {at : ℕ} (number base : ℕ) (b : Bits) (c : Content) (tail : List ℕ) (S : Sound number c) (E : Enough b c) (R : Rest s at (spelled b c ++ tail)) where
  abbrev t₆ : List ℕ
  t₆ = c.code ++ tail

  abbrev t₅ : List ℕ
  t₅ = given b.listing (records_bytes c.procs) ++ t₆

  abbrev t₄ : List ℕ
  t₄ = word_bytes (length c.code) ++ t₅

  abbrev t₃ : List ℕ
  t₃ = given b.named c.name ++ t₄

  abbrev t₂ : List ℕ
  t₂ = given b.listing (length c.procs ∷ []) ++ t₃

  abbrev t₁ : List ℕ
  t₁ = given b.sized (word_bytes c.size) ++ t₂

  R₀ : Rest s at (bit_map b ∷ t₁)
  unfolding spelled
  R₀ = simp append_assoc at R

  R₁ : Rest s (at + 1) t₁
  R₁ = behind (bit_map b ∷ []) R₀

  R₂ : Rest s (a₂ b c at) t₂
  R₂ = behind (given b.sized (word_bytes c.size)) R₁

  R₃ : Rest s (a₃ b c at) t₃
  R₃ = behind (given b.listing (length c.procs ∷ [])) R₂

  R₄ : Rest s (a₄ b c at) t₄
  R₄ = behind (given b.named c.name) R₃

  R₅ : Rest s (a₅ b c at) t₅
  R₅ = behind (word_bytes (length c.code)) R₄

  R₆ : Rest s (a₆ b c at) t₆
  R₆ = behind (given b.listing (records_bytes c.procs)) R₅

  pub module-behind : Rest s (a₇ b c at) tail
  module-behind = behind c.code R₆

  records-read : (l : Bool) → Rest s (a₅ b c at) (given l (records_bytes c.procs) ++ t₆)
      → records_at s (length c.code) (first_limit number) (pick l (length c.procs) 0) (a₅ b c at) ≡ Got 0 (a₅ b c at + length (given l (records_bytes c.procs)))
  unfolding records_at
  records-read true Q = records-law (length c.code) (first_limit number) c.procs t₆ S.ranged Q
  records-read false Q = rw (add-zero (a₅ b c at)) refl

  pub module-law : module_at s number base at ≡ Read (placed b c at base) (a₇ b c at)
  unfolding module_at body_at
  module-law =
      rw (
        bits-law (bits-few b) R₀,
        data-law b.sized (bit_map b) c.size t₂ (bit-0 b.sized b.listing b.named) E.size R₁,
        count_law b.listing (bit_map b) (length c.procs) t₃ (bit-1 b.sized b.listing b.named) S.some R₂,
        name-law b.named (bit_map b) c.name t₄ (bit-2 b.sized b.listing b.named) S.eight R₃,
        length-law (length c.code) S.code S.short R₄,
        records-read b.listing R₅,
        skip-law c.code tail R₆,
      ) refl

  -- procedure i, as the image gives it, of a module whose records, if there are any, begin at `table`
  abbrev told : Bool → ℕ → ℕ → Procedure
  told none table i = record {
    entry = pick none 0 (word s (table + 4 * i));
    params = pick none 0 (byte s (table + 4 * i + 2));
    results = pick none 0 (byte s (table + 4 * i + 3));
  }

  abbrev tells : ℕ → List Procedure
  tells n = tabulate (pick (eqb n 0) 1 n) (told (eqb n 0) (a₅ b c at))

  procs-are : (l : Bool) → (l ≡ false → c.procs ≡ single) → Rest s (a₅ b c at) (given l (records_bytes c.procs) ++ t₆) → tells (pick l (length c.procs) 0) ≡ c.procs
  unfolding tabulate
  procs-are true h Q =
      subst (λ (z : Bool). tabulate (pick z 1 (length c.procs)) (told z (a₅ b c at)) ≡ c.procs)
      (sym (ne_eqb (length c.procs) 0 (λ z. omega (arith, z, S.some))))
      (records-are c.procs t₆ Q)
  procs-are false h Q = rw (h refl) refl

  name-is : (n : Bool) → (n ≡ false → c.name ≡ replicate 8 0) → Rest s (a₃ b c at) (given n c.name ++ t₄)
      → pick n (take 8 (drop (a₃ b c at + length (given n c.name) + 2 - 10) s)) (replicate 8 0) ≡ c.name
  name-is true h Q =
      let e : a₃ b c at + length c.name + 2 - 10 ≡ a₃ b c at = omega (arith, S.eight) in
      rw e (subst (λ (k : ℕ). take k (drop (a₃ b c at) s) ≡ c.name) S.eight (front c.name t₄ Q))
  name-is false h Q = sym (h refl)

  pub content-law : content_at s at (placed b c at base) ≡ c
  unfolding content_at name_of
  content-law =
      let e : eqb (byte s at / 4 % 2) 1 ≡ b.named = rw (first R₀) (bit-2 b.sized b.listing b.named) in
      rw (e, name-is b.named E.name R₃, procs-are b.listing E.procs R₅, front c.code tail R₆) refl
