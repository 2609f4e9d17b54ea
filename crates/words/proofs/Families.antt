-- The two-word operations that are computed together and selected by their opcode: what is selected is what the definition says. Assumes nothing.
use Rattle.std.specs.Prelude.{Ok}
use Rattle.std.proofs.Common.{◌≡◌, ℕ, zero, suc, ◌+◌, ◌-◌, ◌*◌, ◌%◌, ◌<◌, ◌≤◌, Bool, true, false, eqb, ltb, leb, pos, refl, ap, ◌∙◌, subst, ⊎_elim, eq-or-lt_of_le, arith, ltb-false, ltb-true, le-ltb, lt-ltb, ne_eqb, eqb-true, le-leb}
use borrow.Author.Tests.{lt-leb, eqb-false}
use lib.Bits.{bit_and, bit_or, bit_xor}
use Rattle.mcode.specs.Word.{pick, truth, wrap, settle_unsigned, two_of}
use Rattle.words.specs.Sides.{answer}
use Rattle.words.specs.Wide.{wide_difference}
use Rattle.words.proofs.Order.{raised-order}
use Rattle.words.proofs.Results.{difference-settles}

-- a statement of n numbers from k on, one by one
abbrev pub Each : (ℕ → Type 0) → ℕ → ℕ → Type 0
Each P zero k = Unit {0}
Each P (suc n) k = P k × Each P n (suc k)

pub each : (P : ℕ → Type 0) (n k : ℕ) → Each P n k → (op : ℕ) → k ≤ op → op < k + n → P op
each P zero k t op h l = absurd (omega arith)
each P (suc n) k t op h l = ⊎_elim (λ q. subst P q t.0) (λ m. each P n (suc k) t.1 op m (omega arith)) (eq-or-lt_of_le h)

-- one of three numbers by opcodes that follow one another
abbrev selected : ℕ → ℕ → ℕ → ℕ → ℕ → ℕ
selected first x y z op = pick {A = ℕ} (eqb op (first + 2)) z (pick {A = ℕ} (eqb op (first + 1)) y x)

-- 270 to 272
pub sums_word : (c a : ℕ) → c < 65536 → a < 65536 → (op : ℕ) → 0o270 ≤ op → op ≤ 0o272
    → settle_unsigned (pos (selected 0o270 (c + a) (wide_difference c a) (c * a) op)) ≡ two_of op c a
unfolding two_of
sums_word c a hc ha op l h =
    each (λ (op : ℕ). settle_unsigned (pos (selected 0o270 (c + a) (wide_difference c a) (c * a) op)) ≡ two_of op c a) 3 0o270
    (refl, (difference-settles c a hc ha, (refl, tt))) op l (omega arith)

-- 320 to 322
pub bits-word : (c a op : ℕ) → 0o320 ≤ op → op ≤ 0o322 → Ok (selected 0o320 (bit_or c a) (bit_xor c a) (bit_and c a) op) ≡ two_of op c a
unfolding two_of
bits-word c a op l h =
    each (λ (op : ℕ). Ok (selected 0o320 (bit_or c a) (bit_xor c a) (bit_and c a) op) ≡ two_of op c a) 3 0o320 (refl, (refl, (refl, tt))) op l (omega arith)

-- ---- the six comparisons, from the three ways in which c can stand to a
abbrev Six : ℕ → ℕ → Type 0
Six c a =
    (answer 8 c a ≡ truth (eqb c a)) × (answer 9 c a ≡ 1 - truth (eqb c a)) × (answer 10 c a ≡ truth (ltb c a))
    × (answer 11 c a ≡ truth (leb c a)) × (answer 12 c a ≡ truth (ltb a c)) × (answer 13 c a ≡ truth (leb a c))

six : (c a : ℕ) → Six c a
six c a = elim-less (ltb c a) refl
  where
    elim-same : (t : Bool) → a ≤ c → eqb c a ≡ t → Six c a
    elim-same true h e =
        let q : c ≡ a = eqb-true c a e in
        rw (le-ltb c a h, e, le-leb c a (omega arith), le-ltb a c (omega arith), le-leb a c h) (refl, refl, refl, refl, refl, refl)
    elim-same false h e =
        let n : c ≡ a → ⊥ = eqb-false c a e in
        rw (le-ltb c a h, e, lt-leb c a (omega (arith, n)), lt-ltb a c (omega (arith, n)), le-leb a c h) (refl, refl, refl, refl, refl, refl)

    elim-less : (t : Bool) → ltb c a ≡ t → Six c a
    elim-less true e =
        let h : c < a = ltb-true c a e in
        rw (e, ne_eqb c a (λ q. omega arith), le-leb c a (omega arith), le-ltb a c (omega arith), lt-leb a c h) (refl, refl, refl, refl, refl, refl)
    elim-less false e = elim-same (eqb c a) (ltb-false c a e) refl

-- 252 to 255
pub unsigned-word : (c a op : ℕ) → 0o252 ≤ op → op ≤ 0o255 → Ok (answer (op % 16) c a) ≡ two_of op c a
unfolding two_of
unsigned-word c a op l h =
    let s = six c a in
    each (λ (op : ℕ). Ok (answer (op % 16) c a) ≡ two_of op c a) 4 0o252
    (ap Ok s.2, (ap Ok s.3, (ap Ok s.4, (ap Ok s.5, tt)))) op l (omega arith)

-- 310 to 315: signed words stand to one another as the words do with 32,768 added
pub signed_word : (c a : ℕ) → c < 65536 → a < 65536 → (op : ℕ) → 0o310 ≤ op → op ≤ 0o315
    → Ok (answer (op % 16) (wrap (c + 32768)) (wrap (a + 32768))) ≡ two_of op c a
unfolding two_of
signed_word c a hc ha op l h =
    let s = six (wrap (c + 32768)) (wrap (a + 32768)) in
    let (same, (less, most)) = raised-order c a hc ha in
    let (back, (more, least)) = raised-order a c ha hc in
    each (λ (op : ℕ). Ok (answer (op % 16) (wrap (c + 32768)) (wrap (a + 32768))) ≡ two_of op c a) 6 0o310 (
      ap Ok (s.0 ∙ ap truth same),
      (
        ap Ok (s.1 ∙ ap (λ (t : Bool). 1 - truth t) same),
        (
          ap Ok (s.2 ∙ ap truth less),
          (
            ap Ok (s.3 ∙ ap truth most),
            (ap Ok (s.4 ∙ ap truth more), (ap Ok (s.5 ∙ ap truth least), tt)),
          ),
        ),
      ),
    ) op l (omega arith)
