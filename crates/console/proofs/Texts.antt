-- The numbers of Decimals are those that std reads, and a text is split where std finds the first `=`. Assumes nothing.
use Rattle.std.proofs.Common.{◌≡◌, ℕ, ◌^◌, ◌<◌, ◌≤◌, Bool, true, false, cond, List, Option, Some, None, Result, Ok, Err, length, eqb, leb, ltb, get_or, refl, sym, ap, ◌∙◌, arith}
use Rattle.std.proofs.lemmas.List.{get_or_past}
use Rattle.std.proofs.lemmas.Str.{IsUtf8-from_ascii}
use Rattle.std.proofs.lemmas.Str.Parse.{IsNumeralModel, numerals_by_fold, parse_plain, digit_at}
use Rattle.std.specs.List.{slice_index}
use Rattle.std.specs.Result.{MatchResult, result_ok}
use Rattle.std.specs.Str.{IsAscii, IsUtf8}
use Rattle.std.specs.Str.Parse.{AllDigits, ParsesUnsigned}
use borrow.Author.Tests.{ne_eqb, eqb-false, leb-true, le-leb}
use denote.Ref.{Bor}
use native.Mathlib.Decide.{dec_lt}
use Rattle.mcode.specs.Word.{and, pick}
use Rattle.mcode.proofs.Tests.{and_both, both-and}
use Rattle.console.specs.Decimals.{is_digit, all_digits, value_from, largest, number_from, number_of}

abbrev Digits : List ℕ → Type 0
Digits ds = all_digits ds ≡ true

-- the definition's digits and their value are those of std
own : IsNumeralModel Digits (value_from 0)
unfolding all_digits value_from
own = numerals_by_fold _ (record {
  empty = refl;
  parts = λ c cs e. let (a, b) = and_both (is_digit c) (all_digits cs) e in let (l, h) = and_both _ _ a in ((leb-true _ _ l, leb-true _ _ h), b);
  more = λ c cs r e. both-and _ _ (both-and _ _ (le-leb _ _ r.0) (le-leb _ _ r.1)) e;
}) value_from (record { empty = λ n. refl; more = λ n c cs r. refl })

undone : (z d b : Bool) (v : ℕ) → (z ≡ false → d ≡ true → b ≡ true → ⊥) → None ≡ pick z None (pick (and d b) (Some v) None)
undone true d b v n = refl
undone false false b v n = refl
undone false true false v n = refl
undone false true true v n = absurd (n refl refl refl)

-- not digits, or of a value above the largest
no_number : (text : List ℕ) → (Digits text × (0 < length text) × (value_from 0 text < 2 ^ 32) → ⊥) → None ≡ number_of text
unfolding number_of number_from
no_number text n = undone (eqb (length text) 0) (all_digits text) (leb (value_from 0 text) largest) (value_from 0 text) (λ z d b. n (d, omega (arith, eqb-false _ _ z), omega (arith, leb-true _ _ b)))

-- what std reads of a text that does not begin with `+`
pub parsed : {E : Type 0} (text : List ℕ) (r : Result ℕ E) → ParsesUnsigned 32 10 text r → (get_or text 0 0 ≡ 43 → ⊥) → result_ok r ≡ number_of text
unfolding number_of number_from
parsed {E = E} text (Ok x) h e =
    let ((d, l, b), v) = parse_plain own {E = E} 32 text (Ok x) h e in
    rw (ne_eqb _ _ (let z : length text ≡ 0 → ⊥ = λ q. omega (arith, l) in z), d, le-leb (value_from 0 text) largest (let z : value_from 0 text ≤ largest = omega (arith, b) in z)) (ap Some v)
parsed text (Err x) h e = no_number text (parse_plain own 32 text (Err x) h e)

-- one that begins with `+`
pub signed : (text : List ℕ) → get_or text 0 0 ≡ 43 → None ≡ number_of text
signed text e = no_number text (λ h. let r = digit_at text 0 (own.to text h.0) (omega (arith, h.1)) in omega (arith, r.0, e))

-- bytes that are no text
not_text : (text : List ℕ) → ¬ (IsUtf8 text) → None ≡ number_of text
not_text text n = no_number text (λ h. n (IsUtf8-from_ascii text (ascii (own.to text h.0))))
  where
    ascii : AllDigits 10 text → IsAscii text
    ascii a i = within (dec_lt i (length text))
      where
        within : Dec (i < length text) → slice_index text i < 128
        within (yes l) = omega (arith, (digit_at text i a l).1)
        within (no l) = omega (arith, get_or_past text i 0 (let z : length text ≤ i = omega arith in z))

module _ {E : Type 0} (text : List ℕ) (P : E → Type 0) where
  abbrev Read : Result (Bor (List ℕ)) E → Type 0
  Read r = MatchResult r (λ s. (s.now ≡ text) × IsUtf8 text) (λ e. ¬ (IsUtf8 text) × P e)

  pub no_utf8 : (r : Result (Bor (List ℕ)) E) → Read r → None ≡ result_ok r → None ≡ number_of text
  no_utf8 (Ok s) h e = cc
  no_utf8 (Err x) h e = not_text text h.0

  pub is_utf8 : (r : Result (Bor (List ℕ)) E) (s : Bor (List ℕ)) → Read r → Some s ≡ result_ok r → s.now ≡ text
  is_utf8 (Ok x) s h e = let q : s ≡ x = cc in ap (λ (b : Bor (List ℕ)). b.now) q ∙ h.0
  is_utf8 (Err x) s h e = cc

-- where std finds the first element that passes: at `place`, if that is below `most`
module _ (place most : ℕ) (r : Option ℕ) (e : r ≡ cond (ltb place most) (Some place) None) where
  found-by : (b : Bool) → ltb place most ≡ b → (at : ℕ) → Some at ≡ cond b (Some place) None → (at ≡ place) × (ltb place most ≡ true)
  found-by true h at q = (cc, h)
  found-by false h at q = absurd (cc)

  pub found_at : (at : ℕ) → r ≡ Some at → (at ≡ place) × (ltb place most ≡ true)
  found_at at q = found-by (ltb place most) refl at (sym q ∙ e)

  none-by : (b : Bool) → ltb place most ≡ b → None ≡ cond b (Some place) None → ltb place most ≡ false
  none-by true h q = absurd (cc)
  none-by false h q = h

  pub found_none : r ≡ None → ltb place most ≡ false
  found_none q = none-by (ltb place most) refl (sym q ∙ e)
