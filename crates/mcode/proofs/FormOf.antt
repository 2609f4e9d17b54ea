-- The modules of an image that is read can be written, and their archive form is not longer than the image. Assumes nothing.
use mathlib.Core.Path.{◌≡◌, refl, sym, subst}
use mathlib.Core.Bool.{Bool, true, false, not}
use mathlib.Core.List.{List, [], ◌∷◌}
use Prim.Native.Nat.{ℕ, zero, suc, ◌+◌, ◌-◌, ◌*◌, ◌/◌, ◌%◌, ◌≤◌, ◌<◌}
use native.Mathlib.Omega.{arith}
use native.Mathlib.Decide.{ℕ_discrete}
use lib.ListN.{length, take, drop, replicate, length-append, length-drop}
use lib.Seq.{length-take-le}
use lib.Dec.{eqb}
use borrow.Author.Tests.{eqb-true, eqb-false, ne_eqb}
use Rattle.mcode.specs.declared.Module.{Module}
use Rattle.mcode.specs.declared.Program.{Program}
use Rattle.mcode.specs.Word.{pick, byte, word, tabulate}
use Rattle.mcode.specs.Image.{parse, module_of, begin_of, proc_count, params_of, first_limit}
use Rattle.mcode.specs.Layout.{Spelt, Told}
use Rattle.mcode.specs.Layout.{Sound as Read}
use Rattle.mcode.specs.Archive.{Procedure, Content, procedure_of, name_of, content_at, contents, word_bytes, records_bytes, given, spelled, default, zeros, module_form, modules_form, form}
use Rattle.mcode.proofs.Tabulate.{length-tabulate}
use Rattle.mcode.proofs.Reader.{told}
use Rattle.mcode.proofs.Written.{Ranged, Sound}
use Rattle.mcode.proofs.FormRead.{AllSound, Writable}

all_sound : (n : ℕ) (f : ℕ → Content) (number : ℕ) → ((i : ℕ) → i < n → Sound (number + i) (f i)) → AllSound number (tabulate n f)
unfolding tabulate
all_sound zero f number h = tt
all_sound (suc n) f number h =
    let e : number + 0 ≡ number = omega arith in (
      subst (λ (k : ℕ). Sound k (f 0)) e (h 0 (omega arith)),
      all_sound n (λ i. f (suc i)) (suc number) (λ i l. let q : number + suc i ≡ suc number + i = omega arith in subst (λ (k : ℕ). Sound k (f (suc i))) q (h (suc i) (omega arith))),
    )

-- procedures that are in range one by one
all-ranged : (code_length limit n : ℕ) (f : ℕ → Procedure) → ((i : ℕ) → i < n → ((f i).entry < code_length) × ((f i).params ≤ 16) × ((f i).results ≤ 4)) → (f 0).params ≤ limit
    → Ranged code_length limit (tabulate n f)
unfolding tabulate
all-ranged code_length limit zero f h l = tt
all-ranged code_length limit (suc zero) f h l = ((h 0 (omega arith)).0, l, (h 0 (omega arith)).2, tt)
all-ranged code_length limit (suc (suc n)) f h l =
    ((h 0 (omega arith)).0, l, (h 0 (omega arith)).2, all-ranged code_length 16 (suc n) (λ i. f (suc i)) (λ i k. h (suc i) (omega arith)) (h 1 (omega arith)).1)

-- ---- one module of an image that is read: the bytes that its form takes

pub length-records : (ps : List Procedure) → length (records_bytes ps) ≡ 4 * length ps
length-records [] = refl
length-records (p ∷ ps) = omega (arith, length-records ps)

module _ (image : List ℕ) (at : ℕ) (m : Module) (S : Spelt (byte image at) at m) (R : Read image m) where
  abbrev c : Content
  c = content_at image at m

  pub length-code : length c.code ≡ m.length
  unfolding content_at
  length-code = length-take-le m.length (drop m.code image) (omega (arith, length-drop m.code image, R.within))

  name_by : (t : Bool) → eqb (byte image at / 4 % 2) 1 ≡ t → length (pick t (take 8 (drop (m.table - 10) image)) (replicate 8 0)) ≡ 8
  name_by true e =
      let one = eqb-true (byte image at / 4 % 2) 1 e in
      length-take-le 8 (drop (m.table - 10) image) (omega (arith, length-drop (m.table - 10) image, S.table, one, S.code, R.within))
  name_by false e = refl

  pub length-name : length c.name ≡ 8
  unfolding content_at name_of
  length-name = name_by (eqb (byte image at / 4 % 2) 1) refl

  count_by : (t : Bool) → eqb m.procs 0 ≡ t → 1 ≤ pick t 1 m.procs
  count_by true e = omega arith
  count_by false e = let n = eqb-false m.procs 0 e in omega (arith, n)

  pub some-procs : 1 ≤ proc_count m
  some-procs = count_by (eqb m.procs 0) refl

  sized-few : (t : Bool) → eqb m.size 0 ≡ t → length (given (not t) (word_bytes m.size)) ≤ 2 * (byte image at % 2)
  sized-few true e = omega arith
  sized-few false e = let n = eqb-false m.size 0 e in let b : byte image at % 2 ≡ 1 = other (ℕ_discrete (byte image at % 2) 0) n in omega (arith, b)
    where
      other : Dec (byte image at % 2 ≡ 0) → (m.size ≡ 0 → ⊥) → byte image at % 2 ≡ 1
      other (yes z) n = absurd (n (S.unsized z))
      other (no z) n = omega (arith, z)

  named-few : (t : Bool) → eqb (byte image at / 4 % 2) 1 ≡ t
      → length (given (not (zeros (pick t (take 8 (drop (m.table - 10) image)) (replicate 8 0)))) (pick t (take 8 (drop (m.table - 10) image)) (replicate 8 0))) ≤ 8 * (byte image at / 4 % 2)
  named-few true e = let one = eqb-true (byte image at / 4 % 2) 1 e in few (zeros (take 8 (drop (m.table - 10) image))) (omega (arith, name_by true e)) one
    where
      few : (z : Bool) → length (take 8 (drop (m.table - 10) image)) ≤ 8 → byte image at / 4 % 2 ≡ 1 → length (given (not z) (take 8 (drop (m.table - 10) image))) ≤ 8 * (byte image at / 4 % 2)
      few true l o = omega arith
      few false l o = omega (arith, l, o)
  named-few false e = omega arith

  -- procedure i, where there are no records, or records
  abbrev told_by : Bool → ℕ → Procedure
  told_by none i = record {
    entry = pick none 0 (word image (m.table + 4 * i));
    params = pick none 0 (byte image (m.table + 4 * i + 2));
    results = pick none 0 (byte image (m.table + 4 * i + 3));
  }

  abbrev procs_by : Bool → List Procedure
  procs_by none = tabulate (pick none 1 m.procs) (told_by none)

  given-few : (d : Bool) (xs : List ℕ) (n : ℕ) → length xs ≤ n → length (given (not d) xs) ≤ n
  given-few true xs n l = omega arith
  given-few false xs n l = l

  listing-few : (t : Bool) → eqb m.procs 0 ≡ t
      → (length (given (not (default (procs_by t))) (length (procs_by t) ∷ [])) ≤ byte image at / 2 % 2) × (length (given (not (default (procs_by t))) (records_bytes (procs_by t))) ≤ 4 * m.procs)
  unfolding tabulate
  listing-few true e = (omega arith, omega arith)
  listing-few false e =
      let b : byte image at / 2 % 2 ≡ 1 = other (ℕ_discrete (byte image at / 2 % 2) 0) (eqb-false m.procs 0 e) in
      let n = length-tabulate m.procs (told_by false) in (
        given-few (default (procs_by false)) (length (procs_by false) ∷ []) (byte image at / 2 % 2) (omega (arith, b)),
        given-few (default (procs_by false)) (records_bytes (procs_by false)) (4 * m.procs) (omega (arith, length-records (procs_by false), n)),
      )
    where
      other : Dec (byte image at / 2 % 2 ≡ 0) → (m.procs ≡ 0 → ⊥) → byte image at / 2 % 2 ≡ 1
      other (yes z) n = absurd (n (S.unlisted z))
      other (no z) n = omega (arith, z)

  -- the form of the module takes no more bytes than the module does in the image
  pub form-few : at + length (module_form c) ≤ m.code + m.length
  unfolding spelled content_at name_of
  form-few =
      let x = listing-few (eqb m.procs 0) refl in
      let y = sized-few (eqb m.size 0) refl in
      let z = named-few (eqb (byte image at / 4 % 2) 1) refl in
      simp length-append (omega (arith, x.0, x.1, y, z, length-code, S.table, S.code))

  pub content-sound : (number : ℕ) → params_of image m 0 ≤ first_limit number → Sound number c
  unfolding content_at
  content-sound number l = record {
    some = omega (arith, some-procs, length-tabulate (proc_count m) (procedure_of image m));
    ranged =
        subst (λ (n : ℕ). Ranged n (first_limit number) (tabulate (proc_count m) (procedure_of image m))) (sym length-code)
        (all-ranged m.length (first_limit number) (proc_count m) (procedure_of image m) (λ i h. (R.entries i h, R.params i h, R.results i h)) l);
    eight = length-name;
    code = omega (arith, length-code, R.entries 0 some-procs);
    short = omega (arith, length-code, R.short);
  }

-- ---- the whole image

-- modules written one behind another, each within its place
pub form-within : (n : ℕ) (f : ℕ → Content) (g : ℕ → ℕ) → ((i : ℕ) → i < n → g i + length (module_form (f i)) ≤ g (suc i)) → g 0 + length (modules_form (tabulate n f)) ≤ g n
unfolding tabulate
form-within zero f g h = omega arith
form-within (suc n) f g h =
    omega (arith, h 0 (omega arith), form-within n (λ i. f (suc i)) (λ i. g (suc i)) (λ i l. h (suc i) (omega arith)), length-append (module_form (f 0)) (modules_form (tabulate n (λ i. f (suc i)))))

module _ (image : List ℕ) (r : (parse image).refusal ≡ 0) where
  abbrev P : Program
  P = (parse image).program

  T : Told image P
  T = told image r

  pub form-short : length (form (contents image)) ≤ length image
  unfolding form contents
  form-short = omega (arith, form-within P.count (λ k. content_at image (begin_of P.modules k) (module_of P k)) (begin_of P.modules) (λ i l. form-few image (begin_of P.modules i) (module_of P i) (T.laid.spelt i l) (T.laid.sound i l)), T.laid.begins)

  first-bare : (k : ℕ) → k < P.count → params_of image (module_of P k) 0 ≤ first_limit k
  first-bare zero l = omega (arith, T.bare)
  first-bare (suc k) l = rw (ne_eqb (suc k) 0 (λ z. omega (arith, z))) ((T.laid.sound (suc k) l).params 0 (some-procs image (begin_of P.modules (suc k)) (module_of P (suc k)) (T.laid.spelt (suc k) l) (T.laid.sound (suc k) l)))

  pub writable : Writable (contents image)
  unfolding contents
  writable = record {
    some = omega (arith, T.some, n);
    few = omega (arith, T.small, n);
    brief = omega (arith, form-short, T.brief);
    sound = all_sound P.count (λ k. content_at image (begin_of P.modules k) (module_of P k)) 0 (λ i l.
        let e : i ≡ 0 + i = omega arith in
        subst (λ (k : ℕ). Sound k (content_at image (begin_of P.modules i) (module_of P i))) e
        (content-sound image (begin_of P.modules i) (module_of P i) (T.laid.spelt i l) (T.laid.sound i l) i (first-bare i l)));
  }
    where
      n : length (contents image) ≡ P.count
      n = length-tabulate P.count (λ k. content_at image (begin_of P.modules k) (module_of P k))
