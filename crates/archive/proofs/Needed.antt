-- Which fields a module's form spells out, and how long it is. Assumes nothing.
use Rattle.std.proofs.Common.{MatchOption, Option, None, Some, Bor}
use Rattle.std.specs.Bool.{MatchBool}
use Rattle.std.specs.List.{AllWithin, HoldsAt}
use Rattle.std.specs.Option.{option_copied}
use mathlib.Core.Path.{◌≡◌, refl, sym, ap, ◌∙◌}
use mathlib.Core.Bool.{Bool, true, false, not, true≢false}
use mathlib.Core.List.{List, [], ◌∷◌}
use Prim.Native.Nat.{ℕ, zero, suc, ◌+◌, ◌-◌, ◌*◌, ◌/◌, ◌%◌, ◌≤◌, ◌<◌}
use native.Mathlib.Nat.{not-suc-le-zero}
use native.Mathlib.Omega.{arith}
use lib.ListN.{length, get_or, replicate, length-append}
use lib.Dec.{eqb}
use borrow.Author.Tests.{eq-eqb, ne_eqb, eqb-false}
use Rattle.mcode.specs.Word.{pick, and, slice, byte}
use Rattle.mcode.specs.Image.{proc_count, entry_of, params_of, results_of}
use Rattle.mcode.specs.Layout.{Lies}
use Rattle.mcode.specs.Archive.{Content, procedure_of, name_of, content_at, word_bytes, records_bytes, Bits, given, spelled, default, zeros, needed, module_form}
use Rattle.mcode.specs.declared.Module.{Module}
use Rattle.mcode.proofs.Tabulate.{length-tabulate}
use Rattle.mcode.proofs.FormOf.{length-records, length-code, length-name}
use Rattle.mcode.proofs.FormPieces.{default-tabulate, no-records}
use Rattle.placed.specs.Name.{spelt_name}
use Rattle.archive.specs.declared.fields.Fields.{Fields}
use Rattle.archive.specs.Form.{bits, procs_of}

-- ---- zeros

zeros-all : (xs : List ℕ) → ((k : ℕ) → k < length xs → get_or xs k 0 ≡ 0) → zeros xs ≡ true
zeros-all [] h = refl
zeros-all (x ∷ xs) h = rw (eq-eqb x 0 (h 0 (omega arith))) (zeros-all xs (λ k l. h (suc k) (omega (arith, l))))

zeros-other : (xs : List ℕ) (k : ℕ) → k < length xs → (get_or xs k 0 ≡ 0 → ⊥) → zeros xs ≡ false
zeros-other [] k l n = absurd (not-suc-le-zero l)
zeros-other (x ∷ xs) zero l n = rw (ne_eqb x 0 n) refl
zeros-other (x ∷ xs) (suc k) l n = by (eqb x 0) (zeros-other xs k (omega (arith, l)) n)
  where
    by : (t : Bool) → zeros xs ≡ false → and t (zeros xs) ≡ false
    by true e = e
    by false e = refl

pub zeros-so : (xs : List ℕ) (r : Bool) → MatchBool r (AllWithin (λ x. x ≡ 0) xs 0 (length xs)) ((k : ℕ) × (k < length xs) × HoldsAt (λ x. x ≡ 0 → ⊥) xs k) → r ≡ zeros xs
zeros-so xs true A = sym (zeros-all xs (λ k l. A k 0 (omega arith) l))
zeros-so xs false (k, l, n) = sym (zeros-other xs k l (n 0))

-- ---- the single default procedure

-- of at most one procedure the three fields decide
few-so : (image : List ℕ) (m : Module) → m.procs ≤ 1
    → default (procs_of image m) ≡ and (eqb (entry_of image m 0) 0) (and (eqb (params_of image m 0) 0) (eqb (results_of image m 0) 0))
few-so image m l = default-tabulate (proc_count m) (procedure_of image m) ∙ rw (one (eqb m.procs 0) refl) refl
  where
    one : (t : Bool) → eqb m.procs 0 ≡ t → eqb (pick t 1 m.procs) 1 ≡ true
    one true e = refl
    one false e = let n = eqb-false m.procs 0 e in eq-eqb m.procs 1 (omega (arith, n, l))

pub many-so : (image : List ℕ) (m : Module) → 1 < m.procs → false ≡ default (procs_of image m)
many-so image m l = sym (default-tabulate (proc_count m) (procedure_of image m) ∙ rw (ne_eqb m.procs 0 (λ z. omega (arith, z, l)), ne_eqb m.procs 1 (λ z. omega (arith, z, l))) refl)

module _ (image : List ℕ) (m : Module) (l : m.procs ≤ 1) (e : ℕ) (a : e ≡ entry_of image m 0) where
  pub entry_other : (e ≡ 0 → ⊥) → false ≡ default (procs_of image m)
  entry_other n = sym (few-so image m l ∙ rw (sym a, ne_eqb e 0 n) refl)

  module _ (p : ℕ) (b : p ≡ params_of image m 0) (z : e ≡ 0) where
    pub params-other : (p ≡ 0 → ⊥) → false ≡ default (procs_of image m)
    params-other n = sym (few-so image m l ∙ rw (sym a, eq-eqb e 0 z, sym b, ne_eqb p 0 n) refl)

    pub results-so : (r : ℕ) → r ≡ results_of image m 0 → p ≡ 0 → eqb r 0 ≡ default (procs_of image m)
    results-so r c y = sym (few-so image m l ∙ rw (sym a, eq-eqb e 0 z, sym b, eq-eqb p 0 y, sym c) refl)

-- ---- the name

-- a name other than zeros, from what the image spells of it
pub named-so : (image : List ℕ) (at : ℕ) (m : Module) (o : Option (Bor (List ℕ))) → option_copied o ≡ spelt_name image at m
    → (r : Bool) (P : Bor (List ℕ) → Type 0) → ((x : Bor (List ℕ)) → P x → r ≡ not (zeros x.now)) → MatchOption o (r ≡ false) P → r ≡ not (zeros (name_of image at m))
unfolding name_of
named-so image at m o e r P h M = by (eqb (byte image at / 4 % 2) 1) o e M
  where
    by : (t : Bool) (o : Option (Bor (List ℕ))) → option_copied o ≡ pick t (Some (slice image (m.table - 10) 8)) None → MatchOption o (r ≡ false) P
        → r ≡ not (zeros (pick t (slice image (m.table - 10) 8) (replicate 8 0)))
    by true None e M = absurd cc
    by true (Some x) e M = let s : x.now ≡ slice image (m.table - 10) 8 = cc in h x M ∙ ap (λ (y : List ℕ). not (zeros y)) s
    by false None e M = M
    by false (Some x) e M = absurd cc

-- ---- the fields together

pub needed-so : (image : List ℕ) (at : ℕ) (m : Module) (s d n : Bool) → s ≡ not (eqb m.size 0) → d ≡ default (procs_of image m) → n ≡ not (zeros (name_of image at m))
    → record { sized = s; listing = not d; named = n } ≡ needed (content_at image at m)
unfolding content_at
needed-so image at m s d n p q r = rw (p, q, r) refl

-- ---- the length of a module's form

given-length : (b : Bool) (xs : List ℕ) (k r : ℕ) → length xs ≡ k → r ≡ pick b k 0 → length (given b xs) ≡ r
given-length true xs k r e q = e ∙ sym q
given-length false xs k r e q = sym q

-- procedures other than the default one were listed
pub listed-some : (image : List ℕ) (m : Module) → default (procs_of image m) ≡ false → proc_count m ≡ m.procs
listed-some image m d = go (eqb m.procs 0) refl
  where
    go : (t : Bool) → eqb m.procs 0 ≡ t → proc_count m ≡ m.procs
    go true e = absurd (true≢false (sym (default-tabulate (proc_count m) (procedure_of image m) ∙ no-records image m e) ∙ d))
    go false e = rw e refl

module _ (image : List ℕ) (at : ℕ) (m : Module) (L : Lies image at m) where
  abbrev c : Content
  c = content_at image at m

  listing-length : (d : Bool) (r : ℕ) → default (procs_of image m) ≡ d → r ≡ pick (not d) (1 + 4 * m.procs) 0
      → length (given (not d) (length (procs_of image m) ∷ [])) + length (given (not d) (records_bytes (procs_of image m))) ≡ r
  listing-length true r e q = sym q
  listing-length false r e q =
      omega (arith, length-records (procs_of image m), length-tabulate (proc_count m) (procedure_of image m), listed-some image m e, q)

  pub length-form : (f : Fields) → bits f ≡ needed c → (s l n : ℕ) → s ≡ pick f.sized 2 0 → l ≡ pick f.listing (1 + 4 * m.procs) 0 → n ≡ pick f.named 8 0
      → 3 + s + l + n + m.length ≡ length (module_form c)
  unfolding spelled content_at
  length-form f e s l n p q r =
      let a = given-length (not (eqb m.size 0)) (word_bytes m.size) 2 s refl (p ∙ ap (λ (b : Bits). pick b.sized 2 0) e) in
      let b = listing-length (default (procs_of image m)) l refl (q ∙ ap (λ (b : Bits). pick b.listing (1 + 4 * m.procs) 0) e) in
      let g = given-length (not (zeros (name_of image at m))) (name_of image at m) 8 n (length-name image at m L.spelt L.sound) (r ∙ ap (λ (b : Bits). pick b.named 8 0) e) in
      simp length-append (omega (arith, a, b, g, length-code image at m L.spelt L.sound))
