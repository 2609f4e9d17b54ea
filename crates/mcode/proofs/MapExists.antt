-- An image each of whose modules has a fewest assignment is accepted by load: the map with these assignments. Assumes nothing.
use mathlib.Core.Path.{◌≡◌, refl, sym, ◌∙◌, subst}
use mathlib.Core.Logic.{⊎_elim}
use mathlib.Core.Bool.{Bool, true, false, false≢true}
use mathlib.Core.List.{List, [], ◌∷◌}
use Prim.Native.Nat.{ℕ, zero, suc, ◌+◌, ◌-◌, ◌≤◌, ◌<◌}
use native.Mathlib.Nat.{not-suc-le-zero, eq-or-lt_of_le}
use native.Mathlib.Decide.{dec_lt}
use native.Mathlib.Omega.{arith}
use lib.ListN.{length, get_or, drop, length-drop, get_or-eq_default}
use lib.Seq.{length-take-le, get_or-take, get_or-drop, ext_get_or}
use lib.Dec.{ltb, leb}
use borrow.Author.Tests.{lt-ltb, le-ltb, le-leb, lt-leb}
use Rattle.mcode.specs.declared.Program.{Program}
use Rattle.mcode.specs.Word.{pick, and, or, any_below, tabulate}
use Rattle.mcode.specs.Image.{parse, module_of, in_code}
use Rattle.mcode.specs.Layout.{Told}
use Rattle.mcode.specs.Depths.{Fewest, unmarked, depths, entry, marks_of, Accepted}
use Rattle.mcode.specs.Run.{verdict, Judged, Loads}
use Rattle.mcode.proofs.Tabulate.{length-tabulate, get_d_tabulate}
use Rattle.mcode.proofs.Reader.{told}

-- an entry that is there does not depend on the default
any-default : (l : List ℕ) (i : ℕ) → i < length l → get_or l i unmarked ≡ entry l i
any-default [] i h = absurd (not-suc-le-zero h)
any-default (x ∷ l) zero h = refl
any-default (x ∷ l) (suc i) h = any-default l i (omega arith)

module _ (image before : List ℕ) (r : (parse image).refusal ≡ 0) (room : length image ≤ length before)
    (marks : ℕ → List ℕ) (F : (k : ℕ) → k < (parse image).program.count → Fewest (depths image (parse image).program (module_of (parse image).program k)) (marks k)) where
  abbrev P : Program
  P = (parse image).program

  T : Told image P
  T = told image r

  abbrev code : ℕ → ℕ
  code k = (module_of P k).code

  abbrev size : ℕ → ℕ
  size k = (module_of P k).length

  -- entry i lies in the code of module k
  abbrev lies : ℕ → ℕ → Bool
  lies i k = and (leb (code k) i) (ltb i (code k + size k))

  -- its mark, in the first n modules
  mark_in : ℕ → ℕ → ℕ
  mark_in zero i = unmarked
  mark_in (suc k) i = pick (lies i k) (get_or (marks k) (i - code k) unmarked) (mark_in k i)

  abbrev entry_for : ℕ → ℕ
  entry_for i = pick (ltb i (length image)) (mark_in P.count i) (entry before i)

  pub map : List ℕ
  map = tabulate (length before) entry_for

  mark-here : (n k p : ℕ) → k < n → n ≤ P.count → p < size k → mark_in n (code k + p) ≡ get_or (marks k) p unmarked
  unfolding mark_in
  mark-here zero k p l h s = absurd (not-suc-le-zero l)
  mark-here (suc j) k p l h s = ⊎_elim here (there (λ q. mark-here j k p q (omega arith) s)) (eq-or-lt_of_le (let z : k ≤ j = omega arith in z))
    where
      here : k ≡ j → pick (lies (code k + p) j) (get_or (marks j) (code k + p - code j) unmarked) (mark_in j (code k + p)) ≡ get_or (marks k) p unmarked
      here e = subst (λ (x : ℕ). pick (lies (code k + p) x) (get_or (marks x) (code k + p - code x) unmarked) (mark_in x (code k + p)) ≡ get_or (marks k) p unmarked) e
          (let q : code k + p - code k ≡ p = omega arith in
          rw (le-leb (code k) (code k + p) (omega arith), lt-ltb (code k + p) (code k + size k) (omega arith), q) refl)

      there : (k < j → mark_in j (code k + p) ≡ get_or (marks k) p unmarked) → k < j → pick (lies (code k + p) j) (get_or (marks j) (code k + p - code j) unmarked) (mark_in j (code k + p)) ≡ get_or (marks k) p unmarked
      there ih q =
          let a = T.laid.apart k j q (omega arith) in
          rw (lt-leb (code j) (code k + p) (omega (arith, a, s))) (ih q)

  mark-none : (n i : ℕ) → any_below n (lies i) ≡ false → mark_in n i ≡ unmarked
  unfolding mark_in any_below
  mark-none zero i e = refl
  mark-none (suc k) i e = go (lies i k) (any_below k (lies i)) refl e (λ f. mark-none k i f)
    where
      go : (t u : Bool) → any_below k (lies i) ≡ u → or t u ≡ false → (any_below k (lies i) ≡ false → mark_in k i ≡ unmarked) → pick t (get_or (marks k) (i - code k) unmarked) (mark_in k i) ≡ unmarked
      go true u a e f = absurd (false≢true (sym e))
      go false u a e f = f (a ∙ e)

  map_at : (i : ℕ) → i < length image → entry map i ≡ mark_in P.count i
  unfolding map
  map_at i l = get_d_tabulate (length before) entry_for 0 i (omega (arith, l, room)) ∙ rw (lt-ltb i (length image) l) refl

  long : length map ≡ length before
  unfolding map
  long = length-tabulate (length before) entry_for

  part-is : (k : ℕ) → k < P.count → marks_of map (module_of P k) ≡ marks k
  part-is k l =
      let w = (T.laid.sound k l).within in
      let n : length (marks_of map (module_of P k)) ≡ size k = length-take-le (size k) (drop (code k) map) (omega (arith, length-drop (code k) map, long, w, room)) in
      ext_get_or unmarked (marks_of map (module_of P k)) (marks k) (n ∙ sym (F k l).fits.sized) (λ p h. at p (omega (arith, h, n)) w)
    where
      at : (p : ℕ) → p < size k → code k + size k ≤ length image → get_or (marks_of map (module_of P k)) p unmarked ≡ get_or (marks k) p unmarked
      at p h w =
          get_or-take (size k) (drop (code k) map) p unmarked h
          ∙ get_or-drop (code k) map p unmarked
          ∙ any-default map (code k + p) (omega (arith, long, w, room, h))
          ∙ map_at (code k + p) (omega (arith, w, h))
          ∙ mark-here P.count k p l (omega arith) h

  past-in : (i : ℕ) → length image ≤ i → i < length before → entry map i ≡ entry before i
  unfolding map
  past-in i h l = get_d_tabulate (length before) entry_for 0 i l ∙ rw (le-ltb i (length image) h) refl

  accepts : Accepted image P before map
  unfolding in_code
  accepts = record {
    fewest = λ k l. rw (part-is k l) (F k l);
    outside = λ i l e. map_at i l ∙ mark-none P.count i e;
    kept = record { long = long; past = past };
  }
    where
      past : (i : ℕ) → length image ≤ i → entry map i ≡ entry before i
      past i h = go (dec_lt i (length before))
        where
          go : Dec (i < length before) → entry map i ≡ entry before i
          go (yes l) = past-in i h l
          go (no n) = get_or-eq_default map 0 {n = i} (omega (arith, n, long)) ∙ sym (get_or-eq_default before 0 {n = i} (omega arith))

  pub loads : Loads image before (verdict 0) map
  loads = rw (r, le-ltb (length before) (length image) room) (Judged.accepts refl accepts)
