-- The check of all modules: the map once it is blank, one module's part more, and the map that load leaves.
use mathlib.Core.Path.{◌≡◌, sym, ◌∙◌, subst}
use mathlib.Core.Bool.{false≢true}
use mathlib.Core.List.{List}
use Prim.Native.Nat.{ℕ, ◌+◌, ◌-◌, ◌≤◌, ◌<◌}
use native.Mathlib.Decide.{dec_lt}
use native.Mathlib.Omega.{arith}
use borrow.Author.Count.{below_more}
use borrow.Rule.Slice.PartMut.{put_mid, same_len_mid}
use lib.ListN.{length}
use Rattle.mcode.specs.declared.Program.{Program}
use Rattle.mcode.specs.Image.{module_of}
use Rattle.mcode.specs.Depths.{unmarked, entry, Analysis, Fewest, depths, KeptPast, Accepted}
use Rattle.mcode.specs.Layout.{Told}
use Rattle.depths.proofs.Parts.{part, length_part, part_same, put-part, put-before, put-after}
use Rattle.depths.proofs.Whole.{from, to, part-is, in-code}

pub kept_trans : (image a b c : List ℕ) → KeptPast image a b → KeptPast image b c → KeptPast image a c
kept_trans image a b c K L = record { long = L.long ∙ K.long; past = λ p h. L.past p h ∙ K.past p h }

abbrev An : List ℕ → Program → ℕ → Analysis
An image program k = depths image program (module_of program k)

-- position p lies in the code of one of the first n modules
abbrev InCode : Program → ℕ → ℕ → Type 0
InCode program n p = (k : ℕ) × (k < n) × (from program k ≤ p) × (p < to program k)

-- the first n modules have their fewest assignments, and the rest of the image is unmarked
pub record Filled (image : List ℕ) (program : Program) (n : ℕ) (map : List ℕ) : Type 0 where
  pub fewest : (k : ℕ) → k < n → Fewest (An image program k) (part map (from program k) (to program k))
  pub outside : (p : ℕ) → p < length image → (InCode program n p → ⊥) → entry map p ≡ unmarked

-- module k's part came back as ys
module _ (image : List ℕ) (program : Program) (T : Told image program) (map ys : List ℕ) (long : length image ≤ length map) (k : ℕ)
    (lt : k < program.count) (l : length ys ≡ length (part map (from program k) (to program k))) where
  abbrev put : List ℕ
  put = put_mid (from program k) (to program k - from program k) map ys

  up : from program k ≤ to program k
  up = omega arith

  in_map : to program k ≤ length map
  in_map = omega (arith, T.laid.behind k lt)

  len : length ys ≡ to program k - from program k
  len = l ∙ length_part map (from program k) (to program k) in_map

  before : (p : ℕ) → p < from program k → entry put p ≡ entry map p
  before p h = put-before (from program k) (to program k) map ys up in_map len p 0 h

  after : (p : ℕ) → to program k ≤ p → entry put p ≡ entry map p
  after p h = put-after (from program k) (to program k) map ys up in_map len p 0 h

  pub more-kept : KeptPast image map put
  more-kept = record {
    long = same_len_mid (from program k) (to program k - from program k) map ys l;
    past = λ p h. after p (omega (arith, T.laid.behind k lt));
  }

  pub part-back : part put (from program k) (to program k) ≡ ys
  part-back = put-part (from program k) (to program k) map ys up in_map len

  pub more-filled : Filled image program k map → Fewest (An image program k) ys → Filled image program (k + 1) put
  more-filled F G = record {
    fewest = below_more (λ (j : ℕ). Fewest (An image program j) (part put (from program j) (to program j))) k
        (λ j h.
        let w : to program j ≤ length map = omega (arith, T.laid.behind j (omega arith)) in
        subst (Fewest (An image program j))
        (part_same map put (from program j) (to program j) w (omega (arith, w, more-kept.long))
        (λ p x y. sym (before p (omega (arith, y, T.laid.apart j k h lt)))))
        (F.fewest j h))
        (subst (Fewest (An image program k)) (sym part-back) G);
    outside = λ p h n. go p h n (dec_lt p (from program k)) (dec_lt p (to program k));
  }
    where
      rest : (p : ℕ) → (InCode program (k + 1) p → ⊥) → InCode program k p → ⊥
      rest p n (j, h, x, y) = n (j, omega arith, x, y)

      go : (p : ℕ) → p < length image → (InCode program (k + 1) p → ⊥) → Dec (p < from program k) → Dec (p < to program k) → entry put p ≡ unmarked
      go p h n (yes x) d = before p x ∙ F.outside p h (rest p n)
      go p h n (no x) (yes y) = absurd (n (k, omega arith, omega arith, y))
      go p h n (no x) (no y) = after p (omega arith) ∙ F.outside p h (rest p n)

-- all modules are checked
pub accepted : (image : List ℕ) (program : Program) (before after : List ℕ) → Filled image program program.count after → KeptPast image before after
    → Accepted image program before after
accepted image program before after F K = record {
  fewest = λ k l. subst (Fewest (An image program k)) (part-is after (module_of program k)) (F.fewest k l);
  outside = λ i l e. F.outside i l (λ (k, h, x, y). false≢true (sym e ∙ in-code program k i h x y));
  kept = K;
}
