-- The flat array holds the numbers of each module that was put into it. Assumes nothing.
use mathlib.Core.Path.{◌≡◌, sym, ◌∙◌}
use mathlib.Core.Logic.{◌⊎◌, inl, inr}
use mathlib.Core.List.{List}
use Prim.Native.Nat.{ℕ, ◌+◌, ◌*◌, ◌≤◌, ◌<◌}
use native.Mathlib.Omega.{arith}
use native.Mathlib.Nat.{not-suc-le-zero}
use native.Mathlib.Decide.{ℕ_discrete, dec_lt}
use lib.ListN.{length, get_or, set, replicate, length-set, get_or-replicate}
use lib.Seq.{get_or-set_same, get_or-set_other}
use Rattle.mcode.specs.Image.{most_modules, no_module, module_of}
use Rattle.mcode.specs.Step.{written}
use Rattle.mcode.specs.declared.Module.{Module}
use Rattle.mcode.specs.declared.Program.{Program}
use Rattle.mcode.proofs.Zeros.{length-written, written_out, written_in}
use Rattle.actions.specs.Table.{table_words, module_in, Tabled}
use Rattle.engine.specs.Numbers.{numbers_of, Narrow}

module _ (m : Module) (k : ℕ) (t : List ℕ) where
  abbrev put : List ℕ
  put = written (numbers_of m) (6 * k + 1) t

  pub put_same : k < most_modules → length t ≡ table_words → module_in put k ≡ m
  put_same h l =
      rw (
        at 0 (6 * k + 1) (omega arith) (omega arith),
        at 1 (6 * k + 2) (omega arith) (omega arith),
        at 2 (6 * k + 3) (omega arith) (omega arith),
        at 3 (6 * k + 4) (omega arith) (omega arith),
        at 4 (6 * k + 5) (omega arith) (omega arith),
        at 5 (6 * k + 6) (omega arith) (omega arith),
      )
    where
      at : (i n : ℕ) → n ≡ 6 * k + 1 + i → i < 6 → get_or put n 0 ≡ get_or (numbers_of m) i 0
      at i n e j = written_in (numbers_of m) (6 * k + 1) t i n e j (omega arith)

  pub put_other : (j : ℕ) → (j ≡ k → ⊥) → module_in put j ≡ module_in t j
  put_other j d = rw (
    at (6 * j + 1) (side 1 (omega arith) (omega arith)),
    at (6 * j + 2) (side 2 (omega arith) (omega arith)),
    at (6 * j + 3) (side 3 (omega arith) (omega arith)),
    at (6 * j + 4) (side 4 (omega arith) (omega arith)),
    at (6 * j + 5) (side 5 (omega arith) (omega arith)),
    at (6 * j + 6) (side 6 (omega arith) (omega arith)),
  )
    where
      at : (n : ℕ) → (n < 6 * k + 1) ⊎ (6 * k + 1 + 6 ≤ n) → get_or put n 0 ≡ get_or t n 0
      at n s = written_out (numbers_of m) (6 * k + 1) t n s

      side : (i : ℕ) → 1 ≤ i → i ≤ 6 → (6 * j + i < 6 * k + 1) ⊎ (6 * k + 1 + 6 ≤ 6 * j + i)
      side i a b = go (dec_lt j k)
        where
          go : Dec (j < k) → (6 * j + i < 6 * k + 1) ⊎ (6 * k + 1 + 6 ≤ 6 * j + i)
          go (yes l) = inl (omega arith)
          go (no n) = inr (let l : k < j = omega (arith, n, d) in omega arith)

  pub put_count : get_or put 0 0 ≡ get_or t 0 0
  put_count = written_out (numbers_of m) (6 * k + 1) t 0 (inl (omega arith))

-- what the array holds when k modules are put into it
pub record Holds (program : Program) (t : List ℕ) (k : ℕ) : Type 0 where
  pub long : length t ≡ table_words
  pub count : get_or t 0 0 ≡ program.count
  pub below : (j : ℕ) → j < k → module_in t j ≡ module_of program j
  pub above : (j : ℕ) → k ≤ j → j < most_modules → module_in t j ≡ no_module

pub holds-none : (program : Program) (n : ℕ) → n ≡ program.count → Holds program (set (replicate table_words 0) 0 n) 0
holds-none program n e = record {
  long = length-set (replicate table_words 0) 0 n;
  count = get_or-set_same (replicate table_words 0) 0 n 0 (omega arith) ∙ e;
  below = λ j h. absurd (not-suc-le-zero h);
  above = λ j h l. rw (
    zero-at (6 * j + 1) (omega arith) (omega arith),
    zero-at (6 * j + 2) (omega arith) (omega arith),
    zero-at (6 * j + 3) (omega arith) (omega arith),
    zero-at (6 * j + 4) (omega arith) (omega arith),
    zero-at (6 * j + 5) (omega arith) (omega arith),
    zero-at (6 * j + 6) (omega arith) (omega arith),
  );
}
  where
    zero-at : (i : ℕ) → 1 ≤ i → i < table_words → get_or (set (replicate table_words 0) 0 n) i 0 ≡ 0
    zero-at i a b = get_or-set_other (replicate table_words 0) 0 i n 0 (λ z. omega arith) ∙ get_or-replicate table_words i 0 0 b

pub holds_more : (program : Program) (t : List ℕ) (k : ℕ) → k < most_modules → Holds program t k → Holds program (written (numbers_of (module_of program k)) (6 * k + 1) t) (k + 1)
holds_more program t k h H = record {
  long = length-written (numbers_of (module_of program k)) (6 * k + 1) t ∙ H.long;
  count = put_count (module_of program k) k t ∙ H.count;
  below = λ j l. go j l (ℕ_discrete j k);
  above = λ j l b. put_other (module_of program k) k t j (λ z. omega arith) ∙ H.above j (omega arith) b;
}
  where
    go : (j : ℕ) → j < k + 1 → Dec (j ≡ k) → module_in (written (numbers_of (module_of program k)) (6 * k + 1) t) j ≡ module_of program j
    go j l (yes e) = rw e (put_same (module_of program k) k t h H.long)
    go j l (no d) = put_other (module_of program k) k t j d ∙ H.below j (omega (arith, d))

-- the whole array
pub tabled-so : (program : Program) (t : List ℕ) (k : ℕ) → program.count ≤ k → Narrow program → Holds program t k → Tabled t program
tabled-so program t k h N H = record {
  count = sym H.count;
  few = N.few;
  modules = λ j l. go j l (dec_lt j k);
}
  where
    go : (j : ℕ) → j < most_modules → Dec (j < k) → module_of program j ≡ module_in t j
    go j l (yes b) = sym (H.below j b)
    go j l (no b) = N.blank j (omega (arith, b)) ∙ sym (H.above j (omega (arith, b)) l)
