-- The walk of the test over the modules of a lent map: what is tested so far, one module more, and what each test decides.
use Rattle.std.proofs.Common.{◌≡◌, ℕ, ◌+◌, ◌-◌, ◌<◌, ◌≤◌, Bool, true, false, eqb, ltb, leb, List, length, sym, refl, ◌∙◌, subst, not-suc-le-zero, arith, below_more, ltb-true, le-ltb, lt-ltb, le-leb, leb-true}
use mathlib.Core.Bool.{false≢true}
use native.Mathlib.Decide.{dec_lt, ℕ_discrete}
use Rattle.mcode.specs.declared.Module.{Module}
use Rattle.mcode.specs.declared.Program.{Program}
use Rattle.mcode.specs.Word.{and, or, all_below}
use Rattle.mcode.specs.Image.{module_of, in_code}
use Rattle.mcode.specs.Depths.{unmarked as none, depths, entry, marks_of, fits, map_fits}
use Rattle.mcode.specs.Layout.{Told}
use Rattle.mcode.proofs.Tests.{refuted, and_both, both-and, first-or, second-or, or-second, all-at, at_all, any_at, at-any}
use Rattle.depths.specs.Test.{clear, unmarked}
use Rattle.depths.proofs.Parts.{part}

-- module k's code lies from `from` up to `to`
abbrev pub from : Program → ℕ → ℕ
from program k = (module_of program k).code

abbrev pub to : Program → ℕ → ℕ
to program k = (module_of program k).code + (module_of program k).length

-- what is lent of a map for a module
pub part-is : (map : List ℕ) (m : Module) → part map m.code (m.code + m.length) ≡ marks_of map m
part-is map m = let q : m.code + m.length - m.code ≡ m.length = omega arith in rw q refl

-- the two tests that map_fits makes of each module, and of each byte
abbrev pub part_fits : List ℕ → Program → List ℕ → ℕ → Bool
part_fits image program map k = fits (depths image program (module_of program k)) (marks_of map (module_of program k))

abbrev byte_fits : Program → List ℕ → ℕ → Bool
byte_fits program map i = or (in_code program i) (eqb (entry map i) none)

-- module k's test: of the bytes from `at` up to its code, and of its part
abbrev pub module_fits : List ℕ → Program → List ℕ → ℕ → ℕ → Bool
module_fits image program map k at = and (unmarked map at (from program k)) (part_fits image program map k)

-- the first k modules fit, and so does all before position `at`
pub record Tested (image : List ℕ) (program : Program) (map : List ℕ) (k at : ℕ) : Type 0 where
  pub count : k ≤ program.count
  pub within : at ≤ length image
  pub behind : (j : ℕ) → j < k → to program j ≤ at
  pub ahead : (j : ℕ) → k ≤ j → j < program.count → at ≤ from program j
  pub parts : (j : ℕ) → j < k → part_fits image program map j ≡ true
  pub bytes : (i : ℕ) → i < at → byte_fits program map i ≡ true

pub none-tested : (image : List ℕ) (program : Program) (map : List ℕ) → Tested image program map 0 0
none-tested image program map = record {
  count = omega arith;
  within = omega arith;
  behind = λ j l. absurd (not-suc-le-zero l);
  ahead = λ j l h. omega arith;
  parts = λ j l. absurd (not-suc-le-zero l);
  bytes = λ i l. absurd (not-suc-le-zero l);
}

-- a byte in the code of module k
pub in-code : (program : Program) (k i : ℕ) → k < program.count → from program k ≤ i → i < to program k → in_code program i ≡ true
unfolding in_code
in-code program k i l h g =
    at-any program.count (λ k. and (leb (from program k) i) (ltb i (to program k))) k l
    (both-and (leb (from program k) i) (ltb i (to program k)) (le-leb _ _ h) (lt-ltb _ _ g))

code_in : (program : Program) (i : ℕ) → in_code program i ≡ true → (k : ℕ) × (k < program.count) × (from program k ≤ i) × (i < to program k)
unfolding in_code
code_in program i e =
    let (k, l, h) = any_at program.count (λ k. and (leb (from program k) i) (ltb i (to program k))) e in
    let (a, b) = and_both (leb (from program k) i) (ltb i (to program k)) h in
    (k, l, leb-true _ _ a, ltb-true _ _ b)

-- a byte that is in no code fits where it is clear, and only there
clear-fits : (program : Program) (map : List ℕ) (at i : ℕ) → at ≤ i → clear map at i ≡ true → byte_fits program map i ≡ true
clear-fits program map at i h e = second-or (in_code program i) _ (or-second (ltb i at) _ (λ z. false≢true (sym (le-ltb _ _ h) ∙ z)) e)

fits-clear : (program : Program) (map : List ℕ) (at i : ℕ) → (in_code program i ≡ true → ⊥) → byte_fits program map i ≡ true → clear map at i ≡ true
fits-clear program map at i n e = second-or (ltb i at) _ (or-second (in_code program i) _ n e)

module _ (image : List ℕ) (program : Program) (map : List ℕ) where
  fit_parts : map_fits image program map ≡ true → (k : ℕ) → k < program.count → part_fits image program map k ≡ true
  unfolding map_fits
  fit_parts e = all-at program.count (part_fits image program map) (and_both _ _ e).0

  fit-bytes : map_fits image program map ≡ true → (i : ℕ) → i < length image → byte_fits program map i ≡ true
  unfolding map_fits
  fit-bytes e = all-at (length image) (byte_fits program map) (and_both (all_below program.count (part_fits image program map)) _ e).1

  all_fit : ((k : ℕ) → k < program.count → part_fits image program map k ≡ true) → ((i : ℕ) → i < length image → byte_fits program map i ≡ true) → map_fits image program map ≡ true
  unfolding map_fits
  all_fit p b = both-and _ _ (at_all program.count (part_fits image program map) p) (at_all (length image) (byte_fits program map) b)

  -- a map whose bytes from `at` up to `e` are in no code fits only where they are clear
  gap-decides : (at e : ℕ) → e ≤ length image → ((i : ℕ) → at ≤ i → i < e → in_code program i ≡ true → ⊥) → unmarked map at e ≡ false → map_fits image program map ≡ false
  gap-decides at e l out u = refuted (map_fits image program map) (λ f. false≢true (sym u ∙ at_all e (clear map at) (λ i h. go f i h (dec_lt i at))))
    where
      go : map_fits image program map ≡ true → (i : ℕ) → i < e → Dec (i < at) → clear map at i ≡ true
      go f i h (yes x) = first-or (ltb i at) (eqb (entry map i) none) (lt-ltb _ _ x)
      go f i h (no x) = fits-clear program map at i (out i (omega arith) h) (fit-bytes f i (omega arith))

  module _ (T : Told image program) (k at : ℕ) (S : Tested image program map k at) where
    -- a position from `at` up to the next code is in no code
    in-gap : k < program.count → (i : ℕ) → at ≤ i → i < from program k → in_code program i ≡ true → ⊥
    in-gap l i x y e = go (code_in program i e)
      where
        go : (j : ℕ) × (j < program.count) × (from program j ≤ i) × (i < to program j) → ⊥
        go (j, h, u, v) = by (dec_lt j k) (ℕ_discrete j k)
          where
            by : Dec (j < k) → Dec (j ≡ k) → ⊥
            by (yes m) d = omega (arith, S.behind j m)
            by (no m) (yes q) = let w : from program k ≤ i = subst (λ (n : ℕ). from program n ≤ i) q u in omega arith
            by (no m) (no q) = omega (arith, T.laid.apart k j (omega arith) h)

    gap-fails : k < program.count → unmarked map at (from program k) ≡ false → map_fits image program map ≡ false
    gap-fails l u = gap-decides at (from program k) (omega (arith, T.laid.behind k l)) (in-gap l) u

    part-fails : k < program.count → part_fits image program map k ≡ false → map_fits image program map ≡ false
    part-fails l e = refuted (map_fits image program map) (λ f. false≢true (sym e ∙ fit_parts f k l))

    more-tested : k < program.count → unmarked map at (from program k) ≡ true → part_fits image program map k ≡ true → Tested image program map (k + 1) (to program k)
    more-tested l u e = record {
      count = omega arith;
      within = T.laid.behind k l;
      behind = below_more (λ (j : ℕ). to program j ≤ to program k) k (λ j h. omega (arith, T.laid.apart j k h l)) (omega arith);
      ahead = λ j h m. T.laid.apart k j (omega arith) m;
      parts = below_more (λ (j : ℕ). part_fits image program map j ≡ true) k S.parts e;
      bytes = λ i h. far i h (dec_lt i at) (dec_lt i (from program k));
    }
      where
        far : (i : ℕ) → i < to program k → Dec (i < at) → Dec (i < from program k) → byte_fits program map i ≡ true
        far i h (yes x) d = S.bytes i x
        far i h (no x) (yes y) = clear-fits program map at i (omega arith) (all-at (from program k) (clear map at) u i y)
        far i h (no x) (no y) = first-or (in_code program i) (eqb (entry map i) none) (in-code program k i l (omega arith) h)

    pub module-fails : k < program.count → module_fits image program map k at ≡ false → map_fits image program map ≡ false
    module-fails l e = go (unmarked map at (from program k)) refl
      where
        go : (t : Bool) → unmarked map at (from program k) ≡ t → map_fits image program map ≡ false
        go true t = part-fails l (rw t at e)
        go false t = gap-fails l t

    pub module-passes : k < program.count → module_fits image program map k at ≡ true → Tested image program map (k + 1) (to program k)
    module-passes l e = let (u, p) = and_both (unmarked map at (from program k)) _ e in more-tested l u p

    -- the bytes after the last code decide
    pub rest-decides : k ≡ program.count → (b : Bool) → b ≡ unmarked map at (length image) → b ≡ map_fits image program map
    rest-decides q true u = sym (all_fit (λ j h. S.parts j (omega arith)) (λ i h. go i h (dec_lt i at)))
      where
        go : (i : ℕ) → i < length image → Dec (i < at) → byte_fits program map i ≡ true
        go i h (yes x) = S.bytes i x
        go i h (no x) = clear-fits program map at i (omega arith) (all-at (length image) (clear map at) (sym u) i h)
    rest-decides q false u = sym (gap-decides at (length image) (omega arith) (λ i x y e. after i x (code_in program i e)) (sym u))
      where
        after : (i : ℕ) → at ≤ i → (j : ℕ) × (j < program.count) × (from program j ≤ i) × (i < to program j) → ⊥
        after i x (j, h, u, v) = omega (arith, S.behind j (omega arith))
