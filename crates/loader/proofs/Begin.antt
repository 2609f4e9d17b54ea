-- What start answers, case by case, from the result of the reader. Assumes nothing.
use mathlib.Core.Path.{◌≡◌, refl, sym, ap, subst}
use mathlib.Core.Bool.{Bool, true, false, not}
use mathlib.Core.List.{List}
use Rattle.std.proofs.Common.{Ok, Err}
use Prim.Native.Nat.{ℕ, zero, suc, ◌+◌, ◌≤◌, ◌<◌}
use native.Mathlib.Omega.{arith}
use lib.ListN.{length}
use lib.Dec.{leb, eqb}
use borrow.Author.Tests.{le-leb, leb-true, ne_eqb}
use Rattle.mcode.specs.Word.{pick, and}
use Rattle.mcode.specs.Image.{Parsed, parse, module_of, entry_of}
use Rattle.mcode.specs.Layout.{Told}
use Rattle.mcode.specs.Machine.{zero_machine}
use Rattle.mcode.specs.Run as Run
use Rattle.mcode.specs.Run.{store_fits, start_refusal, start_machine, start_store, start_of}
use Rattle.mcode.specs.declared.Program.{Program}
use Rattle.mcode.specs.declared.Refusal.{Refusal}
use Rattle.mcode.specs.Answer.{refusal_number, parsed_of}
use Rattle.mcode.proofs.Reader.{told}
use Rattle.mcode.proofs.Tests.{and_both}
use Rattle.loader.specs.Begin.{begun}
use Rattle.loader.proofs.Answers.{refused-as}
use Rattle.loader.proofs.Early.{early, numbered}

-- what was read is laid out as it should be
pub read_told : (image : List ℕ) (program : Program) → parsed_of (Ok program) ≡ parse image → Told image program
read_told image program e = subst (λ (p : Parsed). Told image p.program) (sym e) (told image (sym (ap (λ (p : Parsed). p.refusal) e)))

module _ (image store : List ℕ) where
  pub refused-so : (k : Refusal) → parsed_of (Err k) ≡ parse image → begun (Err k) store ≡ start_of image store
  unfolding start_of start_refusal
  refused-so k e = rw (refused-as image k e, le-leb 1 (refusal_number k) (numbered k), le-leb 1 (refusal_number k) (numbered k))

  module _ (program : Program) (e : parsed_of (Ok program) ≡ parse image) where
    abbrev fit : Bool
    fit = and (leb (program.end + 36) (length store)) (leb (length store) 65535)

    pub small-so : fit ≡ false → record { number = 9; machine = zero_machine; store = store } ≡ start_of image store
    unfolding start_of start_refusal
    small-so f = rw (← e, f)

    pub begun-so : fit ≡ true → record { number = 0; machine = start_machine image program (length store); store = start_store program (length store) } ≡ start_of image store
    unfolding start_of start_refusal
    begun-so f = rw (← e, f)

-- the first procedure's entry is a position
pub first_entry : {image : List ℕ} {program : Program} → Told image program → entry_of image (module_of program 0) 0 ≤ 65535
first_entry {image} {program} T =
    let s = T.laid.sound 0 T.some in
    omega (arith, s.entries 0 (some (module_of program 0).procs), s.short)
  where
    some : (n : ℕ) → 0 < pick (eqb n 0) 1 n
    some zero = omega arith
    some (suc n) = rw (ne_eqb (suc n) 0 (λ z. omega arith)) (omega arith)

-- refusal 9, passed
pub store-fits-so : (end w : ℕ) → and (leb (end + 36) w) (leb w 65535) ≡ true → (end + 36 ≤ w) × (w ≤ 65535)
store-fits-so end w f = let (a, b) = and_both (leb (end + 36) w) (leb w 65535) f in (leb-true (end + 36) w a, leb-true w 65535 b)

-- start refuses with 1 to 6 or 9, which have no place
refusal-low : (image : List ℕ) (w : ℕ) → start_refusal image w ≤ 9
unfolding start_refusal
refusal-low image w = go (leb 1 (parse image).refusal) (not (store_fits (parse image).program w)) (early image)
  where
    go : (a b : Bool) → (parse image).refusal ≤ 6 → pick a (parse image).refusal (pick b 9 0) ≤ 9
    go true b l = omega (arith, l)
    go false true l = omega arith
    go false false l = omega arith

-- a refused start leaves the store
abbrev started : List ℕ → List ℕ → Bool → Run.Started
started image store t =
    pick t (record { number = start_refusal image (length store); machine = zero_machine; store = store })
    (record { number = 0; machine = start_machine image (parse image).program (length store); store = start_store (parse image).program (length store) })

pub start-leaves : (image store : List ℕ) → 1 ≤ (start_of image store).number → (start_of image store).store ≡ store
unfolding start_of
start-leaves image store = go (leb 1 (start_refusal image (length store)))
  where
    go : (t : Bool) → 1 ≤ (started image store t).number → (started image store t).store ≡ store
    go true l = refl
    go false l = absurd (let f : ⊥ = omega (arith, l) in f)

pub start-low : (image store : List ℕ) → (start_of image store).number ≤ 9
unfolding start_of
start-low image store = go (leb 1 (start_refusal image (length store)))
  where
    go : (t : Bool) → (started image store t).number ≤ 9
    go true = refusal-low image (length store)
    go false = omega arith
