-- Where the modules of a program that was read lie, one behind another, and where a module's name does. Assumes nothing.
use mathlib.Core.Path.{◌≡◌, refl, sym, subst}
use mathlib.Core.List.{List}
use Prim.Native.Nat.{ℕ, ◌+◌, ◌-◌, ◌/◌, ◌%◌, ◌≤◌, ◌<◌}
use native.Mathlib.Omega.{arith}
use native.Mathlib.Numerals.{add-one}
use lib.ListN.{length}
use borrow.Author.Tests.{eq-eqb}
use Rattle.mcode.specs.Word.{slice, byte}
use Rattle.mcode.specs.Image.{module_of, begin_of}
use Rattle.mcode.specs.Layout.{Spelt, Told, Lies}
use Rattle.mcode.specs.Archive.{name_of}
use Rattle.mcode.specs.declared.Module.{Module}
use Rattle.mcode.specs.declared.Program.{Program}

pub lies : (image : List ℕ) (program : Program) → Told image program → (k : ℕ) → k < program.count → (begin : ℕ) → begin ≡ begin_of program.modules k
    → Lies image begin (module_of program k)
lies image program T k l begin e = record {
  brief = T.brief;
  spelt = subst (λ (b : ℕ). Spelt (byte image b) b (module_of program k)) (sym e) (T.laid.spelt k l);
  sound = T.laid.sound k l;
}

pub begin-next : (program : Program) (k : ℕ) → (module_of program k).code + (module_of program k).length ≡ begin_of program.modules (k + 1)
begin-next program k = rw (add-one k) refl

-- ---- the name, where its bit stands: before the code length

pub name-lies : (image : List ℕ) (begin : ℕ) (m : Module) → Lies image begin m → byte image begin / 4 % 2 ≡ 1 → (10 ≤ m.table) × (m.table ≤ length image)
name-lies image begin m L e = (omega (arith, L.spelt.table, e), omega (arith, L.spelt.code, L.sound.within))

pub name-some : (image : List ℕ) (begin : ℕ) (m : Module) → byte image begin / 4 % 2 ≡ 1 → name_of image begin m ≡ slice image (m.table - 10) 8
unfolding name_of
name-some image begin m e = rw (eq-eqb (byte image begin / 4 % 2) 1 e) refl
