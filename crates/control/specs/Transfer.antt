-- Transfers: the tests of a process that the store alone decides, the module that it is in, and the registers that it goes on with.
use Rattle.std.specs.Prelude.{Bool, not, List, ℕ, ◌+◌, ◌-◌, ltb, leb, eqb, length, get_or}
use Rattle.mcode.specs.Word.{pick, and, or}
use Rattle.mcode.specs.Image.{most_modules, margin}
use Rattle.mcode.specs.Machine.{address}
use Rattle.mcode.specs.Step.{Process, process_at}
use Rattle.actions.specs.declared.Core.{Core}
use Rattle.actions.specs.Table.{module_in}
use Rattle.control.specs.Table.{first_based, stands_in}

-- "q+8 <= W; 24 <= v <= W; 1 <= s <= W; k <= 16, k < s; s-1-k <= v-24"
unfoldable pub sized : ℕ → ℕ → Process → Bool
sized w q x =
    and (leb (q + 8) w)
    (and (and (leb margin x.v) (leb x.v w))
    (and (and (leb 1 x.s) (leb x.s w))
    (and (and (leb x.k 16) (ltb x.k x.s))
    (leb (x.s - 1 - x.k) (x.v - margin)))))

-- the module of the process at q, which passes the tests; most_modules, which is the number of none, where it does not
unfoldable pub target_in : List ℕ → List ℕ → List ℕ → ℕ → ℕ
target_in table map store q =
    let x = process_at store q in
    pick (and (sized (length store) q x) (stands_in table map (first_based table x.g) x.pc x.k)) (first_based table x.g) most_modules

-- the module of the process that catches a stop with this number, where P is p: "If word 14 is not 0 and not P, traps 32 to 40"; most_modules where
-- none does
unfoldable pub catcher_in : List ℕ → List ℕ → List ℕ → ℕ → ℕ → ℕ
catcher_in table map store p number =
    let q = get_or store 14 0 in
    pick (and (leb 32 number) (not (or (eqb q 0) (eqb q p)))) (target_in table map store q) most_modules

-- the process x at q in module k; "M only if b /= 0"
abbrev pub resumed : List ℕ → ℕ → ℕ → ℕ → Process → Core → Core
resumed table k b q x r = record {
  pc = (module_in table k).code + x.pc;
  depth = x.k;
  start = (module_in table k).code;
  unit = k;
  g = address (module_in table k).base;
  l = address x.l;
  s = address (x.s - 1 - x.k);
  h = address (x.v - margin);
  p = address q;
  mask = pick (eqb b 0) r.mask x.mask;
}
