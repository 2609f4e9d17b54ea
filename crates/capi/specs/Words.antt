-- A machine as 24 words: module, pc, depth, P, L, S, H, M, then the 16 words of the expression stack, the bottom first.
use Rattle.std.specs.Prelude.{ℕ, List, [], ◌∷◌, ◌++◌, get_or, drop, ltb}
use Rattle.mcode.specs.Word.{pick}
use Rattle.mcode.specs.Machine.{address, position, machine}
use Rattle.mcode.specs.declared.Registers.{Registers}
use Rattle.mcode.specs.declared.Machine.{Machine}

abbrev pub register_words : Registers → List ℕ
register_words r = r.unit ∷ r.pc.0 ∷ r.depth ∷ r.p.0 ∷ r.l.0 ∷ r.s.0 ∷ r.h.0 ∷ r.mask ∷ []

abbrev pub words_of : Machine → List ℕ
words_of m = register_words m.registers ++ m.stack

-- the registers that words say, in module k
abbrev pub registers_in : ℕ → List ℕ → Registers
registers_in k words = record {
  unit = k;
  pc = position (get_or words 1 0);
  l = address (get_or words 4 0);
  s = address (get_or words 5 0);
  h = address (get_or words 6 0);
  p = address (get_or words 3 0);
  mask = get_or words 7 0;
  depth = get_or words 2 0;
}

abbrev pub machine_of : List ℕ → Machine
machine_of words = machine (registers_in (get_or words 0 0) words) (drop 8 words)

-- the code's own machine has a byte for the module: 255, which no image has, stands for every number above it
abbrev pub module_number : ℕ → ℕ
module_number word = pick (ltb 255 word) 255 word

abbrev pub machine_from : List ℕ → Machine
machine_from words = machine (registers_in (module_number (get_or words 0 0)) words) (drop 8 words)
