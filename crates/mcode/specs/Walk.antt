-- "Follow code from the entries without regard to depth": which positions of a module's code are reached so, and which of them are at
-- fault. The walk is an analysis whose only mark is 0.
use Rattle.std.specs.Prelude.{ℕ, ◌+◌, ◌-◌, ◌<◌, ◌≡◌, Bool, true, false, not, List, get_or, ltb, leb, eqb, Option, Some, None}
use Rattle.mcode.specs.Word.{pick, and, or}
use Rattle.mcode.specs.Opcode.{lengths}
use Rattle.mcode.specs.Image.{module_of, code_byte, proc_count, entry_of}
use Rattle.mcode.specs.Depths.{Analysis, Marked, Fits, unmarked, target, jumps, names_module, carry}
use Rattle.mcode.specs.declared.Module.{Module}
use Rattle.mcode.specs.declared.Program.{Program}
use Rattle.mcode.specs.declared.Cause.{Cause}
use Rattle.mcode.specs.declared.Cause.TheVariants.{Opcode, Operands, Name, Successor}
use Rattle.mcode.specs.declared.Flow.{Flow}
use Rattle.mcode.specs.declared.Flow.TheVariants.{Fault, Ends, To, Fork}

-- the mark of a reached position
abbrev pub seen : ℕ → ℕ
seen e = 0

-- where a listed instruction op leads, whose target is t and whose next position is n: a call "to the next position"
unfoldable pub ways : ℕ → ℕ → ℕ → Flow
ways op t n =
    pick (or (eqb op 0o304) (eqb op 0o354)) Ends
    (pick (and (leb 0o30 op) (ltb op 0o40)) (carry seen (jumps op t n 0))
    (To n 0))

unfoldable pub ways_at : List ℕ → Module → ℕ → Flow
ways_at image m p =
    let op = code_byte image m p in
    ways op (target op (p + 1) (code_byte image m (p + 1)) (code_byte image m (p + 2))) (p + get_or lengths op 0)

-- no "unlisted opcode", no "operands outside the code"
unfoldable pub legible : List ℕ → Module → ℕ → Bool
legible image m p =
    let size = get_or lengths (code_byte image m p) 0 in
    and (leb 1 size) (leb (p + size) m.length)

-- no "missing module or procedure": those that the instruction op of module m names, whose operand bytes are b and c
unfoldable pub named : Program → Module → ℕ → ℕ → ℕ → Bool
named program m op b c =
    pick (names_module op) (ltb b program.count)
    (pick (ltb op 0o355) true
    (pick (eqb op 0o355) (and (ltb b program.count) (ltb c (proc_count (module_of program b))))
    (pick (leb op 0o360) (ltb b (proc_count m))
    (ltb (op - 0o360) (proc_count m)))))

-- no "successor outside the code"
abbrev pub stays_in : ℕ → Flow → Bool
stays_in size Fault = false
stays_in size Ends = true
stays_in size (To q d) = ltb q size
stays_in size (Fork q d r e) = and (ltb q size) (ltb r size)

-- what is wrong with position p: the first of the paper's four causes that holds
unfoldable pub cause_at : List ℕ → Program → Module → ℕ → Option Cause
cause_at image program m p =
    let op = code_byte image m p in
    let size = get_or lengths op 0 in
    pick (eqb size 0) (Some Opcode)
    (pick (ltb m.length (p + size)) (Some Operands)
    (pick (not (named program m op (code_byte image m (p + 1)) (code_byte image m (p + 2)))) (Some Name)
    (pick (not (stays_in m.length (ways_at image m p))) (Some Successor)
    None)))

abbrev pub is_nothing : Option Cause → Bool
is_nothing None = true
is_nothing (Some cause) = false

-- position p is not at fault
unfoldable pub whole_at : List ℕ → Program → Module → ℕ → Bool
whole_at image program m p = is_nothing (cause_at image program m p)

-- "A listed instruction at fault whose operands lie in the code is still followed to its successors there."
abbrev pub within : ℕ → Flow → Flow
within size Fault = Ends
within size Ends = Ends
within size (To q d) = pick (ltb q size) (To q d) Ends
within size (Fork q d r e) = pick (ltb q size) (pick (ltb r size) (Fork q d r e) (To q d)) (pick (ltb r size) (To r e) Ends)

abbrev pub walk : List ℕ → Module → Analysis
walk image m = record {
  size = m.length;
  none = unmarked;
  entries = proc_count m;
  entry_at = entry_of image m;
  entry_mark = seen;
  flow = λ p k. pick (legible image m p) (within m.length (ways_at image m p)) Ends;
}

-- a position is reached if each set of positions has it that has the entries and, with a position, the successors of that position
abbrev pub Reached : List ℕ → Module → ℕ → Type 0
Reached image m p = (s : List ℕ) → Fits (walk image m) s → Marked (walk image m) s p

-- "the code is whole": no position that is reached is at fault; of one module, of all
abbrev pub Whole : List ℕ → Program → Module → Type 0
Whole image program m = (p : ℕ) → Reached image m p → whole_at image program m p ≡ true

abbrev pub AllWhole : List ℕ → Program → Type 0
AllWhole image program = (k : ℕ) → k < program.count → Whole image program (module_of program k)

-- position p of module k is at fault: "the first such module and the lowest position in it"
pub record Broken (image : List ℕ) (program : Program) (k p : ℕ) : Type 0 where
  pub loaded : k < program.count
  pub reached : Reached image (module_of program k) p
  pub fault : whole_at image program (module_of program k) p ≡ false
  pub first : (j : ℕ) → j < k → Whole image program (module_of program j)
  pub lowest : (q : ℕ) → q < p → Reached image (module_of program k) q → whole_at image program (module_of program k) q ≡ true
