-- The registers as the stepping loop holds them, and how what it leaves is what mcode defines.
use Rattle.std.specs.Prelude.{◌≡◌, ℕ, zero, suc, ◌+◌, ◌-◌, ◌^◌, ◌≤◌, List, Option, Some, None, Result, Ok, Err, ◌==◌, bit_or, length, ltb, get_or, set, slice_index}
use Rattle.mcode.specs.Word.{pick}
use Rattle.mcode.specs.Image.{bases_of}
use Rattle.mcode.specs.Machine.{State, state, Outcome, go, halt, at as placed_at, depth, position, machine, pair_at}
use Rattle.mcode.specs.Decode.{Action, decode_of}
use Rattle.mcode.specs.Step.{Lent, perform_of, computed, goes, has_pair, reads_pair}
use Rattle.mcode.specs.declared.Machine.{Machine}
use Rattle.mcode.specs.declared.Position.{Position}
use Rattle.mcode.specs.declared.Registers.{Registers}
use Rattle.mcode.specs.declared.Stop.{Stop}
use Rattle.mcode.specs.declared.Stop.TheVariants.{Spent, BadAddress}
use Rattle.mcode.specs.Word.{Value}
use Rattle.actions.specs.declared.Core.{Core}

-- the registers of the definition: pc is the place in the image, so the position is counted from the start of the module's code
abbrev pub shown : Core → Registers
shown r = record { unit = r.unit; pc = position (r.pc - r.start); l = r.l; s = r.s; h = r.h; p = r.p; mask = r.mask; depth = r.depth }

abbrev pub held : Core → List ℕ → List ℕ → List ℕ → State
held r stack store out = state (machine (shown r) stack) store out

-- a stop, if there is one, and the state then: "A trap or an end leaves everything as before its instruction."
pub record Left : Type 0 where
  pub stop : Option Stop
  pub state : State

abbrev pub left_by : State → Outcome → Left
left_by x (go y) = record { stop = None; state = y }
left_by x (halt k) = record { stop = Some k; state = x }

-- what a function answers: the registers after it, or a stop
abbrev pub Stepped : Type 0
Stepped = Result Core Stop

-- the registers then: with a stop they are as they were
abbrev pub after : Core → Stepped → Core
after r (Ok q) = q
after r (Err k) = r

-- what a function answered that was given the registers r, with what it left behind its references
abbrev pub result_of : Core → Stepped → List ℕ → List ℕ → List ℕ → Left
result_of r (Ok q) stack store out = record { stop = None; state = held q stack store out }
result_of r (Err k) stack store out = record { stop = Some k; state = held r stack store out }

abbrev pub at : ℕ → ℕ → Core → Core
at to d r = record { pc = to; depth = d; start = r.start; unit = r.unit; g = r.g; l = r.l; s = r.s; h = r.h; p = r.p; mask = r.mask }

-- an action of the instruction that the registers stand at and that ends at a place of the image
abbrev pub acted : Lent → Action → ℕ → Core → List ℕ → List ℕ → List ℕ → Left
acted lent a to r stack store out =
    let x = held r stack store out in
    left_by x (perform_of lent a (position (to - r.start)) x)

-- a computed word put as `by` says, or its trap
abbrev pub replaced : (Position → Machine → ℕ → Machine) → ℕ → Value → Core → List ℕ → List ℕ → List ℕ → Left
replaced by to v r stack store out =
    let x = held r stack store out in
    left_by x (computed v (λ w. goes x (by (position (to - r.start)) x.machine w)))

-- n less than a number: what `-` is, but that with 0 it computes
abbrev pub less : ℕ → ℕ → ℕ
less zero d = d
less (suc n) d = d - suc n

-- a stack of d words with the top n cleared
abbrev pub cleared : ℕ → ℕ → List ℕ → List ℕ
cleared zero d stack = stack
cleared (suc n) d stack = set (cleared n d stack) (d - suc n) 0

-- v in the place of the top word and of n words below it: at 0, 1 and 2 mcode's `replace1`, `replace2` and `replace3`
abbrev pub replaces : ℕ → Position → Machine → ℕ → Machine
replaces n q m v = machine (placed_at q (less n (depth m)) m.registers) (set (cleared n (depth m) m.stack) (depth m - (n + 1)) v)

-- the word at an address, or 32
abbrev pub read_word : List ℕ → ℕ → Value
read_word store a = pick (ltb a (length store)) (Ok (get_or store a 0)) (Err BadAddress)

-- whether a word can be written there, or 32; the store with the word, where it can
abbrev pub has_word : List ℕ → ℕ → Result Unit Stop
has_word store a = pick (ltb a (length store)) (Ok tt) (Err BadAddress)

abbrev pub write_word : List ℕ → ℕ → ℕ → List ℕ
write_word store a v = pick (ltb a (length store)) (set store a v) store

-- the same of a pair, in a store of w words
abbrev pub has_both : ℕ → ℕ → Result Unit Stop
has_both w a = pick (has_pair w a) (Ok tt) (Err BadAddress)

-- a pair of words that is read at a and put from place n of the stack on, or its trap
abbrev pub fetched : ℕ → ℕ → ℕ → Core → List ℕ → List ℕ → List ℕ → Left
fetched a n to r stack store out =
    let x = held r stack store out in
    left_by x (reads_pair x a (pair_at n (position (to - r.start)) x.machine))

-- an instruction with its operand bytes: byte k is o k
unfoldable pub instruction : Lent → ℕ → (ℕ → ℕ) → Core → List ℕ → List ℕ → List ℕ → Left
instruction lent op o r stack store out =
    let d = decode_of op o (shown r) (bases_of lent.program) in
    acted lent d.action (r.pc + d.size) r stack store out

-- the opcode that the stepping loop performs where its budget is spent: it is not listed, so no map marks it
abbrev pub spent_op : ℕ
spent_op = 0o340

-- an instruction, or the spent opcode: "30 spent"
unfoldable pub performed : Lent → ℕ → (ℕ → ℕ) → Core → List ℕ → List ℕ → List ℕ → Left
performed lent op o r stack store out =
    pick (op == spent_op) (record { stop = Some Spent; state = held r stack store out }) (instruction lent op o r stack store out)

-- the bit of the channel that an instruction takes if it is completed: a READ, 240, takes channel a
abbrev pub read_at : ℕ → Core → List ℕ → ℕ
read_at op r stack = pick (op == 0o240) (2 ^ slice_index stack (r.depth - 1)) 0

-- the word of channels behind an instruction that takes these bits if it is completed
abbrev pub unites : Stepped → ℕ → ℕ → ℕ
unites (Ok q) w bits = bit_or w bits
unites (Err k) w bits = w

-- the module stays, and the place in its code
pub record Stays (r q : Core) : Type 0 where
  pub start : q.start ≡ r.start
  pub unit : q.unit ≡ r.unit
  pub g : q.g ≡ r.g
  pub own : r.start ≤ r.pc → q.start ≤ q.pc

-- operand byte k
abbrev pub operand_at : List ℕ → Core → ℕ → ℕ
operand_at image r k = slice_index image (r.pc + k)
