-- One step: a line is taken, or the instruction at the machine's position is decoded to an action and the action is performed; a trap of
-- either leads to the trap process.
use Rattle.std.specs.Prelude.{ℕ, zero, suc, ◌+◌, ◌-◌, ◌*◌, ◌/◌, ◌^◌, Bool, not, List, [], ◌∷◌, length, get_or, set, replicate, ltb, leb, eqb, Ok, Err}
use Rattle.mcode.specs.Word.{Value, pick, and, or, wrap, bit, byte_of, with_byte, one_of, two_of, three_of, paired, high_of, low_of, double_of}
use Rattle.mcode.specs.Image.{module_of, bases_of, code_byte, entry_of, margin}
use Rattle.mcode.specs.Depths.{front_of, mark_at, marked}
use Rattle.mcode.specs.Machine.{State, state, Live, OutcomeOf, Outcome, go, halt, leaving, handled, stop_number, address, position, machine, at, framed, depth, top, second, third, fourth, on, take1, take2, take3, put, replace1, replace2, replace3, put_pair, pair_for1, pair_for4}
use Rattle.mcode.specs.declared.Position.{Position}
use Rattle.mcode.specs.declared.Registers.{Registers}
use Rattle.mcode.specs.declared.Machine.{Machine}
use Rattle.mcode.specs.declared.Program.{Program}
use Rattle.mcode.specs.declared.Stop.{Stop}
use Rattle.mcode.specs.declared.Stop.TheVariants.{Ended, BadAddress, StackLimit, ReturnMark, BadProcess, BadChannel, Program as OfProgram}
use Rattle.mcode.specs.Decode.{decode_of, Action, Put, AddTop, Jump, JumpZero, OrJump, AndJump, Load, LoadTop, LoadIndexed, Store, StoreBelow, StoreIndexed, LoadByte, StoreByte, One, Two, Three, Copy, Nothing, Read, Write, Trap, Enter, Follow, Call, CallLinked, CallExternal, Return, Transfer, PutPair, LoadPair, LoadPairTop, StorePair, StorePairBelow, Double, Save, Fetch}

-- what a run is lent and only reads
pub record Lent : Type 0 where
  pub image : List ℕ
  pub program : Program
  pub map : List ℕ
  pub inputs : List ℕ

-- ---- performing: q is the next position; the store and the outputs stay where only the machine is given

abbrev pub goes : State → Machine → Outcome
goes x m = go (state m x.store x.outputs)

abbrev pub stores_to : State → Machine → List ℕ → Outcome
stores_to x m store = go (state m store x.outputs)

-- "an address not below W is trap 32 where a word is read or written"
abbrev pub in_store : State → ℕ → Outcome → Outcome
in_store x a o = pick (ltb a (length x.store)) o (halt BadAddress)

-- the word at an address
abbrev pub word_in : State → ℕ → ℕ
word_in x a = get_or x.store a 0

-- the pair of words at a: "The high word is at the first address"; "the low word's address is one more, modulo 65,536"
abbrev pub low_at : ℕ → ℕ
low_at a = wrap (a + 1)

-- whether a store of w words has both of them
abbrev pub has_pair : ℕ → ℕ → Bool
has_pair w a = and (ltb a w) (ltb (low_at a) w)

-- "If either address fails, trap 32 is given and neither word is written."
abbrev pub in_pair : State → ℕ → Outcome → Outcome
in_pair x a o = pick (has_pair (length x.store) a) o (halt BadAddress)

-- the pair is read, and handed on to f; the pair is written
abbrev pub reads_pair : State → ℕ → (ℕ → ℕ → Machine) → Outcome
reads_pair x a f = in_pair x a (goes x (f (word_in x a) (word_in x (low_at a))))

abbrev pub writes_pair : State → ℕ → ℕ → ℕ → Machine → Outcome
writes_pair x a high low m = in_pair x a (stores_to x m (set (set x.store a high) (low_at a) low))

-- a computed word, handed on, or its trap
abbrev pub computed : Value → (ℕ → Outcome) → Outcome
computed (Ok v) f = f v
computed (Err k) f = halt k

-- "350 b: from L, b times the word at that address"
unfoldable pub followed : List ℕ → ℕ → ℕ → Value
followed store zero a = Ok a
followed store (suc n) a = let next = followed store n (get_or store a 0) in pick (ltb a (length store)) next (Err BadAddress)

-- "S+4 above H is 33. Words S, S+1, S+2 become link (L; a; G for 355), L, next position (+8000 hex for 355); L = S, S += 4."
-- A call of procedure n of module k, from the machine m, which has the link off its stack
unfoldable pub call : Lent → ℕ → ℕ → ℕ → ℕ → Machine → State → Outcome
call lent k n link mark m x =
    let r = m.registers in
    let s = r.s.0 in
    pick (ltb r.h.0 (s + 4)) (halt StackLimit)
    (stores_to x
    (machine (at (position (entry_of lent.image (module_of lent.program k) n)) r.depth (framed k s (s + 4) r)) m.stack)
    (set (set (set x.store s link) (s + 1) r.l.0) (s + 2) mark))

-- the number of the module with the base g, or the count of modules where there is none
unfoldable pub unit_of : List ℕ → ℕ → ℕ → ℕ
unit_of [] n g = zero
unit_of (b ∷ bases) zero g = zero
unit_of (b ∷ bases) (suc n) g = pick (eqb b g) 0 (suc (unit_of bases n g))

abbrev pub unit_based : Program → ℕ → ℕ
unit_based program g = unit_of (bases_of program) program.count g

-- a loaded module and a position in it that is marked with depth d
abbrev pub standing : Lent → ℕ → ℕ → ℕ → Bool
standing lent k q d = and (ltb k lent.program.count) (marked lent.map (module_of lent.program k) q d)

-- a return lands on position t of module k only at "a mark equal to the current depth there"
abbrev pub lands : Lent → ℕ → ℕ → Registers → Bool
lands lent k t r = standing lent k t r.depth

-- back to position t of module k: "no such module, or no mark equal to the current depth there: 34. S = L, L = word L+1."
unfoldable pub back_to : Lent → ℕ → ℕ → State → Outcome
back_to lent k t x =
    let m = x.machine in
    let r = m.registers in
    pick (lands lent k t r)
    (goes x (machine (at (position t) r.depth (framed k (word_in x (r.l.0 + 1)) r.l.0 r)) m.stack))
    (halt ReturnMark)

-- "354: L above H is 34. Word L+2 of 7FFF hex ends. Below 8000 hex it is a position here, else minus 8000 hex in the module whose
-- base is word L."
unfoldable pub returned : Lent → State → Outcome
returned lent x =
    let r = x.machine.registers in
    let l = r.l.0 in
    let t = word_in x (l + 2) in
    pick (ltb r.h.0 l) (halt ReturnMark)
    (pick (eqb t 0x7fff) (halt Ended)
    (pick (ltb t 0x8000) (back_to lent r.unit t x)
    (back_to lent (unit_based lent.program (word_in x l)) (t - 0x8000) x)))

-- ---- transfers: 256 b, TRANSFER, and those that lines and traps make

-- "words q.. are G, L, position, M, s, v", with k = word s-1
pub record Process : Type 0 where
  pub g : ℕ
  pub l : ℕ
  pub pc : ℕ
  pub mask : ℕ
  pub s : ℕ
  pub v : ℕ
  pub k : ℕ

abbrev pub process_at : List ℕ → ℕ → Process
process_at store q = record {
  g = get_or store q 0;
  l = get_or store (q + 1) 0;
  pc = get_or store (q + 2) 0;
  mask = get_or store (q + 3) 0;
  s = get_or store (q + 4) 0;
  v = get_or store (q + 5) 0;
  k = get_or store (get_or store (q + 4) 0 - 1) 0;
}

-- the S that is restored is not above the H that is: "s-1-k <= v-24"
abbrev pub within_limit : Process → Bool
within_limit r = leb (r.s - 1 - r.k) (r.v - margin)

-- a process goes on at "G a base, position marked k there"
abbrev pub resumes : Lent → Process → Bool
resumes lent r = standing lent (unit_based lent.program r.g) r.pc r.k

-- "q+8 <= W; 24 <= v <= W; 1 <= s <= W; k <= 16, k < s; s-1-k <= v-24; G a base, position marked k there"
unfoldable pub is_process : Lent → ℕ → ℕ → Process → Bool
is_process lent w q r =
    and (leb (q + 8) w)
    (and (and (leb margin r.v) (leb r.v w))
    (and (and (leb 1 r.s) (leb r.s w))
    (and (and (leb r.k 16) (ltb r.k r.s))
    (and (within_limit r) (resumes lent r)))))

-- the words below n of the stack, from s up, "top first"
unfoldable pub saved : List ℕ → ℕ → ℕ → List ℕ → List ℕ
saved stack zero s store = store
saved stack (suc n) s store = saved stack n (s + 1) (set store s (get_or stack n 0))

-- the k words from a up, the lowest of them on top
unfoldable pub restored : List ℕ → ℕ → ℕ → List ℕ → List ℕ
restored store zero a stack = stack
restored store (suc k) a stack = restored store k (a + 1) (set stack k (get_or store a 0))

-- n words of the stack from s up, "top first, then its count"
abbrev pub stacked : List ℕ → ℕ → ℕ → List ℕ → List ℕ
stacked stack n s store = set (saved stack n s store) (s + n) n

-- words from a up
unfoldable pub written : List ℕ → ℕ → List ℕ → List ℕ
written [] a store = store
written (v ∷ vs) a store = written vs (a + 1) (set store a v)

-- "Then save: the remaining stack from S up, top first, then its count; S raised past it; G, L, next position, M, S, H+24 to P..P+5.
-- Word c = P." The machine has n words left; writes in this order
unfoldable pub saved_store : ℕ → Position → ℕ → State → ℕ → List ℕ
saved_store g q c x n =
    let r = x.machine.registers in
    let s = r.s.0 in
    let p = r.p.0 in
    set
    (written (g ∷ r.l.0 ∷ q.0 ∷ r.mask ∷ (s + n + 1) ∷ (r.h.0 + margin) ∷ []) p
    (stacked x.machine.stack n s x.store))
    c p

-- "P = q. Restore G, L, S = s-1-k, H = v-24, the k words; M only if b /= 0."
unfoldable pub restored_machine : Lent → ℕ → ℕ → List ℕ → Process → Registers → Machine
restored_machine lent b q store r old =
    machine
    (record {
      unit = unit_based lent.program r.g;
      pc = position r.pc;
      l = address r.l;
      s = address (r.s - 1 - r.k);
      h = address (r.v - margin);
      p = address q;
      mask = pick (eqb b 0) old.mask r.mask;
      depth = r.k;
    })
    (restored store r.k (r.s - 1 - r.k) (replicate 16 0))

-- the process at q can go on
abbrev pub is_target : Lent → ℕ → State → Bool
is_target lent q x = is_process lent (length x.store) q (process_at x.store q)

-- the change to the process at q, "reading the store as before the instruction". The old one is saved over `store`: it goes on at position
-- `next`, n words of its stack are saved, and it goes to word c
unfoldable pub changed : Lent → ℕ → Position → ℕ → ℕ → ℕ → List ℕ → State → State
changed lent b next n c q store x =
    let r = x.machine.registers in
    state
    (restored_machine lent b q x.store (process_at x.store q) r)
    (saved_store (get_or (bases_of lent.program) r.unit 0) next c (state x.machine store x.outputs) n)
    x.outputs

-- "otherwise 35"
unfoldable pub switched : Lent → ℕ → Position → ℕ → ℕ → ℕ → State → Outcome
switched lent b next n c q x = pick (is_target lent q x) (go (changed lent b next n c q x.store x)) (halt BadProcess)

-- "a and c are addresses (32, a first); q = word a. If q = P, word c becomes P and no more."
unfoldable pub transferred : Lent → ℕ → Position → State → Outcome
transferred lent b next x =
    let m = x.machine in
    let c = second m in
    let q = word_in x (top m) in
    let p = m.registers.p.0 in
    in_store x (top m)
    (in_store x c
    (pick (eqb q p) (stores_to x (take2 next m) (set x.store c p))
    (switched lent b next (depth m - 2) c q x)))

-- ---- 262 and 260, around a function call inside an expression

-- "STORE writes the expression stack from S up, top first, then its count, and raises S; beyond H it is trap 33. The depth is then 0."
unfoldable pub stack_saved : Position → State → Outcome
stack_saved q x =
    let m = x.machine in
    let r = m.registers in
    let s = r.s.0 in
    pick (ltb r.h.0 (s + depth m + 1)) (halt StackLimit)
    (stores_to x (machine (at q 0 (framed r.unit r.l.0 (s + depth m + 1) r)) (replicate 16 0)) (stacked m.stack (depth m) s x.store))

-- "the recorded front": of the mark where the machine stands
abbrev pub front_at : Lent → Registers → ℕ
front_at lent r = front_of (mark_at lent.map (module_of lent.program r.unit) r.pc.0)

-- the stack of n words from a up, the lowest of them on top, and v above
abbrev pub fetched_stack : List ℕ → ℕ → ℕ → ℕ → List ℕ
fetched_stack store n a v = restored store n a (set (replicate 16 0) n v)

-- "LODFW takes the result, lowers S past the count and the words, restores them and puts the result on top." "At run time a count other
-- than the recorded front, or fewer words below S, is trap 34."
unfoldable pub stack_fetched : Lent → Position → State → Outcome
stack_fetched lent q x =
    let m = x.machine in
    let r = m.registers in
    let s = r.s.0 in
    let n = front_at lent r in
    pick (and (ltb n s) (eqb (word_in x (s - 1)) n))
    (goes x (machine (at q (n + 1) (framed r.unit r.l.0 (s - 1 - n) r)) (fetched_stack x.store n (s - 1 - n) (top m))))
    (halt ReturnMark)

-- ---- every action

unfoldable pub perform_of : Lent → Action → Position → State → Outcome
perform_of lent (Put v) q x = goes x (put q x.machine v)
perform_of lent (AddTop b) q x = goes x (replace1 q x.machine (wrap (top x.machine + b)))
perform_of lent (Jump t) q x = goes x (on t x.machine)
perform_of lent (JumpZero t) q x = goes x (pick (eqb (top x.machine) 0) (take1 t x.machine) (take1 q x.machine))
perform_of lent (OrJump t) q x = goes x (pick (eqb (top x.machine) 0) (take1 q x.machine) (replace1 t x.machine 1))
perform_of lent (AndJump t) q x = goes x (pick (eqb (top x.machine) 0) (replace1 t x.machine 0) (take1 q x.machine))
perform_of lent (Load a) q x = in_store x a.0 (goes x (put q x.machine (word_in x a.0)))
perform_of lent (LoadTop k) q x = let a = wrap (top x.machine + k) in in_store x a (goes x (replace1 q x.machine (word_in x a)))
perform_of lent LoadIndexed q x = let a = wrap (second x.machine + top x.machine) in in_store x a (goes x (replace2 q x.machine (word_in x a)))
perform_of lent (Store a) q x = in_store x a.0 (stores_to x (take1 q x.machine) (set x.store a.0 (top x.machine)))
perform_of lent (StoreBelow k) q x = let a = wrap (second x.machine + k) in in_store x a (stores_to x (take2 q x.machine) (set x.store a (top x.machine)))
perform_of lent StoreIndexed q x = let a = wrap (third x.machine + second x.machine) in in_store x a (stores_to x (take3 q x.machine) (set x.store a (top x.machine)))
perform_of lent LoadByte q x =
    let i = top x.machine in
    let a = wrap (second x.machine + i / 2) in
    in_store x a (goes x (replace2 q x.machine (byte_of (word_in x a) i)))
perform_of lent StoreByte q x =
    let i = second x.machine in
    let a = wrap (third x.machine + i / 2) in
    in_store x a (stores_to x (take3 q x.machine) (set x.store a (with_byte (word_in x a) i (top x.machine))))
perform_of lent (One op) q x = computed (one_of op (top x.machine)) (λ v. goes x (replace1 q x.machine v))
perform_of lent (Two op) q x = computed (two_of op (second x.machine) (top x.machine)) (λ v. goes x (replace2 q x.machine v))
perform_of lent (Three op) q x = computed (three_of op (third x.machine) (second x.machine) (top x.machine)) (λ v. goes x (replace3 q x.machine v))
perform_of lent Copy q x = goes x (put q x.machine (top x.machine))
perform_of lent Nothing q x = goes x (on q x.machine)
-- "240: a channel, c address: the store word becomes that input." "Channel above 15 is 39, before 32."
perform_of lent Read q x =
    let a = top x.machine in
    let c = second x.machine in
    pick (ltb 15 a) (halt BadChannel)
    (in_store x c (stores_to x (take2 q x.machine) (set x.store c (get_or lent.inputs a 0))))
-- "241: output channel c becomes a."
perform_of lent Write q x =
    let c = second x.machine in
    pick (ltb 15 c) (halt BadChannel)
    (go (state (take2 q x.machine) x.store (set x.outputs c (top x.machine))))
perform_of lent Trap q x = halt (OfProgram (top x.machine))
-- "353 b: S+b above H is 33, else S += b."
perform_of lent (Enter b) q x =
    let r = x.machine.registers in
    pick (ltb r.h.0 (r.s.0 + b)) (halt StackLimit)
    (goes x (machine (at q r.depth (framed r.unit r.l.0 (r.s.0 + b) r)) x.machine.stack))
perform_of lent (Follow b) q x = computed (followed x.store b x.machine.registers.l.0) (λ v. goes x (put q x.machine v))
perform_of lent (Call n) q x = call lent x.machine.registers.unit n x.machine.registers.l.0 q.0 x.machine x
perform_of lent (CallLinked n) q x = call lent x.machine.registers.unit n (top x.machine) q.0 (take1 q x.machine) x
perform_of lent (CallExternal m n) q x = call lent m n (get_or (bases_of lent.program) x.machine.registers.unit 0) (q.0 + 0x8000) x.machine x
perform_of lent Return q x = returned lent x
perform_of lent (Transfer b) q x = transferred lent b q x
perform_of lent (PutPair high low) q x = goes x (put_pair q x.machine high low)
perform_of lent (LoadPair a) q x = reads_pair x a.0 (put_pair q x.machine)
perform_of lent (LoadPairTop k) q x = reads_pair x (wrap (top x.machine + k)) (pair_for1 q x.machine)
perform_of lent (StorePair a) q x = writes_pair x a.0 (second x.machine) (top x.machine) (take2 q x.machine)
perform_of lent (StorePairBelow k) q x = writes_pair x (wrap (third x.machine + k)) (second x.machine) (top x.machine) (take3 q x.machine)
perform_of lent (Double op) q x =
    let m = x.machine in
    let n = double_of op (paired (fourth m) (third m)) (paired (second m) (top m)) in
    goes x (pair_for4 q m (high_of n) (low_of n))
perform_of lent Save q x = stack_saved q x
perform_of lent Fetch q x = stack_fetched lent q x

-- the instruction where the machine stands
unfoldable pub instruction_of : Lent → State → Outcome
instruction_of lent x =
    let r = x.machine.registers in
    let m = module_of lent.program r.unit in
    let p = r.pc.0 in
    let d = decode_of (code_byte lent.image m p) (λ k. code_byte lent.image m (p + k)) r (bases_of lent.program) in
    perform_of lent d.action (position (p + d.size)) x

-- ---- lines

-- line i is "in the requests, not in M and not in store word 3"
abbrev pub is_open : Live → ℕ → Bool
is_open x i = and (bit x.requests i) (not (or (bit x.state.machine.registers.mask i) (bit (word_in x.state 3) i)))

-- the highest of the first k lines that passes the test, 0 where none does: "Lines are 8 to 15"
unfoldable pub highest : (ℕ → Bool) → ℕ → ℕ
highest f zero = 0
highest f (suc k) = pick (f (8 + k)) (8 + k) (highest f k)

-- the line that is taken before the next instruction, or 0
abbrev pub line_of : Live → ℕ
line_of x = highest (is_open x) 8

-- "It makes a transfer with the mask changed, the target in word 2i, the old process to word 2i + 1, the saved position being the
-- instruction about to run and the whole stack saved." "A target equal to P only writes word 2i + 1."
unfoldable pub taken_line : Lent → ℕ → State → Outcome
taken_line lent i x =
    let r = x.machine.registers in
    let q = word_in x (2 * i) in
    pick (eqb q r.p.0) (stores_to x x.machine (set x.store (2 * i + 1) r.p.0))
    (switched lent 1 r.pc r.depth (2 * i + 1) q x)

-- "Before an instruction, the highest line is taken." "It counts as a step and clears its bit." "A failed transfer is trap 35 with the bit
-- kept."
unfoldable pub attempt_of : Lent → Live → OutcomeOf Live
attempt_of lent x =
    let i = line_of x in
    pick (eqb i 0) (leaving x.requests (instruction_of lent x.state))
    (leaving (x.requests - 2 ^ i) (taken_line lent i x.state))

-- ---- the trap process

-- "traps 32 to 40 write their number to word P + 6"
abbrev pub noted : Stop → State → List ℕ
noted k x = set x.store (x.machine.registers.p.0 + 6) (stop_number k)

-- the stop k leads to the trap process: it is a trap, "word 14 is not 0 and not P", and the transfer there would not itself fail
unfoldable pub is_caught : Lent → Stop → State → Bool
is_caught lent k x =
    let q = word_in x 14 in
    and (leb 32 (stop_number k)) (and (not (or (eqb q 0) (eqb q x.machine.registers.p.0))) (is_target lent q x))

-- "and then transfer as for a line, with words 14 and 15, the position being the trapping instruction." "The target and its record are
-- read from the store as before the trap."
unfoldable pub caught : Lent → Stop → State → State
caught lent k x =
    let r = x.machine.registers in
    changed lent 1 r.pc r.depth 15 (word_in x 14) (noted k x) x

-- "If that transfer would itself fail, the run stops with the first trap and nothing is changed."
unfoldable pub trapped : Lent → Stop → State → Outcome
trapped lent k x = pick (is_caught lent k x) (go (caught lent k x)) (halt k)

-- one step: a line or an instruction, and the trap of either. "A line's failed transfer counts among these traps: the position is the
-- instruction about to run, and its bit is kept."
unfoldable pub step_of : Lent → Live → OutcomeOf Live
step_of lent x = handled (λ k. leaving x.requests (trapped lent k x.state)) (attempt_of lent x)

-- the same where no line is taken
unfoldable pub quiet_of : Lent → State → Outcome
quiet_of lent x = handled (λ k. trapped lent k x) (instruction_of lent x)

-- ---- the channels

-- the bit of the input channel that the instruction takes if it is completed: a READ, 240, takes channel a
abbrev pub read_of : Lent → State → ℕ
read_of lent x =
    let r = x.machine.registers in
    pick (eqb (code_byte lent.image (module_of lent.program r.unit) r.pc.0) 0o240) (2 ^ top x.machine) 0

-- the same where a line may be taken, which takes none
abbrev pub attempt_read : Lent → Live → ℕ
attempt_read lent x = pick (eqb (line_of x) 0) (read_of lent x.state) 0

-- the bits count where what is attempted is "completed": a trap takes none, also where it is caught
abbrev pub completed : {S : Type 0} → ℕ → OutcomeOf S → ℕ
completed w (go y) = w
completed w (halt k) = 0

-- the bit of the channel that the step takes, 0 where it takes none
abbrev pub step_read : Lent → Live → ℕ
step_read lent x = completed (attempt_read lent x) (attempt_of lent x)

-- the same where no line is taken
abbrev pub quiet_read : Lent → State → ℕ
quiet_read lent x = completed (read_of lent x) (instruction_of lent x)
