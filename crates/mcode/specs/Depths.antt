-- Depths: what a fitting assignment of marks is, for any analysis of one module's code; then the paper's rules as one analysis.
-- A mark is a number, and only this file knows what it encodes: a depth, a result count and the saved depths, or that there is none.
use Rattle.std.specs.Prelude.{ℕ, zero, suc, ◌+◌, ◌-◌, ◌*◌, ◌/◌, ◌%◌, ◌≤◌, ◌<◌, ◌≡◌, Bool, true, false, List, length, get_or, take, drop, replicate, ltb, leb, eqb}
use Rattle.mcode.specs.Word.{pick, and, or, all_below, wrap, word_of}
use Rattle.mcode.specs.Opcode.{lengths, takens, lefts}
use Rattle.mcode.specs.Image.{module_of, code_byte, proc_count, entry_of, params_of, results_of, in_code}
use Rattle.mcode.specs.declared.Module.{Module}
use Rattle.mcode.specs.declared.Program.{Program}
use Rattle.mcode.specs.declared.Flow.{Flow}
use Rattle.mcode.specs.declared.Flow.TheVariants.{Fault, Ends, To, Fork}

-- An analysis of a code of `size` bytes: the number that means unmarked, the entries with their marks, and what follows a
-- position that has a mark.
pub record Analysis : Type 0 where
  pub size : ℕ
  pub none : ℕ
  pub entries : ℕ
  pub entry_at : ℕ → ℕ
  pub entry_mark : ℕ → ℕ
  pub flow : ℕ → ℕ → Flow

-- the mark of position p in the assignment m; a position outside is unmarked
abbrev pub mark : Analysis → List ℕ → ℕ → ℕ
mark A m p = get_or m p A.none

abbrev pub Marked : Analysis → List ℕ → ℕ → Type 0
Marked A m p = mark A m p ≡ A.none → ⊥

-- "every successor lies in the code, marked with the resulting depth"
abbrev pub Follows : Analysis → List ℕ → Flow → Type 0
Follows A m Fault = ⊥
Follows A m Ends = Unit {0}
Follows A m (To q d) = mark A m q ≡ d
Follows A m (Fork q d r e) = (mark A m q ≡ d) × (mark A m r ≡ e)

-- "A fitting assignment marks some positions": every entry, and after a marked position its successors
pub record Fits (A : Analysis) (m : List ℕ) : Type 0 where
  pub sized : length m ≡ A.size
  pub enters : (i : ℕ) → i < A.entries → mark A m (A.entry_at i) ≡ A.entry_mark i
  pub follows : (p : ℕ) → Marked A m p → Follows A m (A.flow p (mark A m p))

abbrev pub NoneFits : Analysis → Type 0
NoneFits A = (m : List ℕ) → Fits A m → ⊥

-- "the fewest that fit: every other fitting assignment marks these positions too, with the same depths"
pub record Fewest (A : Analysis) (m : List ℕ) : Type 0 where
  pub fits : Fits A m
  pub least : (m' : List ℕ) → Fits A m' → (p : ℕ) → Marked A m p → mark A m' p ≡ mark A m p

-- the answer of a check and what it leaves in the module's part of the map
abbrev pub Answer : Analysis → Bool → List ℕ → Type 0
Answer A true m = Fewest A m
Answer A false m = NoneFits A × (m ≡ replicate A.size A.none)

-- the rules of Fits as a test, which run makes of a lent map (proofs/Tests.antt: they say the same)
abbrev pub followed : Analysis → List ℕ → Flow → Bool
followed A m Fault = false
followed A m Ends = true
followed A m (To q d) = eqb (mark A m q) d
followed A m (Fork q d r e) = and (eqb (mark A m q) d) (eqb (mark A m r) e)

unfoldable pub fits : Analysis → List ℕ → Bool
fits A m =
    and (eqb (length m) A.size)
    (and (all_below A.entries (λ i. eqb (mark A m (A.entry_at i)) (A.entry_mark i)))
    (all_below A.size (λ p. or (eqb (mark A m p) A.none) (followed A m (A.flow p (mark A m p))))))

-- ---- marks

-- "all ones is unmarked"
abbrev pub unmarked : ℕ
unmarked = 0xffff_ffff

-- "depth in bits 0 to 4, results 5 to 7, list length 8 to 10, then five bits for each saved depth from the front, unused bits 0": a mark
-- with n saved depths in the list l, of which the front one is the lowest five bits
unfoldable pub mark_of : ℕ → ℕ → ℕ → ℕ → ℕ
mark_of depth results n l = depth + 32 * (results + 8 * (n + 8 * l))

unfoldable pub depth_of : ℕ → ℕ
depth_of k = k % 32

unfoldable pub promised : ℕ → ℕ
promised k = k / 32 % 8

unfoldable pub saves : ℕ → ℕ
saves k = k / 256 % 8

unfoldable pub list_of : ℕ → ℕ
list_of k = k / 2048

-- the front saved depth
unfoldable pub front_of : ℕ → ℕ
front_of k = list_of k % 32

-- n saved depths, each 0 to 16, and no other bit
unfoldable pub is_list : ℕ → ℕ → Bool
is_list zero l = eqb l 0
is_list (suc n) l = and (leb (l % 32) 16) (is_list n (l / 32))

-- "a depth 0 to 16", "a result count of 0 to 4", "a list of at most four saved depths"
unfoldable pub is_mark : ℕ → Bool
is_mark k = and (leb (depth_of k) 16) (and (leb (promised k) 4) (and (leb (saves k) 4) (is_list (saves k) (list_of k))))

-- what a successor has at depth e: "a successor has its predecessor's" result count; "every other instruction passes its list on"
unfoldable pub passed : ℕ → ℕ → ℕ
passed k e = e + 32 * (k / 32)

-- "STORE adds its depth to the front"; "the depth is then 0"
unfoldable pub stored : ℕ → ℕ
stored k = mark_of 0 (promised k) (saves k + 1) (depth_of k + 32 * list_of k)

-- "LODFW removes the front one": its words and the result on top
unfoldable pub fetched : ℕ → ℕ
fetched k = mark_of (front_of k + 1) (promised k) (saves k - 1) (list_of k / 32)

-- the mark that a successor of the instruction op has, at a position with mark k, where its row leaves the depth e
unfoldable pub leaves : ℕ → ℕ → ℕ → ℕ
leaves k op e = pick (eqb op 0o262) (stored k) (pick (eqb op 0o260) (fetched k) (passed k e))

-- "RTN needs a depth equal to" the result count, and "none" saved; STORE a list that has room, "of at most four"; "LODFW needs depth 1"
-- and a front one, "which must be at most 15"
unfoldable pub permits : ℕ → ℕ → Bool
permits k op =
    pick (eqb op 0o354) (and (eqb (depth_of k) (promised k)) (eqb (saves k) 0))
    (pick (eqb op 0o262) (ltb (saves k) 4)
    (pick (eqb op 0o260) (and (eqb (depth_of k) 1) (and (leb 1 (saves k)) (leb (front_of k) 15)))
    true))

-- ---- the rules of the paper, which speak of depths

-- "Jumps, from the operand's first byte", which is at s and is b; c is the byte after it. Sums are taken modulo 65,536: one below 0
-- is then 32,768 or more, which lies outside of any code, as one at or past the code's length does.
abbrev pub forward : ℕ → ℕ → ℕ
forward s n = wrap (s + n)

abbrev pub back : ℕ → ℕ → ℕ
back s n = wrap (s + (0x1_0000 - n))

-- the target of the jump op: 030 and 031 "w signed", 034 and 035 "b back", the others "b forward"
unfoldable pub target : ℕ → ℕ → ℕ → ℕ → ℕ
target op s b c =
    pick (ltb op 0o32) (forward s (word_of b c))
    (pick (or (eqb op 0o34) (eqb op 0o35)) (back s b)
    (forward s b))

-- after the jump op to t, with the next instruction at n and the depth e that its row says. "The rows of 036 and 037 say 1 left,
-- which holds where they jump; else 0 are left."
unfoldable pub jumps : ℕ → ℕ → ℕ → ℕ → Flow
jumps op t n e =
    pick (leb 0o36 op) (Fork t e n (e - 1))
    (pick (or (eqb op 0o31) (or (eqb op 0o33) (eqb op 0o35))) (To t e)
    (Fork t e n e))

-- a call of procedure i of module m: "At a call the depth (after CI's link) equals the callee's parameters, and the next position
-- has its results." "Module and procedure operands must exist."
unfoldable pub calls : List ℕ → Module → ℕ → ℕ → ℕ → Flow
calls image m i n e =
    pick (ltb i (proc_count m))
    (pick (eqb e (params_of image m i)) (To n (results_of image m i)) Fault)
    Fault

-- the same in module k: 355 m n
unfoldable pub calls_in : List ℕ → Program → ℕ → ℕ → ℕ → ℕ → Flow
calls_in image program k i n e = pick (ltb k program.count) (calls image (module_of program k) i n e) Fault

-- 027, 042, 062, 043 and 063 name a module
abbrev pub names_module : ℕ → Bool
names_module op = or (eqb op 0o27) (or (eqb op 0o42) (or (eqb op 0o62) (or (eqb op 0o43) (eqb op 0o63))))

-- the opcodes whose first operand byte is a module: these, and the call 355
abbrev pub takes_module : ℕ → Bool
takes_module op = or (names_module op) (eqb op 0o355)

-- a listed instruction op of module m at p, whose operand bytes are b and c; n is the next position, e the depth that its row
-- says. "RTN and TRAP have no successor."
unfoldable pub onward : List ℕ → Program → Module → ℕ → ℕ → ℕ → ℕ → ℕ → ℕ → Flow
onward image program m p op b c n e =
    pick (or (eqb op 0o304) (eqb op 0o354)) Ends
    (pick (and (leb 0o30 op) (ltb op 0o40)) (jumps op (target op (p + 1) b c) n e)
    (pick (names_module op) (pick (ltb b program.count) (To n e) Fault)
    (pick (ltb op 0o355) (To n e)
    (pick (eqb op 0o355) (calls_in image program b c n e)
    (pick (leb op 0o360) (calls image m b n e)
    (calls image m (op - 0o360) n e))))))

-- what follows position p of module m at depth d: "a marked position holds a listed opcode whose operands lie in the code, takes
-- no more than the depth, leaves at most 16"
unfoldable pub depth_flow : List ℕ → Program → Module → ℕ → ℕ → Flow
depth_flow image program m p d =
    let op = code_byte image m p in
    let size = get_or lengths op 0 in
    let taken = get_or takens op 0 in
    let e = d - taken + get_or lefts op 0 in
    pick (eqb size 0) Fault
    (pick (ltb m.length (p + size)) Fault
    (pick (ltb d taken) Fault
    (pick (ltb 16 e) Fault
    (onward image program m p op (code_byte image m (p + 1)) (code_byte image m (p + 2)) (p + size) e))))

-- the same successors, with the marks that f makes of their depths
abbrev pub carry : (ℕ → ℕ) → Flow → Flow
carry f Fault = Fault
carry f Ends = Ends
carry f (To q d) = To q (f d)
carry f (Fork q d r e) = Fork q (f d) r (f e)

-- what follows position p of module m with mark k
unfoldable pub flow_at : List ℕ → Program → Module → ℕ → ℕ → Flow
flow_at image program m p k =
    let op = code_byte image m p in
    pick (is_mark k)
    (pick (permits k op) (carry (leaves k op) (depth_flow image program m p (depth_of k))) Fault)
    Fault

-- the marks of one module's code: "every entry with its parameter count", "an entry has its procedure's" result count, "an entry starts
-- with none" saved
abbrev pub depths : List ℕ → Program → Module → Analysis
depths image program m = record {
  size = m.length;
  none = unmarked;
  entries = proc_count m;
  entry_at = entry_of image m;
  entry_mark = λ i. mark_of (params_of image m i) (results_of image m i) 0 0;
  flow = flow_at image program m;
}

-- "32-bit entries, one per image byte"
abbrev pub entry : List ℕ → ℕ → ℕ
entry map i = get_or map i 0

-- the map's mark of position q of module m
abbrev pub mark_at : List ℕ → Module → ℕ → ℕ
mark_at map m q = entry map (m.code + q)

-- the map marks position q of module m, which lies in the code, with depth d (unmarked has none: its lowest five bits are 31). "A
-- landing still compares the depth only."
unfoldable pub marked : List ℕ → Module → ℕ → ℕ → Bool
marked map m q d = and (ltb q m.length) (and (leb d 16) (eqb (depth_of (mark_at map m q)) d))

-- module m's part of the map
abbrev pub marks_of : List ℕ → Module → List ℕ
marks_of map m = take m.length (drop m.code map)

-- run's test of a lent map: each module's part fits, and "an image byte outside the code must have FF", now all ones
unfoldable pub map_fits : List ℕ → Program → List ℕ → Bool
map_fits image program map =
    and (all_below program.count (λ k. fits (depths image program (module_of program k)) (marks_of map (module_of program k))))
    (all_below (length image) (λ i. or (in_code program i) (eqb (entry map i) unmarked)))

-- "Map bytes past the image stay unchanged."
pub record KeptPast (image before after : List ℕ) : Type 0 where
  pub long : length after ≡ length before
  pub past : (i : ℕ) → length image ≤ i → entry after i ≡ entry before i

-- load accepts: each module's part of the map is the fewest, and the rest of the image is unmarked
pub record Accepted (image : List ℕ) (program : Program) (before after : List ℕ) : Type 0 where
  pub fewest : (k : ℕ) → k < program.count → Fewest (depths image program (module_of program k)) (marks_of after (module_of program k))
  pub outside : (i : ℕ) → i < length image → in_code program i ≡ false → entry after i ≡ unmarked
  pub kept : KeptPast image before after

-- a refusal that fills the map: "FF over the image's length", now all ones
pub record Blanked (image before after : List ℕ) : Type 0 where
  pub blank : (i : ℕ) → i < length image → entry after i ≡ unmarked
  pub kept : KeptPast image before after

-- "no depths fit": some module has no fitting assignment
pub record NoDepths (image : List ℕ) (program : Program) : Type 0 where
  pub unfit : ℕ
  pub loaded : unfit < program.count
  pub none : NoneFits (depths image program (module_of program unfit))
