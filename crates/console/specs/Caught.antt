-- What the store tells of the last caught trap, and whether a step was one. Assumes nothing.
use Rattle.std.specs.Prelude.{ℕ, ◌+◌, Bool, true, false, not, List, Option, Some, None, eqb, leb, ltb, length, get_or}
use Rattle.std.specs.List.{find, range_with_len}
use Rattle.mcode.specs.Word.{pick, and}
use Rattle.mcode.specs.Image.{base_copy, most_modules}
use Rattle.console.specs.declared.caught.Caught.{Caught}
use Rattle.console.specs.declared.caught.Turn.{Turn}

-- "traps 32 to 40"
abbrev pub is_trap : ℕ → Bool
is_trap n = and (leb 32 n) (leb n 40)

-- no image has more modules
abbrev pub few_modules : ℕ → ℕ
few_modules n = pick (ltb most_modules n) most_modules n

-- g is the copy of module k's base
abbrev pub is_base : List ℕ → ℕ → ℕ → Bool
is_base store g k = eqb (get_or store (base_copy + k) 0) g

-- the first of `count` modules whose base is g
unfoldable pub based_on : List ℕ → ℕ → ℕ → Option ℕ
based_on store count g = find (is_base store g) (range_with_len 0 count)

abbrev pub told_of : List ℕ → ℕ → ℕ → Option ℕ → Option Caught
told_of store n p (Some k) = Some (record { number = n; process = p; unit = k; pc = get_or store (p + 2) 0 })
told_of store n p None = None

-- a number n of a trap, and the record of the process at p: its G, the base of one of `count` modules, and its position
abbrev pub record_tells : List ℕ → ℕ → ℕ → Option Caught
record_tells store count p =
    let n = get_or store (p + 6) 0 in
    pick (is_trap n) (told_of store n p (based_on store count (get_or store p 0))) None

-- the process that word 15 names, with a whole record in the store; a store that has not all copies of bases tells nothing
abbrev pub last_caught : List ℕ → ℕ → Option Caught
last_caught store modules =
    let p = get_or store 15 0 in
    pick (ltb (length store) (base_copy + most_modules)) None
    (pick (eqb p 0) None
    (pick (ltb (length store) (p + 8)) None
    (record_tells store (few_modules modules) p)))

-- 256 with a on top of the stack and c below it goes itself to the process q: "a and c are addresses; q = word a"
abbrev pub goes_to : List ℕ → ℕ → ℕ → ℕ → Bool
goes_to store a c q = and (ltb a (length store)) (and (ltb c (length store)) (eqb (get_or store a 0) q))

-- the line that was due, or none: a line that is taken clears its bit; one whose transfer fails keeps it
abbrev pub caught_by : Option ℕ → Turn → List ℕ → Bool
caught_by None t store = pick (eqb t.op 0xae) (not (goes_to store t.top t.second t.q)) true
caught_by (Some line) t store = eqb t.requests t.left

-- P changes by lines, by 256 and by caught traps alone
abbrev pub is_caught : Turn → List ℕ → Bool
is_caught t store = pick (eqb t.p t.q) false (caught_by t.line t store)
