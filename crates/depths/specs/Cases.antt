-- The cases in which the code takes the rules of an instruction. mcode's specs/Depths.antt has the rules, and every function's contract
-- says what it answers by them.
use Rattle.std.specs.Prelude.{ℕ, zero, suc, ◌+◌, ◌-◌, ◌*◌, Bool, false, List, [], ◌∷◌, ◌==◌, nat_le, nat_lt, slice_index, slice_index_or, Option, Some, None}
use Rattle.mcode.specs.Word.{pick, and, or, byte}
use Rattle.mcode.specs.Opcode.{lengths, takens, lefts}
use Rattle.mcode.specs.declared.Module.{Module}
use Rattle.mcode.specs.Depths.{depth_of, passed, names_module}

-- the row of op at position p of a code of `size` bytes, with mark k: the tests of `depth_flow` in its order, but for the first one, of
-- an opcode that is not listed
unfoldable pub row_at : ℕ → ℕ → ℕ → ℕ → Option (ℕ × ℕ)
row_at op p k size =
    let taken = slice_index_or takens op 0 in
    let e = depth_of k - taken + slice_index_or lefts op 0 in
    pick (nat_lt size (p + slice_index lengths op)) None
    (pick (nat_lt (depth_of k) taken) None
    (pick (nat_lt 16 e) None
    (Some (p + slice_index lengths op, passed k e))))

-- byte k of the record of procedure i, 0 where the module has none
abbrev pub record_byte : List ℕ → Module → ℕ → ℕ → ℕ
record_byte image m i k = pick (m.procs == 0) 0 (byte image (m.table + 4 * i + k))

-- the cases of `onward`: a jump, an instruction with no successor, and one whose only successor is the next one
abbrev pub jumping : ℕ → Bool
jumping op = and (nat_le 0o30 op) (nat_lt op 0o40)

abbrev pub ending : ℕ → Bool
ending op = or (op == 0o304) (op == 0o354)

abbrev pub plain : ℕ → Bool
plain op = pick (names_module op) false (nat_lt op 0o355)

-- STORE and LODFW
abbrev pub saving : ℕ → Bool
saving op = or (op == 0o262) (op == 0o260)

-- the kind of an opcode, by these tests: 1 has the next one as its only successor, 2 jumps, 3 has no successor, 4 names a module or is a
-- call, 5 saves the stack or fetches it, 6 is not listed
unfoldable pub kind_of : ℕ → ℕ
kind_of op = pick (slice_index lengths op == 0) 6 (pick (jumping op) 2 (pick (ending op) 3 (pick (saving op) 5 (pick (plain op) 1 4))))

-- the kinds of n opcodes from op on, and of all
unfoldable pub kinds_from : ℕ → ℕ → List ℕ
kinds_from op zero = []
kinds_from op (suc n) = kind_of op ∷ kinds_from (suc op) n

unfoldable pub kinds : List ℕ
kinds = kinds_from 0 256
