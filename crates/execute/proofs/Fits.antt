-- A machine asks nothing more of a step: what mcode proves of it, on a fitting map of an accepted image, is what the code requires.
-- Assumes nothing.
use mathlib.Core.Path.{◌≡◌, sym, ap, ◌∙◌}
use mathlib.Core.Bool.{true}
use mathlib.Core.List.{List}
use Prim.Native.Nat.{ℕ, ◌≤◌, ◌<◌, ◌+◌, ◌-◌}
use lib.ListN.{get_or, length}
use native.Mathlib.Omega.{arith}
use Rattle.mcode.specs.Opcode.{lengths, takens, lefts}
use Rattle.mcode.specs.Image.{most_modules, parse, module_of, code_byte}
use Rattle.mcode.specs.Depths.{permits, entry, mark_at, marks_of}
use Rattle.mcode.specs.Machine.{is_machine, machine}
use Rattle.mcode.specs.Demands.{OperandsExist, Operands}
use Rattle.mcode.specs.declared.Module.{Module}
use Rattle.mcode.specs.declared.Program.{Program}
use Rattle.mcode.proofs.Marks.{fetch-permitted}
use Rattle.mcode.proofs.Standing.{Good, good_of, Rules, rules-at, follows-at}
use Rattle.mcode.proofs.Operands.{operands-exist}
use Rattle.actions.specs.declared.Core.{Core}
use Rattle.actions.specs.Core.{shown, operand_at}
use Rattle.actions.specs.Table.{module_in, Anchored}
use Rattle.control.specs.Table.{count_in, Entered, Mapped}
use Rattle.execute.specs.Stepping.{Asks, Prepared, opcode_at}
use Rattle.execute.proofs.Laws.{place, place-on}

module _ (image table map : List ℕ) (w : ℕ) (P : Prepared image table map w) where
  abbrev program : Program
  program = (parse image).program

  few : count_in table ≤ most_modules
  few = omega (arith, P.tabled.count, P.tabled.few)

  loaded : (k : ℕ) → k < count_in table → k < program.count
  loaded k h = omega (arith, P.tabled.count, h)

  is : (k : ℕ) → k < count_in table → module_of program k ≡ module_in table k
  is k h = P.tabled.modules k (omega (arith, few, h))

  pub entered : Entered image table
  entered = record {
    few = few;
    entries = λ k n h l. let s = P.told.laid.sound k (loaded k h) in omega (arith, rw (is k h) at s.records, rw (is k h) at s.within, l);
  }

  pub mapped : Mapped table map
  mapped = record {
    few = few;
    marks = λ k h. omega (arith, rw (is k h) at (P.told.laid.sound k (loaded k h)).within, P.covers);
  }

  module _ (stack : List ℕ) (r : Core) (good : is_machine program map w (machine (shown r) stack) ≡ true) (anchored : Anchored table r) where
    own : module_of program r.unit ≡ module_in table r.unit
    own = P.tabled.modules r.unit anchored.few

    start : (module_of program r.unit).code ≡ r.start
    start = ap (λ (m : Module). m.code) own ∙ sym anchored.start

    operands : Operands program (module_of program r.unit) (opcode_at image r) (operand_at image r 1) (operand_at image r 2)
    unfolding OperandsExist
    operands = rw (start, place anchored.own, place-on anchored.own 1, place-on anchored.own 2) at (operands-exist image map P.fits w (machine (shown r) stack) good)

    in_table : (k : ℕ) → k < program.count → k < count_in table
    in_table k h = omega (arith, h, P.tabled.count)

    abbrev u : Module
    u = module_of program r.unit

    g : Good program map w (machine (shown r) stack)
    g = good_of program map w (machine (shown r) stack) good

    abbrev at : ℕ
    at = r.pc - r.start

    rules : Rules image program u (marks_of map u) at (mark_at map u at) r.depth (code_byte image u at) (code_byte image u (at + 1)) (code_byte image u (at + 2))
    rules = rules-at image program u (marks_of map u) at (mark_at map u at) r.depth g.at.here (follows-at image program map P.fits r.unit at r.depth g.at)

    pub listed_of : 1 ≤ get_or lengths (opcode_at image r) 0
    listed_of = rw (start, place anchored.own) at rules.listed

    pub asks_of : Asks image table map w (opcode_at image r) r
    asks_of =
        let sound = P.told.laid.sound r.unit g.at.loaded in
        let found : get_or takens (opcode_at image r) 0 ≤ r.depth = rw (start, place anchored.own) at rules.found in
        let room : r.depth - get_or takens (opcode_at image r) 0 + get_or lefts (opcode_at image r) 0 ≤ 16 = rw (start, place anchored.own) at rules.room in
        let whole : at + get_or lengths (opcode_at image r) 0 ≤ u.length = rw (start, place anchored.own) at rules.whole in
        let end : r.start + u.length ≤ length image = rw start at sound.within in
        let bytes : r.pc + get_or lengths (opcode_at image r) 0 ≤ length image = omega (arith, whole, end, anchored.own) in
        let permitted : permits (entry map r.pc) (opcode_at image r) ≡ true = rw (start, place anchored.own) at rules.permitted in
        let short : at + get_or lengths (opcode_at image r) 0 ≤ 32767 = omega (arith, whole, sound.short) in
        record {
          listed = λ n. listed_of;
          named = λ e. in_table _ (operands.named e);
          controls = record {
            ready = record { deep = found; room = omega (arith, found, room); most = g.at.few; bytes = bytes; own = anchored.own; near = omega (arith, bytes, P.told.brief) };
            framed = record { loaded = in_table _ g.at.loaded; most = g.at.few; low = g.low; high = g.high; proc = g.proc; short = P.small };
            entered = entered;
            far = λ e. let l = in_table _ (operands.far e).0 in (l, rw (is (operand_at image r 1) l) at (operands.far e).1);
            near = λ e. rw own at (operands.near e);
            fixed = λ l. rw own at (operands.fixed l);
            inside = short;
          };
          mapped = mapped;
          here = omega (arith, bytes, listed_of, P.covers);
          front = λ e. (fetch-permitted (entry map r.pc) (rw e at permitted)).1;
          anchored = anchored;
        }
