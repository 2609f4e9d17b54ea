-- When two readings are the same: all that they print, but for the inputs that they rested on. Assumes nothing.
use Rattle.std.specs.Prelude.{ℕ, Bool, true, false, List, Option, Some, None, eqb}
use Rattle.std.specs.Cmp.Lexicographic.{pointwise}
use Rattle.mcode.specs.Word.{and}
use Rattle.mcode.specs.Machine.{stop_number, stop_code}
use Rattle.console.specs.declared.caught.Caught.{Caught}
use Rattle.console.specs.declared.print.Reading.{Reading}
use Rattle.reading.specs.declared.shown.Shown.{Shown}

-- the outputs of the 16 channels
abbrev pub same_words : List ℕ → List ℕ → Bool
same_words a b = pointwise eqb a b

-- why it stopped, and the steps
abbrev pub same_end : Reading → Reading → Bool
same_end a b = and (eqb (stop_number a.stop) (stop_number b.stop)) (and (eqb (stop_code a.stop) (stop_code b.stop)) (eqb a.count b.count))

-- where it stands
abbrev pub same_place : Reading → Reading → Bool
same_place a b = and (eqb a.unit b.unit) (and (eqb a.pc.0 b.pc.0) (eqb a.depth b.depth))

-- the trap that the store tells of, if it does
abbrev pub same_caught : Option Caught → Option Caught → Bool
same_caught None None = true
same_caught None (Some b) = false
same_caught (Some a) None = false
same_caught (Some a) (Some b) = and (eqb a.number b.number) (and (eqb a.process b.process) (and (eqb a.unit b.unit) (eqb a.pc b.pc)))

unfoldable pub same_reading : Shown → Shown → Bool
same_reading a b =
    and (same_end a.reading b.reading)
    (and (same_place a.reading b.reading)
    (and (eqb a.left b.left) (and (same_caught a.caught b.caught) (same_words a.reading.outputs b.reading.outputs))))
