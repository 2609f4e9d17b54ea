-- The fields, in another order.
use Rattle.std.proofs.Common.{rules, tests, ◌≡◌, ◌∙◌, ◌&&◌, ℕ, Bool, true, false, Option, Some, None, Decides, refl, eqb, sym, ap, ap₂}
use Rattle.std.proofs.lemmas.Bool.Decides.{same_from_decides}
use borrow.Author.Tests.{eqb-true, eq-eqb}
use Rattle.mcode.specs.Word.{and, pick}
use Rattle.mcode.specs.Machine.{stop_number, stop_code}
use Rattle.mcode.specs.contracts.StopPartialEq.TheImpl as stop_eq
use Rattle.mcode.specs.declared.Stop.{Stop}
use Rattle.mcode.specs.declared.Stop.TheVariants.{Spent, Ended, BadAddress, StackLimit, ReturnMark, BadProcess, ZeroDivisor, ResultRange, CheckFailed, BadChannel, Program}
use Rattle.mcode.proofs.Tests.{and_both, both-and}
use Rattle.console.specs.declared.caught.Caught.{Caught}
use Rattle.std.specs.Cmp.Lexicographic.{pointwise}
use Rattle.std.specs.Option.{option_eq}
use Rattle.reading.specs.contracts.shown.ShownPartialEq.TheImpl as shown_eq
use Rattle.console.specs.contracts.caught.CaughtPartialEq.TheImpl as caught_eq
use Rattle.reading.specs.declared.shown.Shown.{Shown}
use Rattle.reading.specs.Same.{same_caught, same_reading}
use Rattle.reading.proofs.shown.same_reading.Goals as goal

-- the order of the definition
reordered : (s1 s2 n u p d o l k : Bool) → (and s1 s2 && (n && (u && (p && (d && o))))) && (l && k) ≡ and (and s1 (and s2 n)) (and (and u (and p d)) (and l (and k o)))
reordered false s2 n u p d o l k = refl
reordered true false n u p d o l k = refl
reordered true true false u p d o l k = refl
reordered true true true false p d o l k = refl
reordered true true true true false d o l k = refl
reordered true true true true true false o l k = refl
reordered true true true true true true true true true = refl
reordered true true true true true true true true false = refl
reordered true true true true true true true false k = refl
reordered true true true true true true false true true = refl
reordered true true true true true true false true false = refl
reordered true true true true true true false false k = refl

-- the number and the code tell the stop
stop_by : ℕ → ℕ → Stop
stop_by number code = pick (eqb number 30) Spent (pick (eqb number 31) Ended (pick (eqb number 32) BadAddress (pick (eqb number 33) StackLimit (pick (eqb number 34) ReturnMark (pick (eqb number 35) BadProcess (pick (eqb number 36) ZeroDivisor (pick (eqb number 37) ResultRange (pick (eqb number 38) CheckFailed (pick (eqb number 39) BadChannel (Program code))))))))))

back : (a : Stop) → stop_by (stop_number a) (stop_code a) ≡ a
unfolding stop_by
back Spent = refl
back Ended = refl
back BadAddress = refl
back StackLimit = refl
back ReturnMark = refl
back BadProcess = refl
back ZeroDivisor = refl
back ResultRange = refl
back CheckFailed = refl
back BadChannel = refl
back (Program code) = refl

abbrev same_stop : Stop → Stop → Bool
same_stop a b = and (eqb (stop_number a) (stop_number b)) (eqb (stop_code a) (stop_code b))

stops : (a b : Stop) → Decides (same_stop a b) (a ≡ b)
stops a b = (
  λ e. let (n, c) = and_both (eqb (stop_number a) (stop_number b)) (eqb (stop_code a) (stop_code b)) e in sym (back a) ∙ ap₂ stop_by (eqb-true _ _ n) (eqb-true _ _ c) ∙ back b,
  λ e. both-and _ _ (eq-eqb _ _ (ap stop_number e)) (eq-eqb _ _ (ap stop_code e)),
)

derived : (a b : Stop) → Decides ((stop_eq.ghosts).eq a b) (a ≡ b)
derived a b = search (rules, tests)

all_four : (a b c d : Bool) → a && (b && (c && d)) ≡ and a (and b (and c d))
all_four false b c d = refl
all_four true false c d = refl
all_four true true false d = refl
all_four true true true true = refl
all_four true true true false = refl

told : (o p : Option Caught) → option_eq (caught_eq.ghosts).eq o p ≡ same_caught o p
told None None = refl
told None (Some y) = refl
told (Some x) None = refl
told (Some x) (Some y) = all_four (eqb x.number y.number) (eqb x.process y.process) (eqb x.unit y.unit) (eqb x.pc y.pc)

equal : (a b : Shown) → (shown_eq.ghosts).eq a b ≡ same_reading a b
unfolding same_reading
equal a b =
    let x = a.reading in
    let y = b.reading in
    let s : (stop_eq.ghosts).eq x.stop y.stop ≡ same_stop x.stop y.stop = same_from_decides _ _ (derived x.stop y.stop) (stops x.stop y.stop) in
    rw (s, told a.caught b.caught) (reordered (eqb (stop_number x.stop) (stop_number y.stop)) (eqb (stop_code x.stop) (stop_code y.stop)) (eqb x.count y.count) (eqb x.unit y.unit) (eqb x.pc.0 y.pc.0) (eqb x.depth y.depth) (pointwise eqb x.outputs y.outputs) (eqb a.left b.left) (same_caught a.caught b.caught))

pub returns : goal.returns
returns c = c.eq.ensures ∙ equal c.args.a c.args.b
