-- What the exported load, start, run and archive answer and leave in the buffers that they are lent, from the definition's Loads, start_of,
-- run_of and Archives.
use Rattle.std.specs.Prelude.{◌≡◌, ℕ, List, [], ◌∷◌, length, eqb}
use Rattle.mcode.specs.Word.{pick, and}
use Rattle.mcode.specs.Machine.{state, live}
use Rattle.mcode.specs.Run.{Verdict, Ending, Refused, Stopped, Started, RunLeft, Loads, start_of, run_of, ending_number, ending_code}
use Rattle.mcode.specs.Archive.{delivery, Archives}
use Rattle.mcode.specs.declared.Machine.{Machine}
use Rattle.capi.specs.Words.{words_of, machine_of}

-- the answer to a place that is not 2 words, a machine that is not 24 words, an answer that is not 4 numbers, or a length
-- written that is not one number: nothing is changed
abbrev pub wrong_length : ℕ
wrong_length = 20

-- ---- load

-- the number, the module and the position
abbrev pub place_words : Verdict → ℕ × ℕ × ℕ
place_words v = (v.number, v.unit, v.pc.0)

-- load's answer, as the number and the two words of the place: module and position
pub record Said (image before : List ℕ) (number : ℕ) (after place : List ℕ) : Type 0 where
  pub verdict : Verdict
  pub loads : Loads image before verdict after
  pub number_is : number ≡ verdict.number
  pub place_is : place ≡ verdict.unit ∷ verdict.pc.0 ∷ []

abbrev pub LoadLeft : List ℕ → List ℕ → List ℕ → ℕ → List ℕ → List ℕ → Type 0
LoadLeft image before place number after place' =
    pick (eqb (length place) 2) (Said image before number after place') ((number ≡ wrong_length) × (after ≡ before) × (place' ≡ place))

-- ---- start

pub record StartLeft : Type 0 where
  pub number : ℕ
  pub store : List ℕ
  pub machine : List ℕ

abbrev pub start_left : ℕ → List ℕ → List ℕ → StartLeft
start_left number store machine = record { number = number; store = store; machine = machine }

abbrev pub start_says : Started → StartLeft
start_says s = start_left s.number s.store (words_of s.machine)

unfoldable pub start_words : List ℕ → List ℕ → List ℕ → StartLeft
start_words image store machine = pick (eqb (length machine) 24) (start_says (start_of image store)) (start_left wrong_length store machine)

-- ---- run

pub record RunAnswer : Type 0 where
  pub number : ℕ
  pub machine : List ℕ
  pub store : List ℕ
  pub outputs : List ℕ
  pub answer : List ℕ

abbrev pub run_left : ℕ → List ℕ → List ℕ → List ℕ → List ℕ → RunAnswer
run_left number machine store outputs answer = record { number = number; machine = machine; store = store; outputs = outputs; answer = answer }

-- a refusal leaves the words of the machine as they were
abbrev pub words_left : Ending → List ℕ → Machine → List ℕ
words_left (Refused k) words m = words
words_left (Stopped k) words m = words_of m

-- the number, the words, and the count, the code, the requests left and the channels of what a run answers and leaves
abbrev pub run_says : List ℕ → RunLeft → RunAnswer
run_says words e =
    run_left (ending_number e.ending) (words_left e.ending words e.state.state.machine) e.state.state.store e.state.state.outputs (e.count ∷ ending_code e.ending ∷ e.state.requests ∷ e.channels ∷ [])

unfoldable pub run_words : List ℕ → List ℕ → List ℕ → ℕ → ℕ → List ℕ → List ℕ → List ℕ → List ℕ → RunAnswer
run_words image map inputs n requests machine store outputs answer =
    pick (and (eqb (length machine) 24) (eqb (length answer) 4))
    (run_says machine (run_of image map inputs n (live (state (machine_of machine) store outputs) requests)))
    (run_left wrong_length machine store outputs answer)

-- ---- archive

abbrev pub ArchiveLeft : List ℕ → List ℕ → List ℕ → List ℕ → ℕ → List ℕ → List ℕ → List ℕ → Type 0
ArchiveLeft image before output written number after output' written' =
    pick (eqb (length written) 1) ((long : ℕ) × Archives image before output after (delivery (record { number = number; length = long }) output') × (written' ≡ long ∷ []))
    ((number ≡ wrong_length) × (after ≡ before) × (output' ≡ output) × (written' ≡ written))
