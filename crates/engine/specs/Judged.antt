-- Run's test of a machine, by the lent numbers of the program. Assumes nothing.
use Rattle.std.specs.Prelude.{◌≡◌, ℕ, ◌+◌, Bool, true, List, get_or, length, ltb, leb, eqb, Result, Ok, Err}
use Rattle.mcode.specs.Word.{and, or, all_below}
use Rattle.mcode.specs.Image.{margin, parse}
use Rattle.mcode.specs.Machine.{is_machine, state}
use Rattle.mcode.specs.Run.{run_refusal}
use Rattle.mcode.specs.Answer.{refusal_number}
use Rattle.mcode.specs.declared.Registers.{Registers}
use Rattle.mcode.specs.declared.Machine.{Machine}
use Rattle.mcode.specs.declared.Refusal.{Refusal}
use Rattle.control.specs.Table.{stands_in}
use Rattle.execute.specs.Stepping.{Prepared}

abbrev pub zeros_above : List ℕ → ℕ → Bool
zeros_above stack depth = all_below 16 (λ i. or (ltb i depth) (eqb (get_or stack i 0) 0))

abbrev pub framed_in : Registers → ℕ → Bool
framed_in r w = and (leb r.s.0 r.h.0) (and (leb (r.h.0 + margin) w) (leb (r.p.0 + 8) w))

unfoldable pub machine_in : List ℕ → List ℕ → ℕ → Machine → Bool
machine_in table map w m =
    let r = m.registers in
    and (stands_in table map r.unit r.pc.0 r.depth) (and (framed_in r w) (zeros_above m.stack r.depth))

-- what a run that is not refused was handed: everything that a step asks
pub record Passed (image map : List ℕ) (m : Machine) (w outs ins : ℕ) (table : List ℕ) : Type 0 where
  pub prepared : Prepared image table map w
  pub machine : is_machine (parse image).program map w m ≡ true
  pub outputs : outs ≡ 16
  pub inputs : ins ≡ 16

-- the number is that of the definition, whatever words the buffers of these lengths hold
abbrev pub Tells : List ℕ → List ℕ → Machine → ℕ → ℕ → ℕ → ℕ → Type 0
Tells image map m w outs ins number = (inputs store outputs : List ℕ) → length inputs ≡ ins → length store ≡ w → length outputs ≡ outs → number ≡ run_refusal image map inputs (state m store outputs)

-- no refusal, and all is as a step asks; or a refusal's
abbrev pub Judges : List ℕ → List ℕ → Machine → ℕ → ℕ → ℕ → Result (List ℕ) Refusal → Type 0
Judges image map m w outs ins (Ok table) = Tells image map m w outs ins 0 × Passed image map m w outs ins table
Judges image map m w outs ins (Err refusal) = Tells image map m w outs ins (refusal_number refusal)
