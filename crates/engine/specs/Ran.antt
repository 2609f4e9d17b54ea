-- What run answers and leaves, in the definition's terms. Assumes nothing.
use Rattle.std.specs.Prelude.{ℕ, List, Err}
use Rattle.mcode.specs.Answer.{ending_of}
use Rattle.mcode.specs.Machine.{state, live, zero_machine}
use Rattle.mcode.specs.Run.{RunLeft}
use Rattle.mcode.specs.declared.Refusal.{Refusal}
use Rattle.engine.specs.declared.run.Ran.{Ran}

abbrev pub answered : Ran → List ℕ → List ℕ → RunLeft
answered r store out = record { ending = ending_of r.ending; count = r.count; state = live (state r.machine store out) r.requests; channels = r.channels }

-- a refusal with a machine of zeros, the requests as given, and no channel
abbrev pub refused_as : Refusal → ℕ → Ran
refused_as refusal requests = record { ending = Err refusal; count = 0; machine = zero_machine; requests = requests; channels = 0 }
