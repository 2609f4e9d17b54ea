-- The stop that a number and a code stand for: the way back from mcode's stop_number and stop_code. Assumes nothing.
use Rattle.std.proofs.Common.{◌≡◌, ℕ, eqb, refl}
use Rattle.mcode.specs.Word.{pick}
use Rattle.mcode.specs.Machine.{stop_number, stop_code}
use Rattle.mcode.specs.declared.Stop.{Stop}
use Rattle.mcode.specs.declared.Stop.TheVariants.{Spent, Ended, BadAddress, StackLimit, ReturnMark, BadProcess, ZeroDivisor, ResultRange, CheckFailed, BadChannel, Program}

unfoldable pub stop_of : ℕ → ℕ → Stop
stop_of n code =
    pick (eqb n 30) Spent
    (pick (eqb n 31) Ended
    (pick (eqb n 32) BadAddress
    (pick (eqb n 33) StackLimit
    (pick (eqb n 34) ReturnMark
    (pick (eqb n 35) BadProcess
    (pick (eqb n 36) ZeroDivisor
    (pick (eqb n 37) ResultRange
    (pick (eqb n 38) CheckFailed
    (pick (eqb n 39) BadChannel
    (Program code))))))))))

pub stop-back : (k : Stop) → stop_of (stop_number k) (stop_code k) ≡ k
unfolding stop_of
stop-back Spent = refl
stop-back Ended = refl
stop-back BadAddress = refl
stop-back StackLimit = refl
stop-back ReturnMark = refl
stop-back BadProcess = refl
stop-back ZeroDivisor = refl
stop-back ResultRange = refl
stop-back CheckFailed = refl
stop-back BadChannel = refl
stop-back (Program code) = refl
