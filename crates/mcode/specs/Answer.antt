-- What the answers of the code stand for: it answers with Option and Result, and its refusals are cases; the definition has the paper's
-- numbers. "Where an answer is an enum, a definition tells you this paper's number and values for each of its cases."
use Rattle.std.specs.Prelude.{ℕ, Result, Ok, Err}
use Rattle.mcode.specs.Image.{Part, Got, Refused, Head, Read, NoHead, Parsed, refused_by}
use Rattle.mcode.specs.Machine.{position}
use Rattle.mcode.specs.Run.{Ending, Refused as Rejected, Stopped, Verdict, verdict, fault_at}
use Rattle.mcode.specs.Archive.{Delivered, none}
use Rattle.mcode.specs.declared.Module.{Module}
use Rattle.mcode.specs.declared.Program.{Program}
use Rattle.mcode.specs.declared.Position.{Position}
use Rattle.mcode.specs.declared.Stop.{Stop}
use Rattle.mcode.specs.declared.Refusal.{Refusal}
use Rattle.mcode.specs.declared.Refusal.TheVariants.{ImageSize, ModuleCount, ImageEnds, BytesAfter, BitMap, Field, MapShort, NoDepths, StoreSize, ChannelCount, NotAMachine, MapUnfit, NotWhole, OutputShort}

-- the number of a refusal
abbrev pub refusal_number : Refusal → ℕ
refusal_number ImageSize = 1  -- "image of 0 or over 65,535 bytes"
refusal_number ModuleCount = 2  -- "module count 0 or over 32", 22 since A.10
refusal_number ImageEnds = 3  -- "image ends inside a part"
refusal_number BytesAfter = 4  -- "bytes after the last module"
refusal_number BitMap = 5  -- "bit 3 to 7 of a bit map"
refusal_number Field = 6  -- "a field out of range"
refusal_number MapShort = 7  -- "map shorter than image"
refusal_number NoDepths = 8  -- "no depths fit"
refusal_number StoreSize = 9  -- "W below Z + 36 or over 65,535"
refusal_number ChannelCount = 10  -- "inputs or outputs not 16 words"
refusal_number NotAMachine = 11  -- "not a machine"
refusal_number MapUnfit = 12  -- "map does not fit"
refusal_number (NotWhole unit pc) = 13  -- "an unlisted opcode, operands outside the code, a missing module or procedure, or a successor outside the code"
refusal_number OutputShort = 14  -- "output shorter than the form"

-- the module and the position at fault with 13, "which are both 0 in any other answer"
abbrev pub refusal_verdict : Refusal → Verdict
refusal_verdict ImageSize = verdict 1
refusal_verdict ModuleCount = verdict 2
refusal_verdict ImageEnds = verdict 3
refusal_verdict BytesAfter = verdict 4
refusal_verdict BitMap = verdict 5
refusal_verdict Field = verdict 6
refusal_verdict MapShort = verdict 7
refusal_verdict NoDepths = verdict 8
refusal_verdict StoreSize = verdict 9
refusal_verdict ChannelCount = verdict 10
refusal_verdict NotAMachine = verdict 11
refusal_verdict MapUnfit = verdict 12
refusal_verdict (NotWhole unit pc) = fault_at unit pc.0
refusal_verdict OutputShort = verdict 14

-- of the image reader: a part, a module, and an image
abbrev pub part_of : Result (ℕ × ℕ) Refusal → Part
part_of (Ok x) = Got x.0 x.1
part_of (Err k) = Refused (refusal_number k)

abbrev pub head_of : Result (Module × ℕ) Refusal → Head
head_of (Ok x) = Read x.0 x.1
head_of (Err k) = NoHead (refusal_number k)

abbrev pub parsed_of : Result Program Refusal → Parsed
parsed_of (Ok program) = record { refusal = 0; program = program }
parsed_of (Err k) = refused_by (refusal_number k)

-- of load
abbrev pub verdict_of : Result Unit Refusal → Verdict
verdict_of (Ok done) = verdict 0
verdict_of (Err k) = refusal_verdict k

-- of run
abbrev pub ending_of : Result Stop Refusal → Ending
ending_of (Ok stop) = Stopped stop
ending_of (Err k) = Rejected (refusal_number k)

-- of a call that fills an output slice
abbrev pub delivered_of : Result ℕ Refusal → Delivered
delivered_of (Ok n) = record { number = 0; length = n }
delivered_of (Err k) = none (refusal_number k)
