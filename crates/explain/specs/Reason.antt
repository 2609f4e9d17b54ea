-- What an explanation says of the code of an image that was read.
use Rattle.std.specs.Prelude.{ℕ, ◌+◌, ◌-◌, ◌≤◌, ◌<◌, ◌≡◌, List, length, ltb, leb, eqb, Option, Some, None}
use Rattle.mcode.specs.Word.{pick}
use Rattle.mcode.specs.Image.{parse, module_of, code_byte, params_of}
use Rattle.mcode.specs.Machine.{position}
use Rattle.mcode.specs.Depths.{NoneFits, flow_at, depths}
use Rattle.mcode.specs.Walk.{cause_at, AllWhole, Broken}
use Rattle.mcode.specs.declared.Cause.{Cause}
use Rattle.mcode.specs.declared.Module.{Module}
use Rattle.mcode.specs.declared.Program.{Program}
use Rattle.mcode.specs.declared.Flow.TheVariants as Flow
use Rattle.depths.specs.declared.code.Rules.{Rules}
use Rattle.explain.specs.declared.Why.{Why}
use Rattle.explain.specs.declared.Wrong.{Wrong}
use Rattle.explain.specs.declared.Wrong.TheVariants.{Fault, Meet, Rule, Call}

-- what is wrong at position p of module k, if it is at fault
abbrev pub fault_of : ℕ → ℕ → ℕ → Option Cause → Option Why
fault_of k p op None = None
fault_of k p op (Some cause) = Some (record { unit = k; pc = position p; op = op; wrong = Fault cause })

abbrev pub fault_there : List ℕ → Program → ℕ → ℕ → Option Why
fault_there image program k p = fault_of k p (code_byte image (module_of program k) p) (cause_at image program (module_of program k) p)

-- the parameters of the procedure that the call op of module m names, whose operand bytes are b and c; 0 where its module is missing
abbrev pub named_params : List ℕ → Program → Module → ℕ → ℕ → ℕ → ℕ
named_params image program m op b c =
    pick (eqb op 0o355) (pick (ltb b program.count) (params_of image (module_of program b) c) 0)
    (params_of image m (pick (leb op 0o360) b (op - 0o360)))

-- at position p of module m, with the opcode op: two marks that differ, or one that the rules do not allow there
abbrev pub Amiss : List ℕ → Program → Module → ℕ → ℕ → Wrong → Type 0
Amiss image program m p op (Fault cause) = ⊥
Amiss image program m p op (Meet x y) = x ≡ y → ⊥
Amiss image program m p op (Rule x) = flow_at image program m p x ≡ Flow.Fault
Amiss image program m p op (Call x n) =
    (flow_at image program m p x ≡ Flow.Fault) × (n ≡ named_params image program m op (code_byte image m (p + 1)) (code_byte image m (p + 2)))

-- the place, if there is one, is in module m, which is number k
abbrev pub AtPlace : List ℕ → Program → Module → ℕ → Option Why → Type 0
AtPlace image program m k None = Unit {0}
AtPlace image program m k (Some why) = (why.unit ≡ k) × (why.pc.0 < m.length) × (why.op ≡ code_byte image m why.pc.0) × Amiss image program m why.pc.0 why.op why.wrong

-- it is in the module that the rules are lent for
abbrev pub PlaceOf : Rules → ℕ → Option Why → Type 0
PlaceOf r k why = AtPlace r.code.image.now r.program.now r.code.m k why

-- it is in a module of which no depths fit
abbrev pub Unfit : List ℕ → Program → ℕ → Why → Type 0
Unfit image program k why = (k < program.count) × NoneFits (depths image program (module_of program k)) × AtPlace image program (module_of program k) k (Some why)

-- with 13 it is the place that load names, "the first such module and the lowest position in it", and its cause
abbrev pub Explains : List ℕ → Program → Why → Wrong → Type 0
Explains image program why (Fault cause) = Broken image program why.unit why.pc.0 × (Some why ≡ fault_there image program why.unit why.pc.0)
Explains image program why (Meet x y) = Unfit image program why.unit why
Explains image program why (Rule x) = Unfit image program why.unit why
Explains image program why (Call x n) = Unfit image program why.unit why

abbrev pub Explained : List ℕ → Program → Option Why → Type 0
Explained image program None = Unit {0}
Explained image program (Some why) = Explains image program why why.wrong

-- of an image and a lent map: nothing is said only of whole code, or where load does not judge the code
abbrev pub Reasoned : List ℕ → List ℕ → Option Why → Type 0
Reasoned image map why =
    let program = (parse image).program in
    Explained image program why × (why ≡ None → (parse image).refusal ≡ 0 → length image ≤ length map → AllWhole image program)
