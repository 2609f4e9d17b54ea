-- The mnemonics: sixteen opcodes to a line, five letters each, filled up with blanks; blanks alone for an opcode that is not listed.
-- The same letters as the text of src/names.rt.
use Rattle.std.specs.Prelude.{ℕ, ◌+◌, ◌*◌, ◌<◌, ◌≡◌, Bool, List, [], ◌∷◌, eqb, get_or}
use Prim.Native.String.{String, ◌++◌, [] as []ˢ, ◌∷◌ as ◌∷ˢ◌}
use Prim.Native.Char.{code}
use Rattle.mcode.specs.Word.{and}
use Rattle.mcode.specs.Opcode.{lengths}

abbrev pub codes : String → List ℕ
codes []ˢ = []
codes (c ∷ˢ s) = code c ∷ codes s

unfoldable pub letters : List ℕ
letters =
    codes
    ("LI0  LI1  LI2  LI3  LI4  LI5  LI6  LI7  LI8  LI9  LI10 LI11 LI12 LI13 LI14 LI15 " ++
    "LIB       LIW  LID  LLA  LGA  LSA  LEA  JPC  JP   JPFC JPF  JPBC JPB  ORJP ANDJP" ++
    "LLW  LLD  LEW  LED  LLW4 LLW5 LLW6 LLW7 LLW8 LLW9 LLW10LLW11LLW12LLW13LLW14LLW15" ++
    "SLW  SLD  SEW  SED  SLW4 SLW5 SLW6 SLW7 SLW8 SLW9 SLW10SLW11SLW12SLW13SLW14SLW15" ++
    "LGW  LGD  LGW2 LGW3 LGW4 LGW5 LGW6 LGW7 LGW8 LGW9 LGW10LGW11LGW12LGW13LGW14LGW15" ++
    "SGW  SGD  SGW2 SGW3 SGW4 SGW5 SGW6 SGW7 SGW8 SGW9 SGW10SGW11SGW12SGW13SGW14SGW15" ++
    "LSW0 LSW1 LSW2 LSW3 LSW4 LSW5 LSW6 LSW7 LSW8 LSW9 LSW10LSW11LSW12LSW13LSW14LSW15" ++
    "SSW0 SSW1 SSW2 SSW3 SSW4 SSW5 SSW6 SSW7 SSW8 SSW9 SSW10SSW11SSW12SSW13SSW14SSW15" ++
    "LSW  LSD  LSD0           LXB  LXW       DADD DSUB                               " ++
    "SSW  SSD  SSD0           SXB  SXW                                               " ++
    "READ WRITE               UCHK                     ULSS ULEQ UGTR UGEQ TRA       " ++
    "LODFW     STORE          COPT           UADD USUB UMUL UDIV UMOD ROR  SHL  SHR  " ++
    "                    TRAP CHK  CHKZ      EQL  NEQ  LSS  LEQ  GTR  GEQ  ABS  NEG  " ++
    "OR   XOR  AND  COM                 NOT  ADD  SUB  MUL  DIV            NOP       " ++
    "                                        GB   GB1       ENTR RTN  CX   CI        " ++
    "CL   CL1  CL2  CL3  CL4  CL5  CL6  CL7  CL8  CL9  CL10 CL11 CL12 CL13 CL14 CL15 ")

abbrev pub letter : ℕ → ℕ
letter i = get_or letters i 0

-- the row of an opcode
abbrev pub name_of : ℕ → List ℕ
name_of op = letter (5 * op) ∷ letter (5 * op + 1) ∷ letter (5 * op + 2) ∷ letter (5 * op + 3) ∷ letter (5 * op + 4) ∷ []

-- an opcode has no name: five blanks
abbrev pub nameless : ℕ → Bool
nameless op = and (eqb (letter (5 * op)) 32) (and (eqb (letter (5 * op + 1)) 32) (and (eqb (letter (5 * op + 2)) 32) (and (eqb (letter (5 * op + 3)) 32) (eqb (letter (5 * op + 4)) 32))))

-- a listed opcode has a name, which begins with its first letter, and an opcode that is not listed has none
pub record Named (op : ℕ) : Type 0 where
  pub begins : eqb (letter (5 * op)) 32 ≡ eqb (get_or lengths op 0) 0
  pub none : nameless op ≡ eqb (get_or lengths op 0) 0

unfoldable pub NamesAgree : Type 0
NamesAgree = (op : ℕ) → op < 256 → Named op
