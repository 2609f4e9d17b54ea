-- Decoding: an opcode with its operand bytes is an action and a length. What an action does is said in Step.
use Rattle.std.specs.Prelude.{ℕ, ◌+◌, ◌-◌, ◌/◌, List, get_or, leb, eqb}
use Rattle.mcode.specs.Word.{pick, and, or, wrap, word_of}
use Rattle.mcode.specs.Depths.{target}
use Rattle.mcode.specs.Machine.{address, position}
use Rattle.mcode.specs.declared.Address.{Address}
use Rattle.mcode.specs.declared.Position.{Position}
use Rattle.mcode.specs.declared.Registers.{Registers}

-- what an instruction does, its addresses and jump targets summed: "a" is the top word, "c" the one below, "e" below that
pub data Action : Type 0 where
  Put : ℕ → Action  -- put this word
  AddTop : ℕ → Action  -- a becomes a + b
  Jump : Position → Action
  JumpZero : Position → Action  -- if a = 0
  OrJump : Position → Action  -- 036
  AndJump : Position → Action  -- 037
  Load : Address → Action
  LoadTop : ℕ → Action  -- at a + k
  LoadIndexed : Action  -- at c + a
  Store : Address → Action
  StoreBelow : ℕ → Action  -- a at c + k
  StoreIndexed : Action  -- a at e + c
  LoadByte : Action
  StoreByte : Action
  One : ℕ → Action  -- the opcode's word of one word (Word: one_of)
  Two : ℕ → Action  -- of two
  Three : ℕ → Action  -- of three
  Copy : Action
  Nothing : Action
  Read : Action
  Write : Action
  Trap : Action
  Enter : ℕ → Action  -- raise S
  Follow : ℕ → Action  -- the word so many links from L
  Call : ℕ → Action
  CallLinked : ℕ → Action
  CallExternal : ℕ → ℕ → Action  -- module, procedure
  Return : Action
  Transfer : ℕ → Action
  PutPair : ℕ → ℕ → Action  -- put these two words, the high one first
  LoadPair : Address → Action
  LoadPairTop : ℕ → Action  -- at a + k
  StorePair : Address → Action
  StorePairBelow : ℕ → Action  -- at e + k, below the pair
  Double : ℕ → Action  -- the opcode's pair of two pairs (Word: double_of)
  Save : Action  -- STORE, 262
  Fetch : Action  -- LODFW, 260

pub record Decoded : Type 0 where
  pub action : Action
  pub size : ℕ

-- ---- the opcode, its operand bytes (byte k is o k; the first is b, the second c), the registers, and the modules' bases; sixteen
-- opcodes at a time

-- an action of an instruction of n bytes
abbrev pub sized : ℕ → Action → Decoded
sized n a = record { action = a; size = n }

-- a base and an offset: "Address sums are modulo 65,536"
abbrev pub sum : ℕ → ℕ → Address
sum base k = address (wrap (base + k))

-- a jump from the operand's first byte
abbrev pub to : ℕ → ℕ → ℕ → Registers → Position
to op b c r = position (target op (r.pc.0 + 1) b c)

-- "020 b. 022 w. 024 L+b. 025 G+b. 026 a+b. 027 m b: base m + b."
-- "030 w signed, if a = 0; 031 w signed, always; 032 b forward, if a = 0; 033 b forward; 034 b back, if a = 0; 035 b back.
-- 036 b: a /= 0 puts 1 and jumps forward. 037 b: a = 0 puts 0 and jumps forward." "LID (023, two operand words, high first)"
unfoldable pub row1 : ℕ → (ℕ → ℕ) → Registers → List ℕ → Decoded
row1 op o r bases =
    let b = o 1 in
    let c = o 2 in
    pick (eqb op 0o20) (sized 2 (Put b))
    (pick (eqb op 0o22) (sized 3 (Put (word_of b c)))
    (pick (eqb op 0o23) (sized 5 (PutPair (word_of b c) (word_of (o 3) (o 4))))
    (pick (eqb op 0o24) (sized 2 (Put (sum r.l.0 b).0))
    (pick (eqb op 0o25) (sized 2 (Put (sum (get_or bases r.unit 0) b).0))
    (pick (eqb op 0o26) (sized 2 (AddTop b))
    (pick (eqb op 0o27) (sized 3 (Put (sum (get_or bases b 0) c).0))
    (pick (eqb op 0o30) (sized 3 (JumpZero (to op b c r)))
    (pick (eqb op 0o31) (sized 3 (Jump (to op b c r)))
    (pick (eqb op 0o32) (sized 2 (JumpZero (to op b c r)))
    (pick (eqb op 0o33) (sized 2 (Jump (to op b c r)))
    (pick (eqb op 0o34) (sized 2 (JumpZero (to op b c r)))
    (pick (eqb op 0o35) (sized 2 (Jump (to op b c r)))
    (pick (eqb op 0o36) (sized 2 (OrJump (to op b c r)))
    (pick (eqb op 0o37) (sized 2 (AndJump (to op b c r)))
    (sized 0 Nothing)))))))))))))))

-- "Load word: 040 L+b, 044-057 L+4..15; 100 G+b, 102-117 G+2..15." "Store: 060, 064-077, 120, 122-137 likewise." "LLD 041, LGD 101", "SLD
-- 061, SGD 121: each addresses as its one-word form does". k counts in the row of sixteen, and base is L or G
unfoldable pub loads : ℕ → ℕ → ℕ → Decoded
loads k base b = pick (eqb k 0) (sized 2 (Load (sum base b))) (pick (eqb k 1) (sized 2 (LoadPair (sum base b))) (sized 1 (Load (sum base k))))

unfoldable pub stores : ℕ → ℕ → ℕ → Decoded
stores k base b = pick (eqb k 0) (sized 2 (Store (sum base b))) (pick (eqb k 1) (sized 2 (StorePair (sum base b))) (sized 1 (Store (sum base k))))

-- "042 m b", "LED 043"
unfoldable pub row2 : ℕ → ℕ → ℕ → Registers → List ℕ → Decoded
row2 op b c r bases =
    pick (eqb op 0o42) (sized 3 (Load (sum (get_or bases b 0) c)))
    (pick (eqb op 0o43) (sized 3 (LoadPair (sum (get_or bases b 0) c)))
    (loads (op - 0o40) r.l.0 b))

-- "062 likewise", "SED 063"
unfoldable pub row3 : ℕ → ℕ → ℕ → Registers → List ℕ → Decoded
row3 op b c r bases =
    pick (eqb op 0o62) (sized 3 (Store (sum (get_or bases b 0) c)))
    (pick (eqb op 0o63) (sized 3 (StorePair (sum (get_or bases b 0) c)))
    (stores (op - 0o60) r.l.0 b))

-- "200 a+b; 206 c+a"; "205: byte a of the string at c"; "LSD 201, LSD0 202 with offset 0", "DADD 210 and DSUB 211"
unfoldable pub row8 : ℕ → ℕ → Decoded
row8 op b =
    pick (eqb op 0o200) (sized 2 (LoadTop b))
    (pick (eqb op 0o205) (sized 1 LoadByte)
    (pick (eqb op 0o206) (sized 1 LoadIndexed)
    (pick (eqb op 0o201) (sized 2 (LoadPairTop b))
    (pick (eqb op 0o202) (sized 1 (LoadPairTop 0))
    (pick (or (eqb op 0o210) (eqb op 0o211)) (sized 1 (Double op))
    (sized 0 Nothing))))))

-- "220 store a at c+b; 226 stores a at e+c"; "225: byte c of the string at e set to a modulo 256"; "SSD 221, SSD0 222 with
-- offset 0: stores take the address below the value"
unfoldable pub row9 : ℕ → ℕ → Decoded
row9 op b =
    pick (eqb op 0o220) (sized 2 (StoreBelow b))
    (pick (eqb op 0o225) (sized 1 StoreByte)
    (pick (eqb op 0o226) (sized 1 StoreIndexed)
    (pick (eqb op 0o221) (sized 2 (StorePairBelow b))
    (pick (eqb op 0o222) (sized 1 (StorePairBelow 0))
    (sized 0 Nothing)))))

-- "240: a channel, c address. 241: output channel c becomes a." "245 unsigned" check, "252-255" comparisons, "256 b, TRANSFER"
unfoldable pub row10 : ℕ → ℕ → Decoded
row10 op b =
    pick (eqb op 0o240) (sized 1 Read)
    (pick (eqb op 0o241) (sized 1 Write)
    (pick (eqb op 0o245) (sized 1 (Three op))
    (pick (and (leb 0o252 op) (leb op 0o255)) (sized 1 (Two op))
    (pick (eqb op 0o256) (sized 2 (Transfer b))
    (sized 0 Nothing)))))

-- "STORE (262) and LODFW (260)"; "265 doubles a"; 270-277
unfoldable pub row11 : ℕ → Decoded
row11 op =
    pick (eqb op 0o260) (sized 1 Fetch)
    (pick (eqb op 0o262) (sized 1 Save)
    (pick (eqb op 0o265) (sized 1 Copy)
    (pick (leb 0o270 op) (sized 1 (Two op))
    (sized 0 Nothing))))

-- "304: trap 40 with code a"; 305 and 306, checks; 310-315, comparisons; 316 and 317
unfoldable pub row12 : ℕ → Decoded
row12 op =
    pick (eqb op 0o304) (sized 1 Trap)
    (pick (eqb op 0o305) (sized 1 (Three op))
    (pick (eqb op 0o306) (sized 1 (Two op))
    (pick (and (leb 0o310 op) (leb op 0o315)) (sized 1 (Two op))
    (pick (leb 0o316 op) (sized 1 (One op))
    (sized 0 Nothing)))))

-- 320-322, 323 and 327, 330-333; "336 nothing"
unfoldable pub row13 : ℕ → Decoded
row13 op =
    pick (leb op 0o322) (sized 1 (Two op))
    (pick (eqb op 0o323) (sized 1 (One op))
    (pick (eqb op 0o327) (sized 1 (One op))
    (pick (and (leb 0o330 op) (leb op 0o333)) (sized 1 (Two op))
    (pick (eqb op 0o336) (sized 1 Nothing)
    (sized 0 Nothing)))))

-- "350 b: from L, b times the word at that address; puts it. 351 is 350 with 1." "353 b", "354", "355 m n", "356 n (a is the link)"
unfoldable pub row14 : ℕ → ℕ → ℕ → Decoded
row14 op b c =
    pick (eqb op 0o350) (sized 2 (Follow b))
    (pick (eqb op 0o351) (sized 1 (Follow 1))
    (pick (eqb op 0o353) (sized 2 (Enter b))
    (pick (eqb op 0o354) (sized 1 Return)
    (pick (eqb op 0o355) (sized 3 (CallExternal b c))
    (pick (eqb op 0o356) (sized 2 (CallLinked b))
    (sized 0 Nothing))))))

-- "Calls 360 n, 361-377 procedure 1-15"
unfoldable pub row15 : ℕ → ℕ → Decoded
row15 op b = pick (eqb op 0o360) (sized 2 (Call b)) (sized 1 (Call (op - 0o360)))

-- the rows together. No map marks an opcode that is not listed (row length 0), so what stands here for it is never performed
unfoldable pub decode_of : ℕ → (ℕ → ℕ) → Registers → List ℕ → Decoded
decode_of op o r bases =
    let b = o 1 in
    let c = o 2 in
    let row = op / 16 in
    let g = get_or bases r.unit 0 in
    pick (eqb row 0) (sized 1 (Put op))  -- "000-017 put 0-15"
    (pick (eqb row 1) (row1 op o r bases)
    (pick (eqb row 2) (row2 op b c r bases)
    (pick (eqb row 3) (row3 op b c r bases)
    (pick (eqb row 4) (loads (op - 0o100) g b)
    (pick (eqb row 5) (stores (op - 0o120) g b)
    (pick (eqb row 6) (sized 1 (LoadTop (op - 0o140)))  -- "140-157 a+0..15"
    (pick (eqb row 7) (sized 1 (StoreBelow (op - 0o160)))  -- "160-177 store a at c+0..15"
    (pick (eqb row 8) (row8 op b)
    (pick (eqb row 9) (row9 op b)
    (pick (eqb row 10) (row10 op b)
    (pick (eqb row 11) (row11 op)
    (pick (eqb row 12) (row12 op)
    (pick (eqb row 13) (row13 op)
    (pick (eqb row 14) (row14 op b c)
    (row15 op b)))))))))))))))
