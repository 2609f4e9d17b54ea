-- What the kind of an opcode says: whether it is listed, and where it leads.
use mathlib.Core.Path.{◌≡◌, refl, sym, ap, ◌∙◌}
use mathlib.Core.Bool.{Bool, true, false, not, false≢true}
use mathlib.Core.List.{List}
use Rattle.std.proofs.Common.{Some, None}
use Prim.Native.Nat.{ℕ, ◌+◌, ◌-◌, ◌≤◌, ◌<◌}
use native.Mathlib.Decide.{dec_lt}
use native.Mathlib.Omega.{arith}
use lib.ListN.{get_or}
use lib.Dec.{ltb, leb, eqb}
use borrow.Author.Tests.{ltb-true, eqb-true, eqb-false, ne_eqb, le-leb, lt-leb, lt-ltb, le-ltb}
use Rattle.mcode.specs.declared.Flow.{Flow}
use Rattle.mcode.specs.declared.Flow.TheVariants.{Ends, To, Fork}
use Rattle.mcode.specs.declared.Module.{Module}
use Rattle.mcode.specs.declared.Program.{Program}
use Rattle.mcode.specs.declared.Cause.TheVariants.{Opcode, Operands, Name, Successor}
use Rattle.mcode.specs.Word.{pick, and, or}
use Rattle.mcode.specs.Opcode.{lengths}
use Rattle.mcode.specs.Image.{code_byte}
use Rattle.mcode.specs.Depths.{carry, jumps, target}
use Rattle.mcode.specs.Walk.{seen, ways, ways_at, legible, named, stays_in, cause_at}
use Rattle.mcode.proofs.Tests.{and_both, refuted}
use Rattle.depths.specs.declared.code.Code.{Code}
use Rattle.depths.specs.Cases.{jumping, ending, saving, plain, kind_of}
use Rattle.depths.proofs.Flows.{of_plain, of-jump, of-last, of_other, of-saves, of_none, saving-plain}
use Rattle.walk.proofs.Laws.{code-at, way}

-- a jump for the mark 0 has only marks 0
carry-jumps : (op t n : ℕ) → carry seen (jumps op t n 0) ≡ jumps op t n 0
unfolding jumps
carry-jumps op t n = go (leb 0o36 op) (or (eqb op 0o31) (or (eqb op 0o33) (eqb op 0o35)))
  where
    go : (u v : Bool) → carry seen (pick u (Fork t 0 n (0 - 1)) (pick v (To t 0) (Fork t 0 n 0))) ≡ pick u (Fork t 0 n (0 - 1)) (pick v (To t 0) (Fork t 0 n 0))
    go true v = refl
    go false true = refl
    go false false = refl

-- the tests that the kind k of op stands for, and where op leads
module _ (op k : ℕ) (x : k ≡ kind_of op) where
  pub unlisted : 5 < k → eqb (get_or lengths op 0) 0 ≡ true
  unfolding kind_of
  unlisted = of_none k (eqb (get_or lengths op 0) 0) (jumping op) (ending op) (saving op) (plain op) x

  pub listed : k ≤ 5 → eqb (get_or lengths op 0) 0 ≡ false
  unfolding kind_of
  listed l = refuted _ (λ t. let e : k ≡ 6 = x ∙ rw t refl in omega (arith, e, l))

  onward : k ≤ 5 → (k ≡ 3 → ⊥) → (k ≡ 2 → ⊥) → (jumping op ≡ false) × (ending op ≡ false)
  unfolding kind_of
  onward l y z = go (dec_lt 1 k) (dec_lt 4 k)
    where
      go : Dec (1 < k) → Dec (4 < k) → (jumping op ≡ false) × (ending op ≡ false)
      go (no h) d = let (_, j, e, _, _) = of_plain k (eqb (get_or lengths op 0) 0) (jumping op) (ending op) (saving op) (plain op) x (omega arith) in (j, e)
      go (yes h) (no d) = let (_, j, e, _, _) = of_other k (eqb (get_or lengths op 0) 0) (jumping op) (ending op) (saving op) (plain op) x (omega arith) (omega arith) in (j, e)
      go (yes h) (yes d) =
          let (_, s) = of-saves k (eqb (get_or lengths op 0) 0) (jumping op) (ending op) (saving op) (plain op) x (omega arith) l in
          let (j, e, _) = saving-plain op s in
          (j, e)

  module _ (t n : ℕ) where
    ways-last : k ≡ 3 → ways op t n ≡ Ends
    unfolding ways kind_of
    ways-last l = rw (of-last k (eqb (get_or lengths op 0) 0) (jumping op) (ending op) (saving op) (plain op) x (omega arith) (omega arith)).1 refl

    ways-jump : k ≡ 2 → ways op t n ≡ jumps op t n 0
    unfolding ways kind_of
    ways-jump l =
        let j = (of-jump k (eqb (get_or lengths op 0) 0) (jumping op) (ending op) (saving op) (plain op) x (omega arith) (omega arith)).1 in
        let z = ltb-true op 0o40 (and_both (leb 0o30 op) (ltb op 0o40) j).1 in
        rw (ne_eqb op 0o304 (λ y. omega (arith, y, z)), ne_eqb op 0o354 (λ y. omega (arith, y, z)), j) (carry-jumps op t n)

    ways_next : k ≤ 5 → (k ≡ 3 → ⊥) → (k ≡ 2 → ⊥) → ways op t n ≡ To n 0
    unfolding ways
    ways_next l y z = let (j, h) = onward l y z in rw (h, j) refl

-- where position p leads, whose opcode is op of kind k
module _ (c : Code) (p k : ℕ) (kind : k ≡ kind_of (get_or c.bytes.now p 0)) where
  abbrev image : List ℕ
  image = c.image.now

  abbrev m : Module
  m = c.m

  abbrev op : ℕ
  op = code_byte image m p

  abbrev x : k ≡ kind_of op
  x = kind ∙ ap kind_of (code-at c p)

  abbrev n : ℕ
  n = p + get_or lengths op 0

  pub way-none : 5 < k → way c p ≡ Ends
  unfolding legible
  way-none l = rw (lt-leb 1 (get_or lengths op 0) (let z : get_or lengths op 0 ≡ 0 = eqb-true _ _ (unlisted op k x l) in omega arith)) refl

  pub way-cut : m.length < n → way c p ≡ Ends
  unfolding legible
  way-cut l =
      let a = leb 1 (get_or lengths op 0) in
      let b = leb n m.length in
      rw (refuted (and a b) (λ z. false≢true (sym (lt-leb n m.length l) ∙ (and_both a b z).1))) refl

  module _ (some : k ≤ 5) (room : n ≤ m.length) where
    pub way-is : way c p ≡ ways_at image m p
    unfolding legible
    way-is =
        let z : get_or lengths op 0 ≡ 0 → ⊥ = eqb-false _ _ (listed op k x some) in
        rw (le-leb 1 (get_or lengths op 0) (omega arith), le-leb n m.length room) refl

    pub way-last : k ≡ 3 → way c p ≡ Ends
    unfolding ways_at
    way-last l = way-is ∙ ways-last op k x _ _ l

    pub way-jump : k ≡ 2 → way c p ≡ jumps op (target op (p + 1) (code_byte image m (p + 1)) (code_byte image m (p + 2))) n 0
    unfolding ways_at
    way-jump l = way-is ∙ ways-jump op k x _ _ l

    pub way_next : (k ≡ 3 → ⊥) → (k ≡ 2 → ⊥) → way c p ≡ To n 0
    unfolding ways_at
    way_next y z = way-is ∙ ways_next op k x _ _ some y z

  -- what is wrong with position p
  module _ (program : Program) where
    pub cause-none : 5 < k → cause_at image program m p ≡ Some Opcode
    unfolding cause_at
    cause-none l = rw (unlisted op k x l) refl

    pub cause-cut : k ≤ 5 → m.length < p + get_or lengths op 0 → cause_at image program m p ≡ Some Operands
    unfolding cause_at
    cause-cut l h = rw (listed op k x l, lt-ltb _ _ h) refl

    module _ (some : k ≤ 5) (room : p + get_or lengths op 0 ≤ m.length) where
      abbrev names : Bool
      names = named program m op (code_byte image m (p + 1)) (code_byte image m (p + 2))

      pub cause-name : names ≡ false → cause_at image program m p ≡ Some Name
      unfolding cause_at
      cause-name n = rw (listed op k x some, le-ltb _ _ room, n) refl

      -- by the successors
      pub cause-ways : names ≡ true → (g : Flow) → g ≡ way c p → cause_at image program m p ≡ pick (not (stays_in m.length g)) (Some Successor) None
      unfolding cause_at
      cause-ways n g e = rw (listed op k x some, le-ltb _ _ room, n, e ∙ way-is some room) refl
