-- What follows an instruction depends on its own bytes and on the procedures of the modules that it names: where both are found again in
-- another image, the modules with other numbers and the module operands so changed, the flow is the same. Assumes nothing.
use mathlib.Core.Path.{◌≡◌, refl, ap, ap₂, ◌∙◌, subst}
use mathlib.Core.Logic.{◌⊎◌, inl, inr, ⊎_elim}
use mathlib.Core.Bool.{Bool, true, false, not}
use mathlib.Core.List.{List}
use Prim.Native.Nat.{ℕ, ◌+◌, ◌-◌, ◌≤◌, ◌<◌}
use native.Mathlib.Decide.{dec_lt}
use native.Mathlib.Omega.{arith}
use lib.ListN.{get_or, get_or-eq_default}
use lib.Dec.{T, ltb, leb, eqb}
use borrow.Author.Tests.{eqb-true, eqb-false, leb-true, ltb-true, ltb-false, lt-ltb, le-leb, ne_eqb}
use Rattle.mcode.specs.declared.Module.{Module}
use Rattle.mcode.specs.declared.Program.{Program}
use Rattle.mcode.specs.declared.Flow.{Flow}
use Rattle.mcode.specs.declared.Flow.TheVariants.{Fault, To}
use Rattle.mcode.specs.Word.{pick, and, or, word_of}
use Rattle.mcode.specs.Opcode.{lengths, takens, lefts}
use Rattle.mcode.specs.Image.{module_of, code_byte, proc_count, entry_of, params_of, results_of}
use Rattle.mcode.specs.Depths.{mark, Marked, Follows, Fits, mark_of, depth_of, is_mark, leaves, permits, names_module, takes_module, forward, back, target, calls, calls_in, onward, depth_flow, carry, flow_at, depths}
use Rattle.mcode.proofs.Every.{every, at}
use Rattle.mcode.proofs.Tests.{and_both, both-and, first-or, second-or}
use Rattle.mcode.proofs.Carried.{Like}

-- ---- which rows have operands

-- an opcode of a test has at least n bytes, if it is listed
abbrev needs : (ℕ → Bool) → ℕ → ℕ → ℕ → Bool
needs test n op size = or (not (test op)) (or (eqb size 0) (leb n size))

row-needs : (test : ℕ → Bool) (n : ℕ) → T (every (needs test n) 0 lengths) → (op : ℕ) → test op ≡ true → 1 ≤ get_or lengths op 0 → n ≤ get_or lengths op 0
unfolding lengths
row-needs test n t op e l = go (dec_lt op 256)
  where
    by_size : (x : ℕ) → 1 ≤ x → (a b : Bool) → eqb x 0 ≡ a → leb n x ≡ b → T (or a b) → n ≤ x
    by_size x l true b p q h = absurd (let z : ⊥ = omega (arith, l, eqb-true x 0 p) in z)
    by_size x l false true p q h = leb-true n x q
    by_size x l false false p q h = absurd h

    go : Dec (op < 256) → n ≤ get_or lengths op 0
    go (yes h) =
        let r = at (needs test n) lengths t op h in
        by_size (get_or lengths op 0) l (eqb (get_or lengths op 0) 0) (leb n (get_or lengths op 0)) refl refl (subst (λ (b : Bool). T (or (not b) (or (eqb (get_or lengths op 0) 0) (leb n (get_or lengths op 0))))) e r)
    go (no h) = absurd (let e : get_or lengths op 0 ≡ 0 = get_or-eq_default lengths 0 {n = op} (omega (arith, h)) in let z : ⊥ = omega (arith, e, l) in z)

abbrev is_jump : ℕ → Bool
is_jump op = and (leb 0o30 op) (ltb op 0o40)

abbrev is_far : ℕ → Bool
is_far op = and (leb 0o30 op) (ltb op 0o32)

abbrev is_near : ℕ → Bool
is_near op = and (leb 0o356 op) (leb op 0o360)

jump-needs : (op : ℕ) → is_jump op ≡ true → 1 ≤ get_or lengths op 0 → 2 ≤ get_or lengths op 0
unfolding lengths
jump-needs = row-needs is_jump 2 tt

far-needs : (op : ℕ) → is_far op ≡ true → 1 ≤ get_or lengths op 0 → 3 ≤ get_or lengths op 0
unfolding lengths
far-needs = row-needs is_far 3 tt

near-needs : (op : ℕ) → is_near op ≡ true → 1 ≤ get_or lengths op 0 → 2 ≤ get_or lengths op 0
unfolding lengths
near-needs = row-needs is_near 2 tt

pub module-needs : (op : ℕ) → takes_module op ≡ true → 1 ≤ get_or lengths op 0 → 3 ≤ get_or lengths op 0
unfolding lengths
module-needs = row-needs takes_module 3 tt

-- a jump, or an opcode above those, names none but 355
takes_none : (op : ℕ) → ((k : ℕ) → (k ≡ 0o27) ⊎ ((0o42 ≤ k) × (k ≤ 0o63)) → op ≡ k → ⊥) → (op ≡ 0o355 → ⊥) → takes_module op ≡ false
takes_none op a d =
    let above : (k : ℕ) → 0o42 ≤ k → k ≤ 0o63 → eqb op k ≡ false = λ k l h. ne_eqb op k (a k (inr (l, h))) in
    rw (
      ne_eqb op 0o27 (a 0o27 (inl refl)),
      above 0o42 (omega arith) (omega arith),
      above 0o62 (omega arith) (omega arith),
      above 0o43 (omega arith) (omega arith),
      above 0o63 (omega arith) (omega arith),
      ne_eqb op 0o355 d,
    ) refl

-- ---- modules found again

-- module m' of another image: the same length and the same procedures
pub record Alike (image : List ℕ) (m : Module) (image' : List ℕ) (m' : Module) : Type 0 where
  pub long : m'.length ≡ m.length
  pub procs : proc_count m' ≡ proc_count m
  pub entries : (i : ℕ) → i < proc_count m → entry_of image' m' i ≡ entry_of image m i
  pub params : (i : ℕ) → i < proc_count m → params_of image' m' i ≡ params_of image m i
  pub results : (i : ℕ) → i < proc_count m → results_of image' m' i ≡ results_of image m i

-- all modules; module k is now module `to k`
pub record AllAlike (image : List ℕ) (program : Program) (image' : List ℕ) (program' : Program) (to : ℕ → ℕ) : Type 0 where
  pub counted : (k : ℕ) → k < program.count → to k < program'.count
  pub modules : (k : ℕ) → k < program.count → Alike image (module_of program k) image' (module_of program' (to k))

-- the instruction at p: the same opcode and operands, but for a module operand, which names the module as it is now numbered
pub record Copied (image : List ℕ) (m : Module) (image' : List ℕ) (m' : Module) (to : ℕ → ℕ) (p : ℕ) : Type 0 where
  pub op : code_byte image' m' p ≡ code_byte image m p
  pub first : 2 ≤ get_or lengths (code_byte image m p) 0 → code_byte image' m' (p + 1) ≡ pick (takes_module (code_byte image m p)) (to (code_byte image m (p + 1))) (code_byte image m (p + 1))
  pub second : 3 ≤ get_or lengths (code_byte image m p) 0 → code_byte image' m' (p + 2) ≡ code_byte image m (p + 2)

-- a test that was passed
passes : (t : Bool) (f : Flow) → (pick t Fault f ≡ Fault → ⊥) → (t ≡ false) × (f ≡ Fault → ⊥)
passes true f n = absurd (n refl)
passes false f n = (refl, n)

meets : (t : Bool) (f : Flow) → (pick t f Fault ≡ Fault → ⊥) → (t ≡ true) × (f ≡ Fault → ⊥)
meets true f n = (refl, n)
meets false f n = absurd (n refl)

-- two choices by one test, each the same where it is no fault
either : (t : Bool) {f f' g g' : Flow} → (t ≡ true → (f ≡ Fault → ⊥) → f' ≡ f) → (t ≡ false → (g ≡ Fault → ⊥) → g' ≡ g) → (pick t f g ≡ Fault → ⊥) → pick t f' g' ≡ pick t f g
either true x y h = x refl h
either false x y h = y refl h

module _ (image : List ℕ) (program : Program) (image' : List ℕ) (program' : Program) (to : ℕ → ℕ) (M : AllAlike image program image' program' to) where
  calls_same : (m m' : Module) → Alike image m image' m' → (i n e : ℕ) → (calls image m i n e ≡ Fault → ⊥) → calls image' m' i n e ≡ calls image m i n e
  unfolding calls
  calls_same m m' A i n e h =
      let (t, h₁) = meets (ltb i (proc_count m)) _ h in
      let l = ltb-true i (proc_count m) t in
      rw (A.procs, t, A.params i l, A.results i l) refl

  calls-in-same : (k i n e : ℕ) → (calls_in image program k i n e ≡ Fault → ⊥) → calls_in image' program' (to k) i n e ≡ calls_in image program k i n e
  unfolding calls_in
  calls-in-same k i n e h =
      let (t, h₁) = meets (ltb k program.count) _ h in
      let l = ltb-true k program.count t in
      let l' = M.counted k l in
      rw (t, lt-ltb (to k) program'.count l') (calls_same (module_of program k) (module_of program' (to k)) (M.modules k l) i n e h₁)

  names_same : (b n e : ℕ) → (pick (ltb b program.count) (To n e) Fault ≡ Fault → ⊥) → pick (ltb (to b) program'.count) (To n e) Fault ≡ pick (ltb b program.count) (To n e) Fault
  names_same b n e h =
      let (t, h₁) = meets (ltb b program.count) _ h in
      let l = ltb-true b program.count t in
      let l' = M.counted b l in
      rw (t, lt-ltb (to b) program'.count l') refl

  target-same : (op s b c b' c' : ℕ) → b' ≡ b → (ltb op 0o32 ≡ true → c' ≡ c) → target op s b' c' ≡ target op s b c
  unfolding target
  target-same op s b c b' c' e f = rw e (go (ltb op 0o32) f)
    where
      go : (t : Bool) → (t ≡ true → c' ≡ c)
          → pick t (forward s (word_of b c')) (pick (or (eqb op 0o34) (eqb op 0o35)) (back s b) (forward s b)) ≡ pick t (forward s (word_of b c)) (pick (or (eqb op 0o34) (eqb op 0o35)) (back s b) (forward s b))
      go true f = rw (f refl) refl
      go false f = refl

  module _ (m m' : Module) (A : Alike image m image' m') (p op b c b' c' n e : ℕ)
      (some : 1 ≤ get_or lengths op 0)
      (first : 2 ≤ get_or lengths op 0 → b' ≡ pick (takes_module op) (to b) b)
      (second : 3 ≤ get_or lengths op 0 → c' ≡ c) where
    kept-first : 2 ≤ get_or lengths op 0 → takes_module op ≡ false → b' ≡ b
    kept-first l t = first l ∙ rw t refl

    moved-first : 2 ≤ get_or lengths op 0 → takes_module op ≡ true → b' ≡ to b
    moved-first l t = first l ∙ rw t refl

    two : takes_module op ≡ true → 2 ≤ get_or lengths op 0
    two t = omega (arith, module-needs op t some)

    near_first : eqb op 0o355 ≡ false → 0o355 ≤ op → leb op 0o360 ≡ true → b' ≡ b
    near_first r l q =
        let ne = eqb-false op 0o355 r in
        let t : is_near op ≡ true = both-and (leb 0o356 op) (leb op 0o360) (le-leb 0o356 op (omega (arith, l, ne))) q in
        kept-first (near-needs op t some) (takes_none op (λ k x z. ⊎_elim (λ y. omega (arith, z, l, y)) (λ y. omega (arith, z, l, y.1)) x) ne)

    jump-first : is_jump op ≡ true → b' ≡ b
    jump-first t =
        let (l, h) = and_both (leb 0o30 op) (ltb op 0o40) t in
        let l' = leb-true 0o30 op l in
        let h' = ltb-true op 0o40 h in
        kept-first (jump-needs op t some) (takes_none op (λ k x z. ⊎_elim (λ y. omega (arith, z, l', y)) (λ y. omega (arith, z, h', y.0)) x) (λ z. omega (arith, z, h')))

    jump-second : is_jump op ≡ true → ltb op 0o32 ≡ true → c' ≡ c
    jump-second t f = second (far-needs op (both-and (leb 0o30 op) (ltb op 0o32) (and_both (leb 0o30 op) (ltb op 0o40) t).0 f) some)

    onward-same : (onward image program m p op b c n e ≡ Fault → ⊥) → onward image' program' m' p op b' c' n e ≡ onward image program m p op b c n e
    unfolding onward
    onward-same =
        either (or (eqb op 0o304) (eqb op 0o354)) (λ q h. refl) (λ q₁.
        either (is_jump op) (λ q h. rw (target-same op (p + 1) b c b' c' (jump-first q) (jump-second q)) refl) (λ q₂.
        either (names_module op) (λ q h. let t = first-or (names_module op) (eqb op 0o355) q in rw (moved-first (two t) t) (names_same b n e h)) (λ q₃.
        either (ltb op 0o355) (λ q h. refl) (λ q₄.
        either (eqb op 0o355) (λ q h. let t = second-or (names_module op) (eqb op 0o355) q in rw (moved-first (two t) t, second (module-needs op t some)) (calls-in-same b c n e h)) (λ q₅.
        either (leb op 0o360) (λ q h. rw (near_first q₅ (ltb-false op 0o355 q₄) q) (calls_same m m' A b n e h))
        (λ q h. calls_same m m' A (op - 0o360) n e h))))))

  -- the flow at a position where the rules are kept, of depths and of marks
  module _ (m m' : Module) (A : Alike image m image' m') (p : ℕ)
      (copied : p + get_or lengths (code_byte image m p) 0 ≤ m.length → 1 ≤ get_or lengths (code_byte image m p) 0 → Copied image m image' m' to p) where
    depth-flow-same : (d : ℕ) → (depth_flow image program m p d ≡ Fault → ⊥)
        → (code_byte image' m' p ≡ code_byte image m p) × (depth_flow image' program' m' p d ≡ depth_flow image program m p d)
    unfolding depth_flow
    depth-flow-same d h =
        let op = code_byte image m p in
        let size = get_or lengths op 0 in
        let (t₁, h₁) = passes (eqb size 0) _ h in
        let (t₂, h₂) = passes (ltb m.length (p + size)) _ h₁ in
        let (t₃, h₃) = passes (ltb d (get_or takens op 0)) _ h₂ in
        let (t₄, h₄) = passes (ltb 16 (d - get_or takens op 0 + get_or lefts op 0)) _ h₃ in
        let some : 1 ≤ size = omega (arith, eqb-false size 0 t₁) in
        let C = copied (ltb-false m.length (p + size) t₂) some in
        let t₂' : ltb m'.length (p + size) ≡ false = ap (λ (l : ℕ). ltb l (p + size)) A.long ∙ t₂ in (
          C.op,
          rw (C.op, t₁, t₂', t₂, t₃, t₄)
              (onward-same m m' A p op (code_byte image m (p + 1)) (code_byte image m (p + 2)) (code_byte image' m' (p + 1)) (code_byte image' m' (p + 2)) (p + size) (d - get_or takens op 0 + get_or lefts op 0) some C.first C.second h₄),
        )

    pub flow-same : (k : ℕ) → (flow_at image program m p k ≡ Fault → ⊥) → flow_at image' program' m' p k ≡ flow_at image program m p k
    unfolding flow_at
    flow-same k h =
        let op = code_byte image m p in
        let (t₁, h₁) = meets (is_mark k) _ h in
        let (t₂, h₂) = meets (permits k op) _ h₁ in
        let (q, e) = depth-flow-same (depth_of k) (λ z. h₂ (ap (carry (leaves k op)) z)) in
        rw (q, t₁, t₂, e) refl

  -- an assignment that fits module k fits it where it moved to, if the instructions that it marks were copied
  pub depths-like : (k : ℕ) → k < program.count → (marks : List ℕ) → Fits (depths image program (module_of program k)) marks
      → ((p : ℕ) → Marked (depths image program (module_of program k)) marks p → p + get_or lengths (code_byte image (module_of program k) p) 0 ≤ (module_of program k).length
      → 1 ≤ get_or lengths (code_byte image (module_of program k) p) 0 → Copied image (module_of program k) image' (module_of program' (to k)) to p)
      → Like (depths image program (module_of program k)) (depths image' program' (module_of program' (to k))) marks
  depths-like k l marks F copied =
      let m = module_of program k in
      let m' = module_of program' (to k) in
      let A = M.modules k l in
      record {
        size = A.long;
        none = refl;
        entries = A.procs;
        entry_at = A.entries;
        entry_mark = λ i h. ap₂ (λ (x y : ℕ). mark_of x y 0 0) (A.params i h) (A.results i h);
        flow = λ p h. flow-same m m' A p (copied p h) (mark (depths image program m) marks p) (λ z. subst (Follows (depths image program m) marks) z (F.follows p h));
      }
