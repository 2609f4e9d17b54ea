-- The marks that the rules ask are depths, and so never the number that means unmarked.
use Rattle.std.proofs.Common.{◌≡◌, ℕ, ◌+◌, ◌-◌, ◌<◌, ◌≤◌, Bool, true, false, eqb, ltb, leb, List, length, get_or, set, refl, ap, ◌∙◌, inl, inr, arith, length-set, get_or-set_other, get_or-set_same, ltb-false, ltb-true, Some}
use native.Mathlib.Decide.{ℕ_discrete, dec_lt}
use lib.ListN.{get_or-eq_default}
use Rattle.mcode.specs.declared.Flow.{Flow}
use Rattle.mcode.specs.declared.Flow.TheVariants.{Fault, Ends, To, Fork}
use Rattle.mcode.specs.declared.Module.{Module}
use Rattle.mcode.specs.declared.Program.{Program}
use Rattle.mcode.specs.Word.{pick, and, or}
use Rattle.mcode.specs.Opcode.{lengths, takens, lefts}
use Rattle.mcode.specs.Image.{module_of, code_byte, proc_count, params_of, results_of}
use Rattle.mcode.specs.Depths.{unmarked, mark_of, depth_of, is_mark, leaves, permits, depth_flow, carry, flow_at, onward, jumps, calls, calls_in, names_module, target}
use Rattle.mcode.proofs.Marks.{entry-mark, mark-real, leaves-mark}
use Rattle.depths.specs.declared.code.Rules.{Rules}
use Rattle.depths.specs.Queue.{AllMarks, Visited}
use Rattle.depths.proofs.Theory.{Real}

-- the depths that a flow asks are at most 16
abbrev Shallow : Flow → Type 0
Shallow Fault = Unit {0}
Shallow Ends = Unit {0}
Shallow (To q d) = d ≤ 16
Shallow (Fork q d r e) = (d ≤ 16) × (e ≤ 16)

-- the marks that a flow asks are encodings
abbrev pub Packed : Flow → Type 0
Packed Fault = Unit {0}
Packed Ends = Unit {0}
Packed (To q d) = is_mark d ≡ true
Packed (Fork q d r e) = (is_mark d ≡ true) × (is_mark e ≡ true)

packed-carry : (k op : ℕ) → is_mark k ≡ true → permits k op ≡ true → (f : Flow) → Shallow f → Packed (carry (leaves k op) f)
packed-carry k op t h Fault s = tt
packed-carry k op t h Ends s = tt
packed-carry k op t h (To q d) s = leaves-mark k op d t h s
packed-carry k op t h (Fork q d r e) s = (leaves-mark k op d t h s.0, leaves-mark k op e t h s.1)

-- and so none is the number of an unmarked position
packed-real : (f : Flow) → Packed f → Real unmarked f
packed-real Fault s = tt
packed-real Ends s = tt
packed-real (To q d) s = mark-real d s
packed-real (Fork q d r e) s = (mark-real d s.0, mark-real e s.1)

-- a map of encodings stays one where one is put, or a visit goes on
set-marks : (m : List ℕ) (q d : ℕ) → is_mark d ≡ true → AllMarks m → AllMarks (set m q d)
set-marks m q d t M p n = go (ℕ_discrete p q) (dec_lt q (length m))
  where
    go : Dec (p ≡ q) → Dec (q < length m) → is_mark (get_or (set m q d) p unmarked) ≡ true
    go (yes e) (yes l) = rw e (ap is_mark (get_or-set_same m q d unmarked l) ∙ t)
    go (yes e) (no l) = absurd (n (rw e (get_or-eq_default (set m q d) unmarked (omega (arith, length-set m q d)))))
    go (no e) l = let s = get_or-set_other m q p d unmarked e in ap is_mark s ∙ M p (λ z. n (s ∙ z))

pub visited-marks : (m w : List ℕ) (t q d t' : ℕ) (m' w' : List ℕ) → Visited unmarked m w t q d (Some t') m' w' → is_mark d ≡ true → AllMarks m → AllMarks m'
visited-marks m w t q d t' m' w' (l, inl (e, s, _, _)) h M = rw s (set-marks m q d h M)
visited-marks m w t q d t' m' w' (l, inr (e, s, _, _)) h M = rw s M

test : (b : Bool) (f g : Flow) → (b ≡ true → Shallow f) → (b ≡ false → Shallow g) → Shallow (pick b f g)
test true f g x y = x refl
test false f g x y = y refl

shallow-jumps : (op t n e : ℕ) → e ≤ 16 → Shallow (jumps op t n e)
unfolding jumps
shallow-jumps op t n e l =
    test (leb 0o36 op) (Fork t e n (e - 1)) _ (λ z. omega arith)
    (λ z. test (or (eqb op 0o31) (or (eqb op 0o33) (eqb op 0o35))) (To t e) (Fork t e n e) (λ z. omega arith) (λ z. omega arith))

shallow-calls : (image : List ℕ) (m : Module) → ((i : ℕ) → i < proc_count m → results_of image m i ≤ 4) → (i n e : ℕ) → Shallow (calls image m i n e)
unfolding calls
shallow-calls image m R i n e =
    test (ltb i (proc_count m)) _ Fault
    (λ z. test (eqb e (params_of image m i)) (To n (results_of image m i)) Fault (λ y. omega (arith, R i (ltb-true i (proc_count m) z))) (λ y. tt))
    (λ z. tt)

module _ (r : Rules) where
  abbrev image : List ℕ
  image = r.code.image.now

  abbrev program : Program
  program = r.program.now

  abbrev m : Module
  m = r.code.m

  shallow-calls-in : (k i n e : ℕ) → Shallow (calls_in image program k i n e)
  unfolding calls_in
  shallow-calls-in k i n e =
      test (ltb k program.count) (calls image (module_of program k) i n e) Fault
      (λ z. shallow-calls image (module_of program k) (r.placed.results k (ltb-true k program.count z)) i n e)
      (λ z. tt)

  shallow-onward : (p op b c n e : ℕ) → e ≤ 16 → Shallow (onward image program m p op b c n e)
  unfolding onward
  shallow-onward p op b c n e l =
      test (or (eqb op 0o304) (eqb op 0o354)) Ends _ (λ z. tt)
      (λ z. test (and (leb 0o30 op) (ltb op 0o40)) (jumps op (target op (p + 1) b c) n e) _ (λ z. shallow-jumps op (target op (p + 1) b c) n e l)
      (λ z. test (names_module op) (pick (ltb b program.count) (To n e) Fault) _ (λ z. test (ltb b program.count) (To n e) Fault (λ z. omega arith) (λ z. tt))
      (λ z. test (ltb op 0o355) (To n e) _ (λ z. omega arith)
      (λ z. test (eqb op 0o355) (calls_in image program b c n e) _ (λ z. shallow-calls-in b c n e)
      (λ z. test (leb op 0o360) (calls image m b n e) (calls image m (op - 0o360) n e) (λ z. shallow-calls image m r.code.sound.results b n e)
      (λ z. shallow-calls image m r.code.sound.results (op - 0o360) n e))))))

  shallow-flow : (p d : ℕ) → Shallow (depth_flow image program m p d)
  unfolding depth_flow
  shallow-flow p d =
      let op = code_byte image m p in
      let size = get_or lengths op 0 in
      let taken = get_or takens op 0 in
      let e = d - taken + get_or lefts op 0 in
      test (eqb size 0) _ _ (λ z. tt)
      (λ z. test (ltb m.length (p + size)) _ _ (λ z. tt)
      (λ z. test (ltb d taken) _ _ (λ z. tt)
      (λ z. test (ltb 16 e) _ _ (λ z. tt)
      (λ z. shallow-onward p op (code_byte image m (p + 1)) (code_byte image m (p + 2)) (p + size) e (ltb-false 16 e z)))))

  pub packed-flow : (p k : ℕ) → Packed (flow_at image program m p k)
  unfolding flow_at
  packed-flow p k = go (is_mark k) refl (permits k (code_byte image m p)) refl
    where
      go : (u : Bool) → is_mark k ≡ u → (v : Bool) → permits k (code_byte image m p) ≡ v
          → Packed (pick u (pick v (carry (leaves k (code_byte image m p)) (depth_flow image program m p (depth_of k))) Fault) Fault)
      go true t true h = packed-carry k (code_byte image m p) t h (depth_flow image program m p (depth_of k)) (shallow-flow p (depth_of k))
      go true t false h = tt
      go false t v h = tt

  pub real-flow : (p k : ℕ) → Real unmarked (flow_at image program m p k)
  real-flow p k = packed-real (flow_at image program m p k) (packed-flow p k)

  pub packed-entry : (k : ℕ) → k < proc_count m → is_mark (mark_of (params_of image m k) (results_of image m k) 0 0) ≡ true
  packed-entry k l = entry-mark (params_of image m k) (results_of image m k) (r.code.sound.params k l) (r.code.sound.results k l)

  pub real-entry : (k : ℕ) → k < proc_count m → mark_of (params_of image m k) (results_of image m k) 0 0 ≡ unmarked → ⊥
  real-entry k l = mark-real (mark_of (params_of image m k) (results_of image m k) 0 0) (packed-entry k l)
