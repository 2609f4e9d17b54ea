-- One turn of the search: the position at h leaves the queue with its successors marked and the next turn is known, or no assignment fits.
use Rattle.std.proofs.Common.{◌≡◌, ℕ, ◌+◌, ◌<◌, ◌≤◌, true, List, length, get_or, sym, ◌∙◌, subst, arith, Option, Some, None}
use Rattle.mcode.specs.declared.Flow.{Flow}
use Rattle.mcode.specs.declared.Flow.TheVariants.{Fault, Ends, To, Fork}
use Rattle.mcode.specs.Depths.{unmarked as none, is_mark, Analysis, mark, NoneFits}
use Rattle.depths.specs.Lent.{depths_of}
use Rattle.depths.specs.declared.code.Rules.{Rules}
use Rattle.depths.specs.declared.Turn.{Turn}
use Rattle.depths.specs.Queue.{AllMarks, Queue, Visited, Stepped}
use Rattle.depths.proofs.Theory.{Real, Moved, in-queue, headed, queued, turn-fault, turn-ends, turn-to, turn-fork-clash, turn-fork-first, turn-fork}
use Rattle.depths.proofs.Marks.{Packed, packed-flow, real-flow, visited-marks}
use Rattle.depths.proofs.expand.Goals as goal

-- a turn: what it is lent, and the flow of the position that leaves the queue
record Here (r : Rules) (map work : List ℕ) (turn : Turn) (h : ℕ) (flow : Flow) : Type 0 where
  lt : h < turn.tail
  packed : Packed flow
  flow-is : (depths_of r).flow (get_or work h 0) (mark (depths_of r) map (get_or work h 0)) ≡ flow
  all : AllMarks map
  queue : Queue (depths_of r) map work h turn.tail

here : {r : Rules} {map work : List ℕ} {turn : Turn} {h : ℕ} {flow : Flow}
    → (h < turn.tail) × (get_or work h 0 ≡ turn.position) × (get_or map turn.position none ≡ turn.found) × AllMarks map
    → Queue (depths_of r) map work h turn.tail
    → flow ≡ (depths_of r).flow turn.position turn.found
    → Here r map work turn h flow
here {r} {turn} (l, at, marked, all) Q found = record {
  lt = l;
  packed = subst Packed (sym found) (packed-flow r turn.position turn.found);
  flow-is = rw (at, marked) (sym found);
  all = all;
  queue = Q;
}

-- the laws of a turn, from here
module _ (r : Rules) {map work : List ℕ} {turn : Turn} {h : ℕ} {flow : Flow} (w : Here r map work turn h flow) where
  abbrev A : Analysis
  A = depths_of r

  abbrev t : ℕ
  t = turn.tail

  abbrev real : (p d : ℕ) → Real none (A.flow p d)
  real = real-flow r

  to-marks : {q e : ℕ} → flow ≡ To q e → (t' : ℕ) (m' w' : List ℕ) → Visited none map work t q e (Some t') m' w' → AllMarks m'
  to-marks f t' m' w' D = visited-marks map work t _ _ t' m' w' D (subst Packed f w.packed) w.all

  fork-marks : {q e r g : ℕ} → flow ≡ Fork q e r g → (s : ℕ) (m₁ w₁ : List ℕ) → Visited none map work t q e (Some s) m₁ w₁
      → (t' : ℕ) (m' w' : List ℕ) → Visited none m₁ w₁ s r g (Some t') m' w' → AllMarks m'
  fork-marks f s m₁ w₁ D t' m' w' E =
      let (x, y) = subst Packed f w.packed in
      visited-marks m₁ w₁ s _ _ t' m' w' E y (visited-marks map work t _ _ s m₁ w₁ D x w.all)

  fault : flow ≡ Fault → NoneFits A
  fault f = turn-fault A real map work h t w.queue w.lt (w.flow-is ∙ f)

  ends : flow ≡ Ends → Stepped A (h + 1) map (Some t) map work
  ends f = turn-ends A real map work h t w.queue w.lt (w.flow-is ∙ f)

  to : {q e : ℕ} → flow ≡ To q e → (v : Option ℕ) (m' w' : List ℕ) → Visited none map work t q e v m' w' → Stepped A (h + 1) map v m' w'
  to f = turn-to A real map work h t w.queue w.lt _ _ (w.flow-is ∙ f)

  fork-clash : {q e r g : ℕ} → flow ≡ Fork q e r g → (m' w' : List ℕ) → Visited none map work t q e None m' w' → NoneFits A
  fork-clash f = turn-fork-clash A real map work h t w.queue w.lt _ _ _ _ (w.flow-is ∙ f)

  fork-first : {q e r g : ℕ} → flow ≡ Fork q e r g → (s : ℕ) (m₁ w₁ : List ℕ) → Visited none map work t q e (Some s) m₁ w₁ → Moved A map work h t m₁ w₁ s
  fork-first f s m₁ w₁ D = (turn-fork-first A real map work h t w.queue w.lt _ _ _ _ (w.flow-is ∙ f) s m₁ w₁ D).0

  fork : {q e r g : ℕ} → flow ≡ Fork q e r g → (s : ℕ) (m₁ w₁ : List ℕ) → Visited none map work t q e (Some s) m₁ w₁
      → (v : Option ℕ) (m' w' : List ℕ) → Visited none m₁ w₁ s r g v m' w' → Stepped A (h + 1) map v m' w'
  fork f = turn-fork A real map work h t w.queue w.lt _ _ _ _ (w.flow-is ∙ f)

  -- the only successor is the next position, where no other one waits
  next : {q e : ℕ} → flow ≡ To q e → (s : ℕ) (m' w' : List ℕ) → Visited none map work t q e (Some s) m' w' → length w' ≡ length work → t ≤ h + 1
      → h + 1 < s → (get_or w' (h + 1) 0 ≡ q) × (mark A m' q ≡ e)
  next {q} {e} f s m' w' D same n l =
      let S = to f (Some s) m' w' D in
      let x : t ≡ h + 1 = omega (arith, w.lt) in
      subst (λ (k : ℕ). (get_or w' k 0 ≡ q) × (mark A m' q ≡ e)) x (queued A map work t q e s m' w' D (omega (arith, S.0.room)) (omega arith))

pub flow_at-f-requires : goal.flow_at-f-requires
flow_at-f-requires c =
    let (lt, at, marked, all) = c.requires.waits in
    let Q = c.requires.queue in
    let l = (in-queue (depths_of c.args.rules.now) c.args.map.now c.args.work.now c.args.h c.args.turn.tail Q lt).1 in (
      omega (arith, l, at, Q.sized),
      subst (λ (k : ℕ). is_mark k ≡ true) marked (all c.args.turn.position (subst (λ (p : ℕ). get_or c.args.map.now p none ≡ none → ⊥) at (Q.marked c.args.h lt))),
    )

pub head-requires : goal.head-requires
head-requires c =
    let z = here {r = c.args.rules.now} c.requires.waits c.requires.queue c.flow_at-f.ensures in
    in-queue _ _ _ _ _ (ends c.args.rules.now z c.in-Ends.is).0

pub head-requires-then-h-t : goal.head-requires-then-h-t
head-requires-then-h-t c =
    let z = here {r = c.args.rules.now} c.requires.waits c.requires.queue c.flow_at-f.ensures in
    let v = c.in_ok-s-in-To in
    let e = c.enqueue in
    in-queue _ _ _ _ _ (to c.args.rules.now z c.in-To.is (Some v.s) e.new.map e.new.work (rw v.was at e.ensures)).0

pub head-requires-in-Fork : goal.head-requires-in-Fork
head-requires-in-Fork c =
    let z = here {r = c.args.rules.now} c.requires.waits c.requires.queue c.flow_at-f.ensures in
    let v = c.in_ok-s-in-Fork in
    let w = c.in_ok-u-in-Fork in
    let d = c.enqueue-in-Fork in
    let e = c.enqueue-in-Fork-2 in
    in-queue _ _ _ _ _ (fork c.args.rules.now z c.in-Fork.is v.s d.new.map d.new.work (rw v.was at d.ensures) (Some w.u) e.new.map e.new.work (rw w.was at e.ensures)).0

pub enqueue-requires-in-Fork-2-clause-map_in_bounds : goal.enqueue-requires-in-Fork-2-clause-map_in_bounds
enqueue-requires-in-Fork-2-clause-map_in_bounds c =
    let z = here {r = c.args.rules.now} c.requires.waits c.requires.queue c.flow_at-f.ensures in
    let v = c.in_ok-s-in-Fork in
    let d = c.enqueue-in-Fork in
    (fork-first c.args.rules.now z c.in-Fork.is v.s d.new.map d.new.work (rw v.was at d.ensures)).queue.room

pub returns-in-Fault : goal.returns-in-Fault
returns-in-Fault c =
    let z = here {r = c.args.rules.now} c.requires.waits c.requires.queue c.flow_at-f.ensures in
    (fault c.args.rules.now z c.in-Fault.is, tt)

pub returns-in_err-s-in-To : goal.returns-in_err-s-in-To
returns-in_err-s-in-To c =
    let z = here {r = c.args.rules.now} c.requires.waits c.requires.queue c.flow_at-f.ensures in
    let e = c.enqueue in
    rw c.from_residual.ensures (to c.args.rules.now z c.in-To.is None e.new.map e.new.work (rw c.in_err-s-in-To.was at e.ensures), tt)

pub returns-then-h-t : goal.returns-then-h-t
returns-then-h-t c =
    let z = here {r = c.args.rules.now} c.requires.waits c.requires.queue c.flow_at-f.ensures in
    let v = c.in_ok-s-in-To in
    let e = c.enqueue in
    let D = rw v.was at e.ensures in (
      headed _ _ _ _ _ _ (to c.args.rules.now z c.in-To.is (Some v.s) e.new.map e.new.work D) c.head-then-h-t.result c.head-then-h-t.ensures,
      to-marks c.args.rules.now z c.in-To.is v.s e.new.map e.new.work D,
    )

pub returns-else-h-t : goal.returns-else-h-t
returns-else-h-t c =
    let z = here {r = c.args.rules.now} c.requires.waits c.requires.queue c.flow_at-f.ensures in
    let v = c.in_ok-s-in-To in
    let e = c.enqueue in
    let D = rw v.was at e.ensures in
    let S = to c.args.rules.now z c.in-To.is (Some v.s) e.new.map e.new.work D in
    ((S.0, S.1, next c.args.rules.now z c.in-To.is v.s e.new.map e.new.work D e.auto.work c.if-h-t.false), to-marks c.args.rules.now z c.in-To.is v.s e.new.map e.new.work D)

pub returns-in_err-s-in-Fork : goal.returns-in_err-s-in-Fork
returns-in_err-s-in-Fork c =
    let z = here {r = c.args.rules.now} c.requires.waits c.requires.queue c.flow_at-f.ensures in
    let d = c.enqueue-in-Fork in
    rw c.from_residual-in_err-s-in-Fork.ensures (fork-clash c.args.rules.now z c.in-Fork.is d.new.map d.new.work (rw c.in_err-s-in-Fork.was at d.ensures), tt)

pub returns-in_err-u-in-Fork : goal.returns-in_err-u-in-Fork
returns-in_err-u-in-Fork c =
    let z = here {r = c.args.rules.now} c.requires.waits c.requires.queue c.flow_at-f.ensures in
    let v = c.in_ok-s-in-Fork in
    let d = c.enqueue-in-Fork in
    let e = c.enqueue-in-Fork-2 in
    rw c.from_residual-in_err-u-in-Fork.ensures
    (fork c.args.rules.now z c.in-Fork.is v.s d.new.map d.new.work (rw v.was at d.ensures) None e.new.map e.new.work (rw c.in_err-u-in-Fork.was at e.ensures), tt)

pub returns-in_ok-u-in-Fork : goal.returns-in_ok-u-in-Fork
returns-in_ok-u-in-Fork c =
    let z = here {r = c.args.rules.now} c.requires.waits c.requires.queue c.flow_at-f.ensures in
    let v = c.in_ok-s-in-Fork in
    let w = c.in_ok-u-in-Fork in
    let d = c.enqueue-in-Fork in
    let e = c.enqueue-in-Fork-2 in
    let D = rw v.was at d.ensures in
    let E = rw w.was at e.ensures in (
      headed _ _ _ _ _ _ (fork c.args.rules.now z c.in-Fork.is v.s d.new.map d.new.work D (Some w.u) e.new.map e.new.work E) c.head-in-Fork.result c.head-in-Fork.ensures,
      fork-marks c.args.rules.now z c.in-Fork.is v.s d.new.map d.new.work D w.u e.new.map e.new.work E,
    )
