-- An instruction has the right outcome: by cases on the action. Assumes nothing.
use mathlib.Core.Path.{◌≡◌, refl, ap, ap₂, subst, sym, ◌∙◌}
use mathlib.Core.Bool.{Bool, true, false}
use Prim.Native.Nat.{ℕ, ◌+◌, ◌-◌, ◌≤◌, ◌<◌}
use native.Mathlib.Omega.{arith}
use lib.ListN.{get_or, set, length-set}
use lib.Dec.{ltb, eqb, leb→le, T}
use borrow.Author.Tests.{ltb-false, eqb-true}
use Rattle.mcode.specs.declared.Position.{Position}
use Rattle.mcode.specs.declared.Stop.{Stop}
use Rattle.mcode.specs.Decode.{Action, Put, AddTop, Jump, JumpZero, OrJump, AndJump, Load, LoadTop, LoadIndexed, Store, StoreBelow, StoreIndexed, LoadByte, StoreByte, One, Two, Three, Copy, Nothing, Read, Write, Trap, Enter, Follow, Call, CallLinked, CallExternal, Return, Transfer, PutPair, LoadPair, LoadPairTop, StorePair, StorePairBelow, Double, Save, Fetch}
use Rattle.mcode.specs.Opcode.{lengths, takens, lefts}
use Rattle.mcode.specs.Image.{module_of, bases_of}
use Rattle.mcode.specs.Depths.{Follows, front_of, stored, fetched, leaves, permits, depths, carry, marks_of}
use Rattle.mcode.specs.declared.Flow.{Flow}
use Rattle.mcode.specs.declared.Flow.TheVariants.{Fault as NoFlow, Ends, To, Fork}
use Rattle.mcode.specs.Machine.{State, go, halt, position, machine, at, framed, top, second, take1, take2, put, replace1, replace2, replace3, put_pair, pair_for1}
use Rattle.mcode.specs.Decode.{Decoded, sized, row11, decode_of}
use Rattle.mcode.specs.Step.{perform_of, instruction_of}
use Rattle.mcode.proofs.Rows.{listed_below, taken_by, left_by, own_op, size-row, taken-row, left-row, own_row}
use Rattle.mcode.proofs.Marks.{depth-stored, depth-fetched, promised-stored, promised-fetched, store-permitted, fetch-permitted, leaves-stored, leaves-fetched, leaves-passed}
use Rattle.mcode.proofs.FlowRows.{flow_of, flow-row}
use Rattle.mcode.proofs.Faults.{Found, one-real, two-real, three-real, followed-real}
use Rattle.mcode.proofs.Shapes.{Here, P, R, D, M, U, Op, opcode, Mark, rules, Asks, Ok, same-stack, link-off, mark-at, mark-stays, next-at, next-stays, on_fine, take1-fine, take2-fine, take3-fine, put-fine, replace1-fine, replace2-fine, replace3-fine, framed-counts, pair-fine, pair1-fine, pair4-fine}
use Rattle.mcode.proofs.Right.{Did, Leads, Right, off, falls-or, falls-and, to, to-all, by-test, to-either, reads, writes, computes, reads-pair, writes-pair, Says, says}
use Rattle.mcode.proofs.Frames.{call-right, return-right, transfer-right, save-right, fetch-right, callee, in-other}

module _ (H : Here) where
  -- an action but those of 262 and 260, whose flow its row asks for, at the depth that its row says
  perform-right : (q : Position) (a : Action) → T (own_op (opcode H) a) → eqb (opcode H) 0o262 ≡ false → eqb (opcode H) 0o260 ≡ false → taken_by a ≤ D H → D H - taken_by a + left_by a ≤ 16
      → Asks H (flow_of H.lent.image (P H) (module_of (P H) (R H).unit) q.0 (D H - taken_by a + left_by a) a) → Right H q a (perform_of H.lent a q H.x)
  unfolding perform_of
  perform-right q (Put v) o n₁ n₂ t h f = to H q _ (put-fine H 0 1 q v (omega arith) h f)
  perform-right q (AddTop b) o n₁ n₂ t h f = to H q _ (replace1-fine H q _ t h f)
  perform-right q (Jump u) o n₁ n₂ t h f = to H q _ (on_fine H u h f)
  perform-right q (JumpZero u) o n₁ n₂ t h f = to-either H q (eqb (top (M H)) 0) (take1 u (M H)) (take1 q (M H)) (to H q _ (take1-fine H u h f.0)) (to H q _ (take1-fine H q h f.1))
  perform-right q (OrJump u) o n₁ n₂ t h f = to-either H q (eqb (top (M H)) 0) (take1 q (M H)) (replace1 u (M H) 1) (falls-or H q u h f.1) (to H q _ (replace1-fine H u 1 t h f.0))
  perform-right q (AndJump u) o n₁ n₂ t h f = to-either H q (eqb (top (M H)) 0) (replace1 u (M H) 0) (take1 q (M H)) (to H q _ (replace1-fine H u 0 t h f.0)) (falls-and H q u h f.1)
  perform-right q (Load a) o n₁ n₂ t h f = reads H q a.0 _ (put-fine H 0 1 q _ (omega arith) h f)
  perform-right q (LoadTop k) o n₁ n₂ t h f = reads H q _ _ (replace1-fine H q _ t h f)
  perform-right q LoadIndexed o n₁ n₂ t h f = reads H q _ _ (replace2-fine H q _ t h f)
  perform-right q (Store a) o n₁ n₂ t h f = writes H q a.0 _ _ (take1-fine H q h f)
  perform-right q (StoreBelow k) o n₁ n₂ t h f = writes H q _ _ _ (take2-fine H q h f)
  perform-right q StoreIndexed o n₁ n₂ t h f = writes H q _ _ _ (take3-fine H q h f)
  perform-right q LoadByte o n₁ n₂ t h f = reads H q _ _ (replace2-fine H q _ t h f)
  perform-right q StoreByte o n₁ n₂ t h f = writes H q _ _ _ (take3-fine H q h f)
  perform-right q (One op) o n₁ n₂ t h f = computes H q (replace1 q (M H)) (one-real op _) (λ v. replace1-fine H q v t h f)
  perform-right q (Two op) o n₁ n₂ t h f = computes H q (replace2 q (M H)) (two-real op _ _) (λ v. replace2-fine H q v t h f)
  perform-right q (Three op) o n₁ n₂ t h f = computes H q (replace3 q (M H)) (three-real op _ _ _) (λ v. replace3-fine H q v t h f)
  perform-right q Copy o n₁ n₂ t h f = to H q _ (put-fine H 1 2 q _ (omega arith) h f)
  perform-right q Nothing o n₁ n₂ t h f = to H q _ (on_fine H q h f)
  perform-right q Read o n₁ n₂ t h f = by-test H (ltb 15 (top (M H))) (λ e. off tt) (λ e. writes H q (second (M H)) _ _ (take2-fine H q h f))
  perform-right q Write o n₁ n₂ t h f =
      by-test H (ltb 15 (second (M H))) (λ e. off tt) (λ e.
      to-all H q (take2 q (M H)) H.x.store (set H.x.outputs (second (M H)) (top (M H))) (take2-fine H q h f) refl (length-set H.x.outputs (second (M H)) (top (M H))))
  perform-right q Trap o n₁ n₂ t h f = off tt
  perform-right q (Enter b) o n₁ n₂ t h f =
      by-test H (ltb (R H).h.0 ((R H).s.0 + b)) (λ e. off tt) (λ e.
      to H q (machine (at q (D H) (framed (R H).unit (R H).l.0 ((R H).s.0 + b) (R H))) (M H).stack) (record {
        counts = framed-counts H 0 0 (R H).unit q (D H) (R H).l.0 ((R H).s.0 + b) (M H).stack (same-stack H) (next-at H q.0 (D H) h f (omega arith)) (ltb-false _ _ e) (omega arith);
        stays = next-stays H _ h f refl refl refl;
      }))
  perform-right q (Follow b) o n₁ n₂ t h f = computes H q (put q (M H)) (followed-real H.x.store b _) (λ v. put-fine H 0 1 q v (omega arith) h f)
  perform-right q (Call i) o n₁ n₂ t h f =
      call-right H q (Call i) (R H).unit i _ _ (R H).pc (D H) (M H).stack (callee H q (R H).unit H.kept.good.at.loaded i q.0 (D H) h f (omega arith)) (same-stack H) (omega arith) (leb→le 0o355)
  perform-right q (CallLinked i) o n₁ n₂ t h f =
      call-right H q (CallLinked i) (R H).unit i _ _ q (D H - 1) (set (M H).stack (D H - 1) 0) (callee H q (R H).unit H.kept.good.at.loaded i q.0 (D H - 1) h f (omega arith)) (link-off H) (omega arith) (leb→le 0o355)
  perform-right q (CallExternal k i) o n₁ n₂ t h f =
      let (l, g) = in-other H q k i q.0 (D H - 0 + 0) f in
      call-right H q (CallExternal k i) k i _ _ (R H).pc (D H) (M H).stack (callee H q k l i q.0 (D H) h g (omega arith)) (same-stack H) (omega arith) (leb→le 0o355)
  perform-right q Return o n₁ n₂ t h f = return-right H q
  perform-right q (Transfer b) o n₁ n₂ t h f = transfer-right H q b h f
  perform-right q (PutPair high low) o n₁ n₂ t h f = to H q _ (pair-fine H q high low h f)
  perform-right q (LoadPair a) o n₁ n₂ t h f = reads-pair H q a.0 (put_pair q (M H)) (λ u v. pair-fine H q u v h f)
  perform-right q (LoadPairTop k) o n₁ n₂ t h f = reads-pair H q _ (pair_for1 q (M H)) (λ u v. pair1-fine H q u v t h f)
  perform-right q (StorePair a) o n₁ n₂ t h f = writes-pair H q a.0 _ _ _ (take2-fine H q h f)
  perform-right q (StorePairBelow k) o n₁ n₂ t h f = writes-pair H q _ _ _ _ (take3-fine H q h f)
  perform-right q (Double op) o n₁ n₂ t h f = to H q _ (pair4-fine H q _ _ t h f)
  perform-right q Save o n₁ n₂ t h f = absurd (rw n₁ at o)
  perform-right q Fetch o n₁ n₂ t h f = absurd (rw n₂ at o)

  -- what is decoded where the machine stands agrees with the table, and its flow with the map
  abbrev pub decoded : Decoded
  decoded = decode_of (opcode H) (Op H) (R H) (bases_of (P H))

  pub record Decodes : Type 0 where
    pub below : opcode H < 256
    pub size : get_or lengths (opcode H) 0 ≡ decoded.size
    pub taken : get_or takens (opcode H) 0 ≡ taken_by decoded.action
    pub left : get_or lefts (opcode H) 0 ≡ left_by decoded.action

  pub decodes : Decodes
  decodes =
      let l = (rules H).listed in
      let h : opcode H < 256 = listed_below (opcode H) l in
      record {
        below = h;
        size = size-row (Op H) (R H) (bases_of (P H)) (opcode H) h l;
        taken = taken-row (Op H) (R H) (bases_of (P H)) (opcode H) h l;
        left = left-row (Op H) (R H) (bases_of (P H)) (opcode H) h l;
      }

  -- one instruction
  abbrev pub next_at : Position
  next_at = position ((R H).pc.0 + decoded.size)

  -- the depth after it, and what its flow asks
  abbrev depth_then : ℕ
  depth_then = D H - taken_by decoded.action + left_by decoded.action

  then_is : D H - get_or takens (opcode H) 0 + get_or lefts (opcode H) 0 ≡ depth_then
  then_is = ap₂ (λ (j k : ℕ). D H - j + k) decodes.taken decodes.left

  -- what the rules ask of its successors
  abbrev Leaves : ℕ → ℕ
  Leaves = leaves (Mark H) (opcode H)

  abbrev Asked : Flow → Type 0
  Asked f = Follows (depths H.lent.image (P H) (U H)) (marks_of H.lent.map (U H)) (carry Leaves f)

  abbrev Flowed : Decoded → Flow
  Flowed d = flow_of H.lent.image (P H) (U H) ((R H).pc.0 + d.size) (D H - taken_by d.action + left_by d.action) d.action

  follow : Asked (Flowed decoded)
  follow =
      let p = (R H).pc.0 in
      let size = get_or lengths (opcode H) 0 in
      let n : p + size ≡ next_at.0 = ap (λ (k : ℕ). p + k) decodes.size in
      let row = D H - get_or takens (opcode H) 0 + get_or lefts (opcode H) 0 in
      let f = flow-row H.lent.image (P H) (U H) (marks_of H.lent.map (U H)) Leaves (Op H) (p + size) row (R H) (bases_of (P H)) (opcode H) decodes.below (rules H).listed (rules H).goes_on in
      subst (λ (k : ℕ). Asked (flow_of H.lent.image (P H) (U H) next_at.0 k decoded.action)) then_is
      (subst (λ (k : ℕ). Asked (flow_of H.lent.image (P H) (U H) k row decoded.action)) n f)

  -- any but 262 and 260 passes its mark on
  passes_on : eqb (opcode H) 0o262 ≡ false → eqb (opcode H) 0o260 ≡ false → (f : Flow) → Asked f → Asks H f
  passes_on u v NoFlow x = x
  passes_on u v Ends x = tt
  passes_on u v (To q d) x = x ∙ leaves-passed (Mark H) (opcode H) d u v
  passes_on u v (Fork q d r e) x = (x.0 ∙ leaves-passed (Mark H) (opcode H) d u v, x.1 ∙ leaves-passed (Mark H) (opcode H) e u v)

  pub asked : eqb (opcode H) 0o262 ≡ false → eqb (opcode H) 0o260 ≡ false → Asks H (flow_of H.lent.image (P H) (U H) next_at.0 depth_then decoded.action)
  asked u v = passes_on u v (Flowed decoded) follow

  -- 262 and 260
  abbrev Steps : Decoded → Type 0
  Steps d = Right H (position ((R H).pc.0 + d.size)) d.action (perform_of H.lent d.action (position ((R H).pc.0 + d.size)) H.x)

  saves-stack : opcode H ≡ 0o262 → Steps decoded
  unfolding perform_of decode_of row11
  saves-stack e =
      let same : decoded ≡ sized 1 Save = ap (λ (o : ℕ). decode_of o (Op H) (R H) (bases_of (P H))) e in
      let q = position ((R H).pc.0 + 1) in
      let k = stored (Mark H) in
      let few = store-permitted (Mark H) (subst (λ (o : ℕ). permits (Mark H) o ≡ true) e (rules H).permitted) in
      subst (λ (d : Decoded). Asked (Flowed d) → Steps d) (sym same)
      (λ f.
      let m = f ∙ ap (λ (o : ℕ). leaves (Mark H) o (D H - 0 + 0)) e ∙ leaves-stored (Mark H) (D H - 0 + 0) in
      save-right H q (mark-at H q.0 k 0 (omega arith) (depth-stored (Mark H)) m)
      (mark-stays H _ k 0 (omega arith) (depth-stored (Mark H)) (promised-stored (Mark H) (omega arith)) m refl refl refl))
      follow

  fetches-stack : opcode H ≡ 0o260 → Steps decoded
  unfolding perform_of decode_of row11
  fetches-stack e =
      let same : decoded ≡ sized 1 Fetch = ap (λ (o : ℕ). decode_of o (Op H) (R H) (bases_of (P H))) e in
      let (one, few, some) = fetch-permitted (Mark H) (subst (λ (o : ℕ). permits (Mark H) o ≡ true) e (rules H).permitted) in
      let q = position ((R H).pc.0 + 1) in
      let k = fetched (Mark H) in
      let n = front_of (Mark H) + 1 in
      subst (λ (d : Decoded). Asked (Flowed d) → Steps d) (sym same)
      (λ f.
      let m = f ∙ ap (λ (o : ℕ). leaves (Mark H) o (D H - 1 + 1)) e ∙ leaves-fetched (Mark H) (D H - 1 + 1) in
      fetch-right H q (sym H.kept.good.at.here ∙ one) few (mark-at H q.0 k n (omega arith) (depth-fetched (Mark H) few) m)
      (λ stack. mark-stays H _ k n (omega arith) (depth-fetched (Mark H) few) (promised-fetched (Mark H) few) m refl refl refl))
      follow

  step_right : Right H next_at decoded.action (instruction_of H.lent H.x)
  unfolding instruction_of
  step_right = by (eqb (opcode H) 0o262) refl (eqb (opcode H) 0o260) refl
    where
      by : (u : Bool) → eqb (opcode H) 0o262 ≡ u → (v : Bool) → eqb (opcode H) 0o260 ≡ v → Steps decoded
      by true u v w = saves-stack (eqb-true _ _ u)
      by false u true w = fetches-stack (eqb-true _ _ w)
      by false u false w =
          perform-right next_at decoded.action (own_row (Op H) (R H) (bases_of (P H)) (opcode H) decodes.below) u w
          (subst (λ (k : ℕ). k ≤ D H) decodes.taken (rules H).found) (subst (λ (k : ℕ). k ≤ 16) then_is (rules H).room) (asked u w)

  abbrev Done : State → Type 0
  Done y = Did H next_at y decoded.action × Leads H next_at decoded.action y.machine

  pub step-goes : {y : State} → instruction_of H.lent H.x ≡ go y → Ok H y × Done y
  step-goes e = subst (Says H Done) e (says H Done step_right)

  pub step-halts : {k : Stop} → instruction_of H.lent H.x ≡ halt k → Found k
  step-halts e = subst (Says H Done) e (says H Done step_right)
