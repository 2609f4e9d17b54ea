-- Calls, returns and transfers, and a stack saved and fetched, have the right outcome. Assumes nothing.
use mathlib.Core.Path.{◌≡◌, refl, sym, ◌∙◌, subst}
use mathlib.Core.Logic.{◌⊎◌, inl, inr}
use mathlib.Core.Bool.{true, not}
use mathlib.Core.List.{List}
use Prim.Native.Nat.{ℕ, ◌+◌, ◌-◌, ◌≤◌, ◌<◌}
use native.Mathlib.Omega.{arith}
use lib.ListN.{length, get_or, set, replicate, length-set, get_or-replicate}
use lib.Dec.{T, ltb, leb, eqb, eqb→eq}
use borrow.Author.Tests.{ltb-true, ltb-false, leb-true, eqb-true, eqb-false}
use Rattle.mcode.specs.declared.Position.{Position}
use Rattle.mcode.specs.declared.Module.{Module}
use Rattle.mcode.specs.declared.Flow.TheVariants.{To, Fault as NoFlow}
use Rattle.mcode.specs.Decode.{Action, Return, Transfer, Save, Fetch}
use Rattle.mcode.specs.Word.{pick, and}
use Rattle.mcode.specs.Image.{margin, module_of, bases_of, proc_count, entry_of, params_of, results_of}
use Rattle.mcode.specs.Depths.{front_of, passed, depths, calls, calls_in, marks_of}
use Rattle.mcode.specs.Machine.{state, position, machine, at, framed, top, second, take2}
use Rattle.mcode.specs.Step.{word_in, call, unit_based, lands, back_to, returned, process_at, within_limit, resumes, is_process, saved, restored_machine, is_target, changed, switched, transferred, stack_saved, stack_fetched}
use Rattle.mcode.specs.Demands.{is_plain}
use Rattle.mcode.proofs.Tests.{and_both, not_is}
use Rattle.mcode.proofs.Standing.{At, at_of, Good, entry_at, met}
use Rattle.mcode.proofs.Rows.{taken_by, left_by, own_op}
use Rattle.mcode.proofs.Zeros.{zeros-under, zeros-restored, length-saved, length-saved-store}
use Rattle.mcode.proofs.Shapes.{Stays, Here, P, R, D, M, U, Mark, Marks, Asks, Ok, Stack, take2-fine, framed-counts, same-stack}
use Rattle.mcode.proofs.Right.{Right, on, off, other, away, again, led, to-all, by-test, in-store}

-- a call, a return and a transfer are not plain
not_plain : (op : ℕ) → (0o354 ≤ op) ⊎ (op ≡ 0o256) → is_plain op ≡ true → ⊥
not_plain op h p = let (a, b) = and_both (ltb op 0o354) (not (eqb op 0o256)) p in go (ltb-true _ _ a) (eqb-false _ _ (not_is _ b)) h
  where
    go : op < 0o354 → (op ≡ 0o256 → ⊥) → (0o354 ≤ op) ⊎ (op ≡ 0o256) → ⊥
    go l n (inl g) = omega arith
    go l n (inr e) = n e

module _ (H : Here) where
  -- a change to another process, whichever position and words are saved, over whichever store, and wherever the old one goes
  pub changed-ok : (b : ℕ) (next : Position) (k c q : ℕ) (store : List ℕ) → length store ≡ length H.x.store → is_target H.lent q H.x ≡ true
      → Ok H (changed H.lent b next k c q store H.x)
  unfolding is_process restored_machine changed
  changed-ok b next k c q store z t =
      let r = process_at H.x.store q in
      let w = length H.x.store in
      let (a₁, b₁) = and_both (leb (q + 8) w) _ t in
      let (a₂, b₂) = and_both (and (leb margin r.v) (leb r.v w)) _ b₁ in
      let (a₃, b₃) = and_both (and (leb 1 r.s) (leb r.s w)) _ b₂ in
      let (a₄, b₄) = and_both (and (leb r.k 16) (ltb r.k r.s)) _ b₃ in
      let (a₅, b₅) = and_both (within_limit r) (resumes H.lent r) b₄ in
      let (c₁, c₂) = and_both (leb margin r.v) (leb r.v w) a₂ in
      let h₁ : q + 8 ≤ w = leb-true (q + 8) w a₁ in
      let h₂ : 24 ≤ r.v = leb-true 24 r.v c₁ in
      let h₃ : r.v ≤ w = leb-true r.v w c₂ in
      let g : Good (P H) H.lent.map H.w (restored_machine H.lent b q H.x.store r (R H)) = record {
        at = at_of (P H) H.lent.map (unit_based (P H) r.g) r.pc r.k b₅;
        low = leb-true (r.s - 1 - r.k) (r.v - margin) a₅;
        high = omega (arith, H.kept.sized);
        proc = omega (arith, H.kept.sized);
        zeros = zeros-restored H.x.store r.k (r.s - 1 - r.k) r.k (replicate 16 0) (omega arith) (λ i l h. get_or-replicate 16 i 0 0 l);
      } in
      record { good = g; sized = length-saved-store (get_or (bases_of (P H)) (R H).unit 0) next c (state (M H) store H.x.outputs) k ∙ z ∙ H.kept.sized; outs = H.kept.outs }

module _ (H : Here) (n : Position) where
  set3 : (s a b c : ℕ) → length (set (set (set H.x.store s a) (s + 1) b) (s + 2) c) ≡ length H.x.store
  set3 s a b c = length-set (set (set H.x.store s a) (s + 1) b) (s + 2) c ∙ length-set (set H.x.store s a) (s + 1) b ∙ length-set H.x.store s a

  -- a call of procedure i of module k, by the action a, from this depth and stack
  pub call-right : (a : Action) (k i link mk : ℕ) (q : Position) (d : ℕ) (stack : List ℕ) → At (P H) H.lent.map k (entry_of H.lent.image (module_of (P H) k) i) d
      → Stack H (D H - taken_by a) d stack → D H - taken_by a + left_by a ≡ d → ((op : ℕ) → T (own_op op a) → 0o355 ≤ op) → Right H n a (call H.lent k i link mk (machine (at q d (R H)) stack) H.x)
  unfolding call
  call-right a k i link mk q d stack e h z c =
      let entry = position (entry_of H.lent.image (module_of (P H) k) i) in
      by-test H (ltb (R H).h.0 ((R H).s.0 + 4)) (λ t. off tt) (λ t.
      led H n (machine (at entry d (framed k (R H).s.0 ((R H).s.0 + 4) (R H))) stack) _ _
      (framed-counts H (taken_by a) (left_by a) k entry d (R H).s.0 ((R H).s.0 + 4) stack h e (ltb-false _ _ t) z)
      (λ op o p. absurd (not_plain op (inl (let l = c op o in omega arith)) p)) (set3 (R H).s.0 link (R H).l.0 mk) refl)

  back-right : (k t : ℕ) → (R H).l.0 ≤ (R H).h.0 → Right H n Return (back_to H.lent k t H.x)
  unfolding back_to
  back-right k t h =
      by-test H (lands H.lent k t (R H)) (λ s.
      led H n (machine (at (position t) (D H) (framed k (word_in H.x ((R H).l.0 + 1)) (R H).l.0 (R H))) (M H).stack) _ _
      (framed-counts H 0 0 k (position t) (D H) (word_in H.x ((R H).l.0 + 1)) (R H).l.0 (M H).stack (same-stack H) (at_of (P H) H.lent.map k t (D H) s) h (omega arith))
      (λ op o p. absurd (not_plain op (inl (let e = eqb→eq op 0o354 o in omega arith)) p)) refl refl)
      (λ s. off tt)

  pub return-right : Right H n Return (returned H.lent H.x)
  unfolding returned
  return-right =
      let t = word_in H.x ((R H).l.0 + 2) in
      by-test H (ltb (R H).h.0 (R H).l.0) (λ e. off tt) (λ e.
      by-test H (eqb t 0x7fff) (λ f. off tt) (λ f.
      by-test H (ltb t 0x8000) (λ g. back-right (R H).unit t (ltb-false _ _ e)) (λ g. back-right (unit_based (P H) (word_in H.x (R H).l.0)) (t - 0x8000) (ltb-false _ _ e))))

  switch-right : (b q : ℕ) → Right H n (Transfer b) (switched H.lent b n (D H - 2) (second (M H)) q H.x)
  unfolding switched changed
  switch-right b q =
      by-test H (is_target H.lent q H.x)
      (λ t. let k = changed-ok H b n (D H - 2) (second (M H)) q H.x.store refl t in on k (other refl k.good.at.few, λ op o p. absurd (not_plain op (inr (eqb→eq op 0o256 o)) p)))
      (λ t. off tt)

  pub transfer-right : (b : ℕ) → D H - 2 + 0 ≤ 16 → Marks H n.0 (D H - 2 + 0) → Right H n (Transfer b) (transferred H.lent b n H.x)
  unfolding transferred
  transfer-right b h f =
      let q = word_in H.x (top (M H)) in
      in-store H n (top (M H)) (in-store H n (second (M H)) (by-test H (eqb q (R H).p.0)
      (λ t. to-all H n (take2 n (M H)) (set H.x.store (second (M H)) (R H).p.0) H.x.outputs (take2-fine H n h f) (length-set H.x.store (second (M H)) (R H).p.0) refl)
      (λ t. switch-right b q)))

  -- 262 and 260
  pub save-right : At (P H) H.lent.map (R H).unit n.0 0
      → Stays (P H) H.lent.map (M H) (machine (at n 0 (framed (R H).unit (R H).l.0 ((R H).s.0 + D H + 1) (R H))) (replicate 16 0)) → Right H n Save (stack_saved n H.x)
  unfolding stack_saved
  save-right a s =
      by-test H (ltb (R H).h.0 ((R H).s.0 + D H + 1)) (λ e. off tt) (λ e.
      on (record {
        good = record { at = a; low = ltb-false _ _ e; high = H.kept.good.high; proc = H.kept.good.proc; zeros = λ i l h. get_or-replicate 16 i 0 0 l };
        sized = length-set (saved (M H).stack (D H) (R H).s.0 H.x.store) ((R H).s.0 + D H) (D H) ∙ length-saved (M H).stack (D H) (R H).s.0 H.x.store ∙ H.kept.sized;
        outs = H.kept.outs;
      }) (away refl refl, λ op o p. s))

  pub fetch-right : D H ≡ 1 → front_of (Mark H) ≤ 15 → At (P H) H.lent.map (R H).unit n.0 (front_of (Mark H) + 1)
      → ((stack : List ℕ) → Stays (P H) H.lent.map (M H) (machine (at n (front_of (Mark H) + 1) (framed (R H).unit (R H).l.0 ((R H).s.0 - 1 - front_of (Mark H)) (R H))) stack)) → Right H n Fetch (stack_fetched H.lent n H.x)
  unfolding stack_fetched
  fetch-right d l a z =
      let k = front_of (Mark H) in
      let s = (R H).s.0 in
      by-test H (and (ltb k s) (eqb (word_in H.x (s - 1)) k)) (λ t.
      on (record {
        good = record {
          at = a;
          low = omega (arith, H.kept.good.low);
          high = H.kept.good.high;
          proc = H.kept.good.proc;
          zeros = zeros-restored H.x.store k (s - 1 - k) (k + 1) (set (replicate 16 0) k (top (M H))) (omega arith) (zeros-under (replicate 16 0) (k + 1) k (top (M H)) (omega arith) (λ i h j. get_or-replicate 16 i 0 0 h));
        };
        sized = H.kept.sized;
        outs = H.kept.outs;
      }) (again k d (sym (eqb-true _ _ (and_both (ltb k s) (eqb (word_in H.x (s - 1)) k) t).1)) l refl refl, λ op o p. z _)) (λ t. off tt)

  -- what a call of procedure i of module m asks, whose next position is q
  pub asks-call : (m : Module) (i q e : ℕ) → Asks H (calls H.lent.image m i q e)
      → (i < proc_count m) × (e ≡ params_of H.lent.image m i) × Marks H q (results_of H.lent.image m i)
  unfolding calls
  asks-call m i q e f =
      let image = H.lent.image in
      let A = depths image (P H) (U H) in
      let marks = marks_of H.lent.map (U H) in
      let (t, g) = met A marks (passed (Mark H)) (ltb i (proc_count m)) (pick (eqb e (params_of image m i)) (To q (results_of image m i)) NoFlow) f in
      let (s, j) = met A marks (passed (Mark H)) (eqb e (params_of image m i)) (To q (results_of image m i)) g in
      (ltb-true _ _ t, eqb-true _ _ s, j)

  -- a call of procedure i of module k that fits
  pub callee : (k : ℕ) → k < (P H).count → (i q : ℕ) {e : ℕ} (d : ℕ) → e ≤ 16 → Asks H (calls H.lent.image (module_of (P H) k) i q e) → e ≡ d
      → At (P H) H.lent.map k (entry_of H.lent.image (module_of (P H) k) i) d
  callee k l i q {e} d h f z =
      let m = module_of (P H) k in
      let image = H.lent.image in
      let (lt, s, j) = asks-call m i q e f in
      entry_at image (P H) H.lent.map H.fit k i l lt d (subst (λ (y : ℕ). y ≤ 16) z h) (sym z ∙ s)

  -- a call into another module that fits
  pub in-other : (k i q e : ℕ) → Asks H (calls_in H.lent.image (P H) k i q e) → (k < (P H).count) × Asks H (calls H.lent.image (module_of (P H) k) i q e)
  unfolding calls_in
  in-other k i q e f =
      let (t, g) = met (depths H.lent.image (P H) (U H)) (marks_of H.lent.map (U H)) (passed (Mark H)) (ltb k (P H).count) (calls H.lent.image (module_of (P H) k) i q e) f in
      (ltb-true _ _ t, g)
