-- A turn of the loop that takes lines, where one is requested: it is taken, or fails. Assumes nothing.
use mathlib.Core.Path.{◌≡◌, refl, sym, ap, ◌∙◌, subst}
use mathlib.Core.Bool.{true}
use Prim.Native.Nat.{ℕ, suc, ◌-◌, ◌^◌, ◌≤◌, ◌<◌}
use native.Mathlib.Omega.{arith}
use lib.ListN.{length}
use Rattle.std.specs.Prelude.{Some, Ok, Err}
use Rattle.mcode.specs.Word.{bit}
use Rattle.mcode.specs.Machine.{State, live, OutcomeOf, go, halt, leaving}
use Rattle.mcode.specs.Step.{Lent, line_of, taken_line, attempt_of}
use Rattle.mcode.specs.Run.{tally, tallied, after, run_n, attempt_tally}
use Rattle.mcode.specs.Demands.{HighestLine, Preserves}
use Rattle.mcode.proofs.Compose as compose
use Rattle.mcode.proofs.Tests.{and_both}
use Rattle.mcode.proofs.Points.{preserves}
use Rattle.mcode.proofs.Requests.{highest-line, line_step, line-tally}
use Rattle.mcode.proofs.Traps.{step-goes-on}
use Rattle.mcode.specs.declared.Stop.{Stop}
use Rattle.actions.specs.declared.Core.{Core}
use Rattle.actions.specs.Core.{left_by, held, result_of}
use Rattle.actions.specs.Table.{Anchored}
use Rattle.control.specs.Table.{Mapped}
use Rattle.control.specs.Frames.{Framed}
use Rattle.execute.proofs.Fits.{asks_of}
use Rattle.execute.proofs.Went.{went_on, stopped}
use Rattle.engine.specs.declared.steps.Stepping.{Stepping}
use Rattle.engine.specs.Loops.{Ready, Keeps, lent_by, held_by, live_at, tally_at, Advances}
use Rattle.engine.proofs.Turns.{near, still, ready_on}

module _ (a : Stepping) (R : Ready a) (i : ℕ) (h : 1 ≤ a.left) (l : 1 ≤ i) (is : i ≡ line_of (live_at a)) where
  abbrev lent : Lent
  lent = lent_by a

  abbrev x : State
  x = held_by a

  abbrev w : ℕ
  w = a.requests

  taken : 1 ≤ line_of (live x w)
  taken = omega (arith, l, is)

  -- a line, whose bit is in the requests
  pub line_known : (i < 16) × (bit a.requests i ≡ true)
  unfolding HighestLine
  line_known =
      let (a, b, c) = (highest-line (live x w)).1 taken in
      (omega (arith, b, is), subst (λ (k : ℕ). bit w k ≡ true) (sym is) (and_both (bit w (line_of (live x w))) _ c).0)

  pub line-asks : Mapped a.table.now a.map.now × (Framed a.table.now (length a.store.now) a.core × (Anchored a.table.now a.core × ((i < 16) × (32 ≤ length a.store.now) × (a.core.pc - a.core.start < 65536))))
  line-asks =
      let P = R.prepared in
      let A = asks_of a.image.now a.table.now a.map.now (length a.store.now) P a.stack a.core R.good R.anchored in
      let n = near R in
      (A.mapped, (A.controls.framed, (R.anchored, (line_known.0, P.roomy, omega (arith, n)))))

  step_is : {o : OutcomeOf State} → taken_line lent i x ≡ o → attempt_of lent (live x w) ≡ leaving (w - 2 ^ i) o
  step_is p =
      line_step lent (live x w) taken
      ∙ subst (λ (k : ℕ). leaving (w - 2 ^ line_of (live x w)) (taken_line lent (line_of (live x w)) x) ≡ leaving (w - 2 ^ k) (taken_line lent k x)) (sym is) refl ∙ ap (leaving (w - 2 ^ i)) p

  -- a line takes no channel
  tally-is : {o : OutcomeOf State} → taken_line lent i x ≡ o → attempt_tally lent (tally_at a) ≡ tallied a.taken (leaving (w - 2 ^ i) o)
  tally-is p = line-tally lent (live x w) a.taken taken ∙ ap (tallied a.taken) (step_is p)

  module _ (b : Stepping) (K : Keeps a b) (t : b.taken ≡ a.taken) (g : Anchored a.table.now b.core) where
    pub line-goes : result_of a.core (Ok b.core) b.stack b.store.now b.outputs.now ≡ left_by (held_by a) (taken_line (lent_by a) i (held_by a)) → b.left ≡ a.left - 1 → b.requests ≡ a.requests - 2 ^ i → Advances attempt_tally a (Ok tt) b
    unfolding Preserves
    line-goes e m v =
        let gone : taken_line lent i x ≡ go (held_by b) = went_on x (taken_line lent i x) _ e refl in
        let n : a.left - b.left ≡ 1 = omega (arith, h, m) in
        let q : a.left ≡ suc b.left = omega (arith, h, m) in
        record {
          leads = (
            omega (arith, h, m),
            rw (n, v, t) (subst (λ (k : ℕ). run_n (attempt_tally lent) k (tally_at a) ≡ after 1 (run_n (attempt_tally lent) b.left (tally (live (held_by b) (w - 2 ^ i)) a.taken))) (sym q) (compose.run-go (attempt_tally lent) b.left (tally_at a) _ (tally-is gone))),
          );
          ready = ready_on K R g (preserves lent R.prepared.fits (live x w) (live (held_by b) (w - 2 ^ i)) R.good R.outputs (step-goes-on lent (live x w) _ (step_is gone)));
          keeps = K;
        }

    pub line-fails : (k : Stop) → result_of a.core (Err k) b.stack b.store.now b.outputs.now ≡ left_by (held_by a) (taken_line (lent_by a) i (held_by a)) → b.core ≡ a.core → b.left ≡ a.left → b.requests ≡ a.requests → Advances attempt_tally a (Err k) b
    line-fails k e c m v =
        let f = stopped x (taken_line lent i x) _ e (λ z. cc z) in
        let p : Some k ≡ Some f.why = f.stop in
        let j : f.why ≡ k = cc in
        let z : a.left - b.left ≡ 0 = omega (arith, m) in
        let same : held_by b ≡ x = ap (λ (r : Core). held r b.stack b.store.now b.outputs.now) c ∙ f.same in
        record {
          leads = (
            omega (arith, m),
            rw (z, same, v, t) (compose.found (attempt_tally lent) a.left 0 (tally_at a) k (omega (arith, h)) (tally-is (f.halts ∙ ap halt j)) ∙ sym (compose.begin (attempt_tally lent) a.left (tally_at a))),
          );
          ready = still K same g R;
          keeps = K;
        }
