-- A turn of the loop that catches traps: what was attempted, and its trap that is caught, or the stop. Assumes nothing.
use mathlib.Core.Path.{◌≡◌, refl, sym, ap, ◌∙◌, subst}
use mathlib.Core.Logic.{◌⊎◌, inl, inr, ⊎_elim}
use Prim.Native.Nat.{ℕ, suc, ◌+◌, ◌-◌, ◌≤◌, ◌<◌}
use native.Mathlib.Omega.{arith}
use mathlib.Core.List.{List}
use lib.ListN.{length}
use lib.Bits.{bit_or}
use Rattle.std.specs.Prelude.{Some, Ok, Err}
use Rattle.mcode.specs.Machine.{State, Live, live, OutcomeOf, go, halt, leaving}
use Rattle.mcode.specs.Step.{Lent, attempt_of, is_caught, trapped, attempt_read}
use Rattle.mcode.specs.Run.{Tally, tally, tallied, after, run_n, attempt_tally, step_tally}
use Rattle.mcode.specs.Demands.{Preserves}
use Rattle.mcode.specs.declared.Stop.{Stop}
use Rattle.mcode.specs.declared.Stop.TheVariants.{Spent}
use Rattle.mcode.proofs.Compose as compose
use Rattle.mcode.proofs.Tallies.{tallied-halts}
use Rattle.mcode.proofs.Traps.{step-traps, tally-traps, tallies-follow}
use Rattle.mcode.proofs.Points.{preserves}
use Rattle.actions.specs.declared.Core.{Core}
use Rattle.actions.specs.Core.{Left, left_by, held, result_of}
use Rattle.actions.specs.Table.{Anchored}
use Rattle.control.specs.Table.{Mapped}
use Rattle.control.specs.Frames.{Framed}
use Rattle.execute.proofs.Fits.{asks_of}
use Rattle.execute.proofs.Went.{Stopped, went_on, stopped}
use Rattle.engine.specs.declared.steps.Stepping.{Stepping}
use Rattle.engine.specs.Loops.{Keeps, lent_by, held_by, live_at, tally_at, ended_at, Advances}
use Rattle.engine.proofs.Turns.{near, still, ready_on, keeps_on, same_lent}

-- spent is no trap
not-spent : (lent : Lent) (x : State) → trapped lent Spent x ≡ halt Spent
unfolding trapped is_caught
not-spent lent x = refl

module _ (a m : Stepping) (k : Stop) (A : Advances attempt_tally a (Err k) m) where
  abbrev lent : Lent
  lent = lent_by a

  abbrev here : State
  here = held_by m

  abbrev at : Live
  at = live_at m

  abbrev y : Tally Live
  y = tally_at m

  -- what catching asks
  pub trap-asks : Mapped m.table.now m.map.now × (Framed m.table.now (length m.store.now) m.core × (Anchored m.table.now m.core × ((32 ≤ length m.store.now) × (m.core.pc - m.core.start < 65536))))
  trap-asks =
      let P = A.ready.prepared in
      let B = asks_of m.image.now m.table.now m.map.now (length m.store.now) P m.stack m.core A.ready.good A.ready.anchored in
      let n = near A.ready in
      (B.mapped, (B.controls.framed, (A.ready.anchored, (P.roomy, omega (arith, n)))))

  -- the run is one of steps up to there
  follows : run_n (step_tally lent) a.left (tally_at a) ≡ after (a.left - m.left) (run_n (step_tally lent) (a.left - (a.left - m.left)) y)
  follows = rw (← A.leads.1) at (tallies-follow lent a.left (tally_at a))

  abbrev Found : Type 0
  Found = ((k ≡ Spent) × (m.left ≡ 0)) ⊎ ((1 ≤ m.left) × (attempt_of lent at ≡ halt k))

  -- and there it is spent, or the next attempt finds the stop
  finds : Found
  finds =
      ⊎_elim (λ q. inl (q.0, omega (arith, q.1, A.leads.0))) (λ q. inr (omega (arith, q.0), tallied-halts (bit_or m.taken (attempt_read lent at)) (attempt_of lent at) k q.1))
      (rw (← A.leads.1) at (compose.run_ends (attempt_tally lent) a.left (tally_at a)))

  -- a trap that is caught: what was attempted found it, since spent is answered as spent
  module _ (q : Core) (stack store out : List ℕ) (T : result_of m.core (Ok q) stack store out ≡ left_by (held_by m) (trapped (lent_by m) k (held_by m))) where
    went : trapped (lent_by m) k here ≡ go (held q stack store out)
    went = went_on here (trapped (lent_by m) k here) _ T refl

    caught : (1 ≤ m.left) × (attempt_of lent at ≡ halt k)
    caught = by finds
      where
        by : Found → (1 ≤ m.left) × (attempt_of lent at ≡ halt k)
        by (inl (s, e)) = cc (sym (not-spent (lent_by m) here) ∙ ap (λ (j : Stop). trapped (lent_by m) j here) (sym s) ∙ went)
        by (inr (l, e)) = (l, e)

    pub trap-some : 1 ≤ m.left
    trap-some = caught.0

  module _ (b : Stepping) (K : Keeps m b) (h : Anchored m.table.now b.core) (w : b.requests ≡ m.requests) (u : b.taken ≡ m.taken) where
    module _ (T : result_of m.core (Ok b.core) b.stack b.store.now b.outputs.now ≡ left_by (held_by m) (trapped (lent_by m) k (held_by m))) where
      pub trap-goes : b.left ≡ m.left - 1 → Advances step_tally a (Ok tt) b
      unfolding Preserves
      trap-goes f =
          let (l, o) = caught b.core b.stack b.store.now b.outputs.now T in
          let gone = went b.core b.stack b.store.now b.outputs.now T in
          let g : trapped lent k here ≡ go (held_by b) = subst (λ (j : Lent). trapped j k here ≡ go (held_by b)) (same_lent A.keeps) gone in
          let o' : attempt_of (lent_by m) at ≡ halt k = subst (λ (j : Lent). attempt_of j at ≡ halt k) (sym (same_lent A.keeps)) o in
          let e : step_tally lent y ≡ go (tally (live (held_by b) m.requests) m.taken) = tally-traps lent at m.taken k o ∙ ap (λ (o : OutcomeOf State). tallied m.taken (leaving m.requests o)) g in
          let q : a.left - (a.left - m.left) ≡ suc b.left = omega (arith, A.leads.0, l, f) in
          let d : a.left - m.left + 1 ≡ a.left - b.left = omega (arith, A.leads.0, l, f) in
          record {
            leads = (
              omega (arith, A.leads.0, l, f),
              rw (w, u)
                  ((rw q at follows) ∙ ap (after (a.left - m.left)) (compose.run-go (step_tally lent) b.left y _ e) ∙ compose.after-after (a.left - m.left) 1 _
                  ∙ ap (λ (n : ℕ). after n (run_n (step_tally lent) b.left (tally (live (held_by b) m.requests) m.taken))) d),
            );
            ready = ready_on K A.ready h (preserves (lent_by m) A.ready.prepared.fits at (live (held_by b) m.requests) A.ready.good A.ready.outputs (step-traps (lent_by m) at k o' ∙ ap (leaving m.requests) gone));
            keeps = keeps_on A.keeps K;
          }

    -- a stop that nothing catches stays the stop
    module _ (j : Stop) (T : result_of m.core (Err j) b.stack b.store.now b.outputs.now ≡ left_by (held_by m) (trapped (lent_by m) k (held_by m))) (c : b.core ≡ m.core) where
      fails : Stopped here (trapped lent k here) (record { stop = Some j; state = held m.core b.stack b.store.now b.outputs.now })
      fails =
          stopped here (trapped lent k here) _
          (subst (λ (i : Lent). ◌≡◌ {A = Left} (record { stop = Some j; state = held m.core b.stack b.store.now b.outputs.now }) (left_by here (trapped i k here))) (same_lent A.keeps) T) (λ z. cc z)

      halts : trapped lent k here ≡ halt j
      halts = let p : Some j ≡ Some fails.why = fails.stop in let i : fails.why ≡ j = cc in fails.halts ∙ ap halt i

      same : held_by b ≡ here
      same = ap (λ (r : Core). held r b.stack b.store.now b.outputs.now) c ∙ fails.same

      ends : ended_at j (a.left - m.left) y ≡ after (a.left - m.left) (run_n (step_tally lent) (a.left - (a.left - m.left)) y)
      ends = by finds
        where
          by : Found → ended_at j (a.left - m.left) y ≡ after (a.left - m.left) (run_n (step_tally lent) (a.left - (a.left - m.left)) y)
          by (inl (s, e)) =
              let p : halt Spent ≡ halt j = sym (not-spent lent here) ∙ ap (λ (i : Stop). trapped lent i here) (sym s) ∙ halts in
              let i : j ≡ Spent = cc in
              rw i (compose.spent (step_tally lent) a.left (a.left - m.left) y (omega (arith, e)))
          by (inr (l, e)) =
              compose.found (step_tally lent) a.left (a.left - m.left) y j (omega (arith, l, A.leads.0)) (tally-traps lent at m.taken k e ∙ ap (λ (o : OutcomeOf State). tallied m.taken (leaving m.requests o)) halts)

      pub trap-stops : b.left ≡ m.left → Advances step_tally a (Err j) b
      trap-stops f = record {
        leads = (omega (arith, f, A.leads.0), rw (f, same, w, u) (ends ∙ sym follows));
        ready = still K same h A.ready;
        keeps = keeps_on A.keeps K;
      }
