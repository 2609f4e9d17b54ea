-- A loop over turns that each lead on, or end the run. Assumes nothing.
use mathlib.Core.Path.{◌≡◌, sym, ap, ◌∙◌, subst}
use Prim.Native.Nat.{ℕ, ◌+◌, ◌-◌, ◌≤◌}
use native.Mathlib.Omega.{arith}
use Rattle.std.specs.Prelude.{Ok, Err}
use Rattle.mcode.specs.Machine.{Live, OutcomeOf}
use Rattle.mcode.specs.Step.{Lent}
use Rattle.mcode.specs.Run.{Tally, after, run_n}
use Rattle.mcode.specs.declared.Stop.{Stop}
use Rattle.mcode.proofs.Compose as compose
use Rattle.engine.specs.declared.steps.Stepping.{Stepping}
use Rattle.engine.specs.Loops.{Ready, Keeps, lent_by, tally_at, ended_at, Advances}
use Rattle.engine.proofs.Turns.{keeps_all, keeps_on, same_lent}

-- before a turn from b, in a loop from a: a machine, and the rest still to run
pub record Looping (f : Lent → Tally Live → OutcomeOf (Tally Live)) (a b : Stepping) : Type 0 where
  pub most : b.left ≤ a.left
  pub rest : run_n (f (lent_by a)) a.left (tally_at a) ≡ after (a.left - b.left) (run_n (f (lent_by a)) b.left (tally_at b))
  pub ready : Ready b
  pub keeps : Keeps a b

module _ (f : Lent → Tally Live → OutcomeOf (Tally Live)) (a : Stepping) where
  pub loop-begins : Ready a → Looping f a a
  loop-begins R = record {
    most = omega arith;
    rest = let z : a.left - a.left ≡ 0 = omega arith in let y : a.left - 0 ≡ a.left = omega arith in rw z (rw y at (compose.begin (f (lent_by a)) a.left (tally_at a)));
    ready = R;
    keeps = keeps_all a;
  }

  module _ (b c : Stepping) (L : Looping f a b) where
    module _ (most : c.left ≤ b.left) where
      sum : a.left - b.left + (b.left - c.left) ≡ a.left - c.left
      sum = omega (arith, most, L.most)

    pub loop-on : Advances f b (Ok tt) c → Looping f a c
    loop-on A =
        let m : c.left ≤ b.left = omega (arith, A.leads.0) in
        record {
          most = omega (arith, m, L.most);
          rest =
              L.rest ∙ ap (after (a.left - b.left)) (subst (λ (k : Lent). run_n (f k) b.left (tally_at b) ≡ after (b.left - c.left) (run_n (f k) c.left (tally_at c))) (same_lent L.keeps) A.leads.1)
              ∙ compose.after-after (a.left - b.left) (b.left - c.left) _ ∙ ap (λ (k : ℕ). after k (run_n (f (lent_by a)) c.left (tally_at c))) (sum m);
          ready = A.ready;
          keeps = keeps_on L.keeps A.keeps;
        }

    -- the whole loop as one turn
    pub loop-ends : (k : Stop) → Advances f b (Err k) c → Advances f a (Err k) c
    loop-ends k A = record {
      leads = (
        omega (arith, A.leads.0, L.most),
        ap (λ (j : ℕ). ended_at k j (tally_at c)) (sym (sum A.leads.0))
            ∙ ap (after (a.left - b.left)) (subst (λ (j : Lent). ended_at k (b.left - c.left) (tally_at c) ≡ run_n (f j) b.left (tally_at b)) (same_lent L.keeps) A.leads.1) ∙ sym L.rest,
      );
      ready = A.ready;
      keeps = keeps_on L.keeps A.keeps;
    }
