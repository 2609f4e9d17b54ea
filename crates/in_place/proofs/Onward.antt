-- The turns of the loop that steps a machine in place: what stands before each, from the first to the stop. Assumes nothing.
use mathlib.Core.Path.{◌≡◌, refl, sym, ap, ◌∙◌}
use mathlib.Core.Bool.{true}
use mathlib.Core.List.{List}
use Prim.Native.Nat.{ℕ, ◌+◌, ◌-◌, ◌≤◌, ◌<◌}
use native.Mathlib.Omega.{arith}
use lib.ListN.{length}
use lib.Bits.{bit_or}
use Rattle.mcode.specs.Image.{parse}
use Rattle.mcode.specs.Depths.{map_fits}
use Rattle.mcode.specs.Machine.{State, live, is_machine, go, halt}
use Rattle.mcode.specs.Step.{Lent, quiet_of, quiet_read}
use Rattle.mcode.specs.Run.{RunEnd, Tally, tally, tallied, after, run_n, lent_to, quiet_tally, step_tally}
use Rattle.mcode.specs.Demands.{QuietRuns, holding}
use Rattle.std.proofs.Common.{Some, None}
use Rattle.mcode.specs.declared.Stop.{Stop}
use Rattle.mcode.specs.declared.Stop.TheVariants.{Spent}
use Rattle.mcode.proofs.Compose as compose
use Rattle.mcode.proofs.Points.{quiet-preserves}
use Rattle.mcode.proofs.Requests.{below-lineless, quiet-runs}
use Rattle.actions.specs.Core.{Left, left_by}
use Rattle.execute.proofs.Went.{went_on, stopped}
use Rattle.engine.specs.Loops.{ended_at}

-- before a turn: count steps of the budget n are done, the state has a machine, v are the channels taken, and the rest is still to run
pub record Onward (image map inputs : List ℕ) (w n : ℕ) (first : Tally State) (count : ℕ) (x : State) (v : ℕ) : Type 0 where
  pub most : count ≤ n
  pub sized : length x.store ≡ w
  pub sixteen : length x.outputs ≡ 16
  pub good : is_machine (parse image).program map (length x.store) x.machine ≡ true
  pub rest : run_n (quiet_tally (lent_to image map inputs)) n first ≡ after count (run_n (quiet_tally (lent_to image map inputs)) (n - count) (tally x v))

module _ (image map inputs : List ℕ) (n : ℕ) where
  abbrev lent : Lent
  lent = lent_to image map inputs

  pub begins : (x : State) → length x.outputs ≡ 16 → is_machine (parse image).program map (length x.store) x.machine ≡ true → Onward image map inputs (length x.store) n (tally x 0) 0 x 0
  begins x o g = record { most = omega arith; sized = refl; sixteen = o; good = g; rest = compose.begin (quiet_tally lent) n (tally x 0) }

  module _ (w : ℕ) (first : Tally State) (count : ℕ) (x : State) (v : ℕ) (G : Onward image map inputs w n first count x v) (l : Left) where
    -- the channel c that the step took is united
    pub goes_on : map_fits image (parse image).program map ≡ true → count < n → l ≡ left_by x (quiet_of lent x) → (c : ℕ) → c ≡ quiet_read lent x → l.stop ≡ None → Onward image map inputs w n first (count + 1) l.state (bit_or v c)
    goes_on fits less e c d z =
        let went : quiet_of lent x ≡ go l.state = went_on x (quiet_of lent x) l e z in
        let kept = quiet-preserves lent fits x G.good G.sixteen l.state went in
        let tallies : quiet_tally lent (tally x v) ≡ go (tally l.state (bit_or v c)) = ap (tallied (bit_or v (quiet_read lent x))) went ∙ ap (λ (k : ℕ). go (tally l.state (bit_or v k))) (sym d) in
        record {
          most = omega (arith, less);
          sized = kept.1 ∙ G.sized;
          sixteen = kept.2;
          good = kept.0;
          rest = G.rest ∙ compose.turn (quiet_tally lent) n count (tally x v) (tally l.state (bit_or v c)) less tallies;
        }

    pub stops_so : count < n → l ≡ left_by x (quiet_of lent x) → (k : Stop) → l.stop ≡ Some k → ended_at k count (tally l.state v) ≡ run_n (quiet_tally lent) n first
    stops_so less e k s =
        let f = stopped x (quiet_of lent x) l e (λ z. cc (s, z)) in
        let p : Some k ≡ Some f.why = sym s ∙ f.stop in
        let j : f.why ≡ k = cc in
        rw f.same (compose.found (quiet_tally lent) n count (tally x v) k less (ap (tallied (bit_or v (quiet_read lent x))) (f.halts ∙ ap halt j)) ∙ sym G.rest)

-- no budget is left
pub spent-so : (image map inputs : List ℕ) (n w : ℕ) (first : Tally State) (count : ℕ) (x : State) (v : ℕ) → Onward image map inputs w n first count x v
    → n ≤ count → ended_at Spent count (tally x v) ≡ run_n (quiet_tally (lent_to image map inputs)) n first
spent-so image map inputs n w first count x v G all = compose.spent (quiet_tally (lent_to image map inputs)) n count (tally x v) all ∙ sym G.rest

-- without requests the run of instructions and their traps is the run
pub quiet-so : (lent : Lent) (n : ℕ) (x : State) {e : RunEnd (Tally State)} → e ≡ run_n (quiet_tally lent) n (tally x 0) → holding 0 e ≡ run_n (step_tally lent) n (tally (live x 0) 0)
unfolding QuietRuns
quiet-so lent n x q = ap (holding 0) q ∙ sym (quiet-runs lent n x 0 0 (below-lineless 0 (omega arith)))
