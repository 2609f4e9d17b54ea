-- A turn of the loop that takes lines, where none is: a stretch of instructions. Assumes nothing.
use mathlib.Core.Path.{◌≡◌, refl, sym, ap, ◌∙◌}
use mathlib.Core.Logic.{◌⊎◌, inl, inr, ⊎_elim}
use mathlib.Core.Bool.{Bool, true, false}
use Prim.Native.Nat.{ℕ, ◌-◌, ◌≤◌, ◌<◌}
use native.Mathlib.Omega.{arith}
use lib.Dec.{ltb, eqb}
use borrow.Author.Tests.{ltb-true, eqb-true, eqb-false}
use Rattle.std.specs.Prelude.{Ok, Err}
use Rattle.mcode.specs.Word.{pick}
use Rattle.mcode.specs.Machine.{State, Live, live, halt}
use Rattle.mcode.specs.Step.{Lent, line_of}
use Rattle.mcode.specs.Run.{RunEnd, Tally, tally, after, run_n, attempt_tally, instruction_tally}
use Rattle.mcode.specs.Demands.{holding}
use Rattle.mcode.specs.declared.Stop.{Stop}
use Rattle.mcode.specs.declared.Stop.TheVariants.{Spent}
use Rattle.mcode.proofs.Compose as compose
use Rattle.mcode.proofs.Requests.{below-lineless, quiet-attempts, quiet_one, quiet_none}
use Rattle.engine.specs.declared.steps.Stepping.{Stepping}
use Rattle.engine.specs.Loops.{Stretched, stretch_of, lent_by, held_by, live_at, tally_at, ended_at, Advances}

module _ (a : Stepping) where
  abbrev n : ℕ
  n = stretch_of a.left a.requests

  pub stretch-most : n ≤ a.left
  stretch-most = by (ltb a.requests 256) (eqb a.left 0) refl
    where
      by : (t u : Bool) → eqb a.left 0 ≡ u → pick t a.left (pick u 0 1) ≤ a.left
      by true u p = omega arith
      by false true p = omega arith
      by false false p = let z = eqb-false a.left 0 p in omega (arith, z)

  some-stretch : (a.left ≡ 0 → ⊥) → 1 ≤ n
  some-stretch z = by (ltb a.requests 256) (eqb a.left 0) refl
    where
      by : (t u : Bool) → eqb a.left 0 ≡ u → 1 ≤ pick t a.left (pick u 0 1)
      by true u p = omega (arith, z)
      by false false p = omega arith
      by false true p = absurd (z (eqb-true a.left 0 p))

  module _ (c : (a.left ≡ 0) ⊎ (line_of (live_at a) ≡ 0)) where
    abbrev lent : Lent
    lent = lent_by a

    abbrev x : State
    x = held_by a

    abbrev w : ℕ
    w = a.requests

    abbrev v : ℕ
    v = a.taken

    -- its steps are the definition's
    same-stretch : run_n (attempt_tally lent) n (tally_at a) ≡ holding w (run_n (instruction_tally lent) n (tally x v))
    same-stretch = by (ltb w 256) refl (eqb a.left 0) refl c
      where
        by : (t : Bool) → ltb w 256 ≡ t → (u : Bool) → eqb a.left 0 ≡ u → (a.left ≡ 0) ⊎ (line_of (live x w) ≡ 0)
            → run_n (attempt_tally lent) (pick t a.left (pick u 0 1)) (tally (live x w) v) ≡ holding w (run_n (instruction_tally lent) (pick t a.left (pick u 0 1)) (tally x v))
        by true t u p c = quiet-attempts lent a.left x w v (below-lineless w (ltb-true w 256 t))
        by false t true p c = quiet_none lent x w v
        by false t false p (inl z) = absurd (eqb-false a.left 0 p z)
        by false t false p (inr z) = quiet_one lent x w v z

    abbrev e : RunEnd (Tally State)
    e = run_n (instruction_tally lent) n (tally x v)

    -- where it ends
    abbrev y : Tally Live
    y = tally (live e.state.state w) e.state.channels

    onward : run_n (attempt_tally lent) a.left (tally_at a) ≡ after e.count (run_n (attempt_tally lent) (a.left - e.count) y)
    onward = rw same-stretch at (compose.goes_on (attempt_tally lent) n a.left (tally_at a) stretch-most)

    -- it ends the run, unless all of it was done and more is left
    ends : (e.count ≡ n → a.left ≤ e.count) → ended_at e.stop e.count y ≡ run_n (attempt_tally lent) a.left (tally_at a)
    ends m = ⊎_elim spent found (rw same-stretch at (compose.run_ends (attempt_tally lent) n (tally_at a)))
      where
        spent : (e.stop ≡ Spent) × (e.count ≡ n) → ended_at e.stop e.count y ≡ run_n (attempt_tally lent) a.left (tally_at a)
        spent q = ap (λ (j : Stop). ended_at j e.count y) q.0 ∙ compose.spent (attempt_tally lent) a.left e.count y (m q.1) ∙ sym onward

        found : (e.count < n) × (attempt_tally lent y ≡ halt e.stop) → ended_at e.stop e.count y ≡ run_n (attempt_tally lent) a.left (tally_at a)
        found q = compose.found (attempt_tally lent) a.left e.count y e.stop (omega (arith, q.0, stretch-most)) q.1 ∙ sym onward

    module _ (k : Stop) (b : Stepping) (S : Stretched (stretch_of a.left a.requests) a k b) where
      count-is : a.left - b.left ≡ e.count
      count-is = ap (λ (k : RunEnd (Tally State)). k.count) S.ends

      stop-is : k ≡ e.stop
      stop-is = ap (λ (k : RunEnd (Tally State)). k.stop) S.ends

      there : tally_at b ≡ y
      there = rw S.requests (ap (λ (k : RunEnd (Tally State)). tally (live k.state.state w) k.state.channels) S.ends)

      pub stretch-goes : b.left ≡ a.left - stretch_of a.left a.requests → (a.left - stretch_of a.left a.requests ≡ 0 → ⊥) → Advances attempt_tally a (Ok tt) b
      stretch-goes m z =
          let some = some-stretch (λ k. z (omega (arith, k))) in
          let left : a.left - e.count ≡ b.left = omega (arith, count-is, S.most) in
          record {
            leads = ((omega (arith, m, some, stretch-most)), rw (count-is, there) (rw left at onward));
            ready = S.ready;
            keeps = S.keeps;
          }

      pub stretch-ends : (b.left ≡ a.left - stretch_of a.left a.requests → a.left - stretch_of a.left a.requests ≡ 0) → Advances attempt_tally a (Err k) b
      stretch-ends m = record {
        leads = (S.most, rw (count-is, there, stop-is) (ends (λ q. let f : b.left ≡ a.left - n = omega (arith, q, count-is, S.most, stretch-most) in let g = m f in omega (arith, g, q))));
        ready = S.ready;
        keeps = S.keeps;
      }
