-- A whole reading, case by case, from what load, start and run ensure. Assumes nothing.
use mathlib.Core.Path.{◌≡◌, sym, ap, ◌∙◌, subst}
use mathlib.Core.Bool.{Bool, true, false, not}
use mathlib.Core.List.{List}
use Prim.Native.Nat.{ℕ, ◌≤◌}
use native.Mathlib.Omega.{arith}
use lib.ListN.{length}
use lib.Dec.{ltb, leb, eqb}
use borrow.Author.Tests.{le-leb}
use Rattle.std.proofs.Common.{Result, Ok, Err, IfErr}
use Rattle.mcode.specs.Word.{pick, and}
use Rattle.mcode.specs.Image.{parse}
use Rattle.mcode.specs.Depths.{map_fits}
use Rattle.mcode.specs.Answer.{refusal_number, refusal_verdict, ending_of}
use Rattle.mcode.specs.Machine.{State, state, Live, live, zero_machine, is_machine}
use Rattle.mcode.specs.Run as Run
use Rattle.mcode.specs.Run.{RunLeft, verdict, refused, stopped, store_fits, run_refusal, lent_to, run_n, tally, step_tally, run_of, start_of, Loads}
use Rattle.mcode.specs.declared.Machine.{Machine}
use Rattle.mcode.specs.declared.Refusal.{Refusal}
use Rattle.mcode.specs.declared.Stop.{Stop}
use Rattle.loader.specs.Begin.{begun}
use Rattle.loader.specs.Load.{LoadsPlace}
use Rattle.loader.proofs.Begin.{start-leaves}
use Rattle.loader.proofs.Early.{early, numbered}
use Rattle.engine.proofs.Closed.{verdict_number}
use Rattle.in_place.specs.Whole.{reading_of, Reads}

module _ (image before store outputs inputs : List ℕ) (n : ℕ) (after : List ℕ) where
  pub load-refuses : (k : Refusal) → Loads image before (refusal_verdict k) after → Reads image before store outputs inputs n (refused (refusal_number k) (live (state zero_machine store outputs) 0)) after
  unfolding reading_of
  load-refuses k L = record { verdict = refusal_verdict k; loads = L; rest = rw (verdict_number k, le-leb 1 (refusal_number k) (numbered k)) }

  module _ (L : Loads image before (verdict 0) after) where
    pub start-refuses : (k : Refusal) (left : List ℕ) → begun (Err k) left ≡ start_of image store → Reads image before store outputs inputs n (refused (refusal_number k) (live (state zero_machine left outputs) 0)) after
    unfolding reading_of
    start-refuses k left e =
        let m : refusal_number k ≡ (start_of image store).number = ap (λ (x : Run.Started). x.number) e in
        let kept : left ≡ store = ap (λ (x : Run.Started). x.store) e ∙ start-leaves image store (omega (arith, m, numbered k)) in
        record {
          verdict = verdict 0;
          loads = L;
          rest = rw (← m, kept, le-leb 1 (refusal_number k) (numbered k));
        }

    pub run-reads : (m : Machine) (left : List ℕ) → begun (Ok m) left ≡ start_of image store → (r : RunLeft) → r ≡ run_of image after inputs n (live (state m left outputs) 0) → Reads image before store outputs inputs n r after
    unfolding reading_of
    run-reads m left e r q = record { verdict = verdict 0; loads = L; rest = rw (← e) q }

-- a run refuses with 1 to 7 or 9 to 12, which have no place
abbrev low : Run.Ending → Type 0
low (Run.Refused k) = k ≤ 12
low (Run.Stopped j) = Unit {0}

refusal-low : (image map inputs : List ℕ) (x : State) → run_refusal image map inputs x ≤ 12
unfolding run_refusal
refusal-low image map inputs x =
    let program = (parse image).program in
    go (leb 1 (parse image).refusal) (ltb (length map) (length image)) (not (map_fits image program map)) (not (store_fits program (length x.store)))
    (not (and (eqb (length inputs) 16) (eqb (length x.outputs) 16))) (not (is_machine program map (length x.store) x.machine)) (early image)
  where
    go : (a b c d e f : Bool) → (parse image).refusal ≤ 6 → pick a (parse image).refusal (pick b 7 (pick c 12 (pick d 9 (pick e 10 (pick f 11 0))))) ≤ 12
    go true b c d e f l = omega (arith, l)
    go false true c d e f l = omega arith
    go false false true d e f l = omega arith
    go false false false true e f l = omega arith
    go false false false false true f l = omega arith
    go false false false false false true l = omega arith
    go false false false false false false l = omega arith

run-low : (image map inputs : List ℕ) (n : ℕ) (x : Live) → low (run_of image map inputs n x).ending
unfolding run_of
run-low image map inputs n x = go (leb 1 (run_refusal image map inputs x.state)) (stopped (run_n (step_tally (lent_to image map inputs)) n (tally x 0))) tt
  where
    go : (t : Bool) (r : RunLeft) → low r.ending → low (pick t (refused (run_refusal image map inputs x.state) x) r).ending
    go true r l = refusal-low image map inputs x.state
    go false r l = l

pub run-placed : (image before after : List ℕ) (n : ℕ) (x : Live) (ending : Result Stop Refusal) (map inputs : List ℕ)
    → ending_of ending ≡ (run_of image map inputs n x).ending → IfErr ending (LoadsPlace image before after)
run-placed image before after n x ending map inputs e = go ending (subst low (sym e) (run-low image map inputs n x))
  where
    go : (r : Result Stop Refusal) → low (ending_of r) → IfErr r (LoadsPlace image before after)
    go (Ok j) l = tt
    go (Err k) l = λ t. absurd (let f : ⊥ = omega (arith, t, l) in f)
