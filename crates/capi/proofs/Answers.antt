-- What start and run leave makes words, and a module's number above 255 is refused as 255 is. Assumes nothing.
use mathlib.Core.Path.{◌≡◌, refl, sym, ap, ◌∙◌, subst}
use mathlib.Core.Bool.{Bool, true, false, not, false≢true}
use mathlib.Core.List.{List}
use Prim.Native.Nat.{ℕ, ◌≤◌}
use native.Mathlib.Omega.{arith}
use lib.ListN.{length, get_or, drop}
use lib.Dec.{ltb, leb, eqb}
use borrow.Author.Tests.{leb-true, leb-false, le-ltb, le-leb, ltb-true}
use Rattle.mcode.specs.Word.{pick, and}
use Rattle.mcode.specs.Image.{most_modules, parse}
use Rattle.mcode.specs.Depths.{map_fits}
use Rattle.mcode.specs.Machine.{State, Live, state, live, machine, zero_machine, is_machine}
use Rattle.mcode.specs.Step.{step_of, step_read}
use Rattle.mcode.specs.Run.{Ending, Refused, Stopped, Started, RunEnd, RunLeft, refused, stopped, store_fits, lent_to, run_n, tally, step_tally, run_refusal, run_of, start_refusal, start_machine, start_store, start_of}
use Rattle.mcode.specs.declared.Stop.{Stop}
use Rattle.mcode.proofs.Reader.{told}
use Rattle.mcode.proofs.Refusals.{accepted}
use Rattle.mcode.proofs.Standing.{good_of}
use Rattle.mcode.proofs.Points.{points}
use Rattle.mcode.proofs.Tallies.{plain}
use Rattle.capi.specs.Words.{registers_in, module_number, machine_of, machine_from}
use Rattle.capi.specs.Answers.{run_says}

-- ---- the depth that start and run leave is a word

pub start-depth : (image store : List ℕ) (s : Started) → s ≡ start_of image store → s.machine.registers.depth ≤ 16
unfolding start_of start_machine
start-depth image store s e = subst (λ (x : Started). x.machine.registers.depth ≤ 16) (sym e) (go (leb 1 (start_refusal image (length store))))
  where
    no : Started
    no = record { number = start_refusal image (length store); machine = zero_machine; store = store }

    yes : Started
    yes = record { number = 0; machine = start_machine image (parse image).program (length store); store = start_store (parse image).program (length store) }

    go : (t : Bool) → (pick t no yes).machine.registers.depth ≤ 16
    go true = omega arith
    go false = omega arith

abbrev is-refused : Ending → Bool
is-refused (Refused k) = true
is-refused (Stopped k) = false

pub stop-depth : (image map inputs : List ℕ) (n : ℕ) (x : Live) (r : RunLeft) (k : Stop) → r ≡ run_of image map inputs n x → r.ending ≡ Stopped k → r.state.state.machine.registers.depth ≤ 16
unfolding run_of
stop-depth image map inputs n x r k e = subst (λ (y : RunLeft). y.ending ≡ Stopped k → y.state.state.machine.registers.depth ≤ 16) (sym e) (go (leb 1 (run_refusal image map inputs x.state)) refl)
  where
    no : RunLeft
    no = refused (run_refusal image map inputs x.state) x

    yes : RunLeft
    yes = stopped (run_n (step_tally (lent_to image map inputs)) n (tally x 0))

    go : (t : Bool) → leb 1 (run_refusal image map inputs x.state) ≡ t → (pick t no yes).ending ≡ Stopped k → (pick t no yes).state.state.machine.registers.depth ≤ 16
    go true f z = absurd (false≢true (sym (ap is-refused z)))
    go false f z =
        let (L, h, i) = accepted image map inputs x.state f in
        let g = good_of (parse image).program map (length x.state.store) x.state.machine h.machine in
        let p = (points image map L.fit inputs (length x.state.store) n x (record { good = g; sized = refl; outs = h.outs })).1.good.at.few in
        subst (λ (d : RunEnd Live). d.state.state.machine.registers.depth ≤ 16) (sym (plain (step_of (lent_to image map inputs)) (step_read (lent_to image map inputs)) n x 0)) p

-- ---- modules that no image has

module _ (image map inputs : List ℕ) (n w : ℕ) (words store outputs : List ℕ) where
  -- the words' machine, in module k
  abbrev in-module : ℕ → State
  in-module k = state (machine (registers_in k words) (drop 8 words)) store outputs

  no-machine : (k : ℕ) → most_modules ≤ k → leb 1 (parse image).refusal ≡ false → is_machine (parse image).program map (length store) (in-module k).machine ≡ false
  unfolding is_machine
  no-machine k l e =
      let z : (parse image).refusal ≡ 0 = omega (arith, leb-false 1 (parse image).refusal e) in
      rw (le-ltb k (parse image).program.count (omega (arith, l, (told image z).small)))

  -- run's refusal where no test passes a machine
  abbrev number : ℕ
  number =
      pick (leb 1 (parse image).refusal) (parse image).refusal
      (pick (ltb (length map) (length image)) 7
      (pick (not (map_fits image (parse image).program map)) 12
      (pick (not (store_fits (parse image).program (length store))) 9
      (pick (not (and (eqb (length inputs) 16) (eqb (length outputs) 16))) 10 11))))

  some : 1 ≤ number
  some =
      first (leb 1 (parse image).refusal) refl
      (later (ltb (length map) (length image)) 7 (omega arith)
      (later (not (map_fits image (parse image).program map)) 12 (omega arith)
      (later (not (store_fits (parse image).program (length store))) 9 (omega arith)
      (later (not (and (eqb (length inputs) 16) (eqb (length outputs) 16))) 10 (omega arith) (omega arith)))))
    where
      later : (t : Bool) (k : ℕ) → 1 ≤ k → {r : ℕ} → 1 ≤ r → 1 ≤ pick t k r
      later true k l r = l
      later false k l r = r

      first : (t : Bool) → leb 1 (parse image).refusal ≡ t → {r : ℕ} → 1 ≤ r → 1 ≤ pick t (parse image).refusal r
      first true e r = leb-true 1 (parse image).refusal e
      first false e r = r

  refusal_is : (k : ℕ) → most_modules ≤ k → run_refusal image map inputs (in-module k) ≡ number
  unfolding run_refusal
  refusal_is k l = go (leb 1 (parse image).refusal) refl
    where
      go : (t : Bool) → leb 1 (parse image).refusal ≡ t → run_refusal image map inputs (in-module k) ≡ number
      go true e = rw e refl
      go false e = rw (no-machine k l e) refl

  far : (k : ℕ) → most_modules ≤ k → run_of image map inputs n (live (in-module k) w) ≡ refused number (live (in-module k) w)
  unfolding run_of
  far k l = rw (refusal_is k l, le-leb 1 number some) refl

  -- a run of the code's machine answers as a run of the words' machine
  same : run_says words (run_of image map inputs n (live (in-module (module_number (get_or words 0 0))) w)) ≡ run_says words (run_of image map inputs n (live (in-module (get_or words 0 0)) w))
  same = go (ltb 255 (get_or words 0 0)) refl
    where
      go : (t : Bool) → ltb 255 (get_or words 0 0) ≡ t
          → run_says words (run_of image map inputs n (live (in-module (pick t 255 (get_or words 0 0))) w)) ≡ run_says words (run_of image map inputs n (live (in-module (get_or words 0 0)) w))
      go true e = ap (run_says words) (far 255 (omega arith)) ∙ sym (ap (run_says words) (far (get_or words 0 0) (omega (arith, ltb-true 255 (get_or words 0 0) e))))
      go false e = refl

  pub run-says : (r : RunLeft) (e : Ending) → r ≡ run_of image map inputs n (live (state (machine_from words) store outputs) w) → r.ending ≡ e
      → run_says words (record { ending = e; count = r.count; state = r.state; channels = r.channels }) ≡ run_says words (run_of image map inputs n (live (state (machine_of words) store outputs) w))
  run-says r e q z = sym (ap (λ (d : Ending). run_says words (record { ending = d; count = r.count; state = r.state; channels = r.channels })) z) ∙ ap (run_says words) q ∙ same
