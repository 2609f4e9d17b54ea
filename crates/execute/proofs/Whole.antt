-- The step of a whole machine: what its turn asks, what it leaves, the channel that it takes, what the trap of that asks, and that the place
-- it leaves is a position. Assumes nothing.
use mathlib.Core.Path.{◌≡◌, refl, ap, ◌∙◌}
use mathlib.Core.Bool.{true}
use mathlib.Core.List.{List}
use Prim.Native.Nat.{ℕ, ◌-◌, ◌≤◌, ◌<◌}
use lib.ListN.{get_or, length}
use native.Mathlib.Omega.{arith}
use Rattle.std.specs.Prelude.{Ok, Err}
use Rattle.mcode.specs.Opcode.{lengths}
use Rattle.mcode.specs.Image.{most_modules, parse}
use Rattle.mcode.specs.Machine.{State, state, Outcome, go, halt, handled, is_machine, machine}
use Rattle.mcode.specs.Step.{Lent, instruction_of, trapped, quiet_of, read_of, completed, quiet_read}
use Rattle.mcode.specs.Run.{lent_to}
use Rattle.mcode.specs.declared.Machine.{Machine}
use Rattle.mcode.specs.declared.Registers.{Registers}
use Rattle.mcode.proofs.Standing.{good_of}
use Rattle.mcode.proofs.Points.{quiet-preserves}
use Rattle.actions.specs.declared.Core.{Core}
use Rattle.actions.specs.Core.{Left, Stepped, left_by, shown, held, result_of, read_at, unites}
use Rattle.actions.specs.Table.{Lends, Anchored}
use Rattle.control.specs.Table.{Mapped}
use Rattle.control.specs.Frames.{Framed}
use Rattle.execute.specs.Stepping.{Asks, Prepared, opcode_at, turned}
use Rattle.execute.proofs.Fits.{asks_of, listed_of}
use Rattle.execute.proofs.Laws.{read_is}

pub lends : {image table map : List ℕ} {w : ℕ} (inputs : List ℕ) → Prepared image table map w → Lends image table map inputs (lent_to image map inputs)
lends inputs P = record { image = refl; tabled = P.tabled; map = refl; inputs = refl }

module _ {image table map : List ℕ} {w : ℕ} (P : Prepared image table map w) (m : Machine) (good : is_machine (parse image).program map w m ≡ true) where
  pub unit-few : m.registers.unit < most_modules
  unit-few = omega (arith, (good_of (parse image).program map w m good).at.loaded, P.told.small)

  pub pc-near : m.registers.pc.0 ≤ 32767
  pc-near = let at = (good_of (parse image).program map w m good).at in omega (arith, at.within, (P.told.laid.sound _ at.loaded).short)

  module _ (r : Core) (same : shown r ≡ m.registers) (anchored : Anchored table r) where
    pub asks-step : Asks image table map w (opcode_at image r) r × (1 ≤ get_or lengths (opcode_at image r) 0)
    asks-step =
        let good' : is_machine (parse image).program map w (machine (shown r) m.stack) ≡ true = rw same good in
        (asks_of image table map w P m.stack r good' anchored, listed_of image table map w P m.stack r good' anchored)

    pub after-step : {l : Left} (inputs store out : List ℕ) → ((lent : Lent) → Lends image table map inputs lent → l ≡ turned lent 1 (held r m.stack store out))
        → l ≡ left_by (state m store out) (instruction_of (lent_to image map inputs) (state m store out))
    after-step inputs store out f = rw same at (f (lent_to image map inputs) (lends inputs P))

    -- the word of channels, which was 0 before the turn
    pub channel-step : (q : Stepped) {u : ℕ} (inputs store out st so uo : List ℕ) → result_of r q st so uo ≡ left_by (state m store out) (instruction_of (lent_to image map inputs) (state m store out))
        → u ≡ unites q 0 (read_at (opcode_at image r) r m.stack) → u ≡ quiet_read (lent_to image map inputs) (state m store out)
    channel-step q {u} inputs store out st so uo e d = d ∙ ap (unites q 0) bits ∙ by q (instruction_of (lent_to image map inputs) (state m store out)) e
      where
        bits : read_at (opcode_at image r) r m.stack ≡ read_of (lent_to image map inputs) (state m store out)
        bits =
            read_is r m.stack store out (lends inputs P) anchored
            ∙ ap (λ (g : Registers). read_of (lent_to image map inputs) (state (machine g m.stack) store out)) same

        by : (q : Stepped) (o : Outcome) → result_of r q st so uo ≡ left_by (state m store out) o → unites q 0 (read_of (lent_to image map inputs) (state m store out)) ≡ completed (read_of (lent_to image map inputs) (state m store out)) o
        by (Ok p) (go y) f = refl
        by (Ok p) (halt k) f = cc (ap (λ (a : Left). a.stop) f)
        by (Err k) (go y) f = cc (ap (λ (a : Left). a.stop) f)
        by (Err k) (halt j) f = refl

    -- what settling the instruction's answer asks, in a store of the same length
    pub asks-settle : (n : ℕ) → n ≡ w → Mapped table map × Framed table n r × (32 ≤ n) × (r.pc - r.start < 65536)
    asks-settle n e =
        let A = asks-step.0 in
        let p : r.pc - r.start ≡ m.registers.pc.0 = ap (λ (g : Registers). g.pc.0) same in
        rw e (A.mapped, A.controls.framed, P.roomy, omega (arith, p, pc-near))

-- what a step leaves is a machine again, and a stop leaves all as it was
module _ {image table map : List ℕ} (inputs : List ℕ) (x : State) (P : Prepared image table map (length x.store))
    (good : is_machine (parse image).program map (length x.store) x.machine ≡ true) (outs : length x.outputs ≡ 16) where
  abbrev lent : Lent
  lent = lent_to image map inputs

  abbrev Stays : State → Type 0
  Stays y = (is_machine (parse image).program map (length y.store) y.machine ≡ true) × (length y.store ≡ length x.store) × (length y.outputs ≡ 16)

  kept : (o : Outcome) → ((y : State) → o ≡ go y → Stays y) → {l : Left} → l ≡ left_by x o → Stays l.state
  kept (go y) k e = rw e (k y refl)
  kept (halt j) k e = rw e (good, refl, outs)

  pub settled-step : (r : Core) (s t : Stepped) (st so st' so' out : List ℕ) → result_of r s st so out ≡ left_by x (instruction_of lent x)
      → ((lent : Lent) (bytes words : List ℕ) → Lends bytes table map words lent → (y : State) (o : Outcome) (out : List ℕ) → result_of r s st so out ≡ left_by y o → result_of r t st' so' out ≡ left_by y (handled (λ k. trapped lent k y) o))
      → result_of r t st' so' out ≡ left_by x (quiet_of lent x)
  unfolding quiet_of
  settled-step r s t st so st' so' out e f = f lent image inputs (lends inputs P) x (instruction_of lent x) out e

  pub near-after : {l : Left} → l ≡ left_by x (quiet_of lent x) → l.state.machine.registers.pc.0 ≤ 32767
  near-after {l} e =
      let (g, w, o) = kept (quiet_of lent x) (λ y i. quiet-preserves lent P.fits x good outs y i) e in
      pc-near P l.state.machine (rw w at g)
