-- A turn of the loop of instructions, and what it says of their run: a turn that goes on leaves the rest to run, one that stops ends it.
-- Assumes nothing.
use mathlib.Core.Path.{◌≡◌, refl, sym, ap, ◌∙◌, subst}
use mathlib.Core.Logic.{◌⊎◌, inl, inr, ⊎_elim}
use mathlib.Core.Bool.{true}
use mathlib.Core.List.{List}
use Prim.Native.Nat.{ℕ, ◌+◌, ◌-◌, ◌≤◌, ◌<◌}
use native.Mathlib.Omega.{arith}
use lib.ListN.{length, get_or}
use lib.Bits.{bit_or}
use Rattle.std.proofs.Common.{Some, None, Ok, Err}
use borrow.Author.Tests.{le-leb, ne_eqb}
use Rattle.mcode.specs.Opcode.{lengths}
use Rattle.mcode.specs.Image.{most_modules, parse}
use Rattle.mcode.specs.Machine.{State, Live, go, halt, machine, is_machine}
use Rattle.mcode.specs.Step.{Lent, instruction_of, read_of}
use Rattle.mcode.specs.Run.{tally, tallied, after, run_n, lent_to, instruction_tally, step_tally, refused, stopped as ended, run_refusal, run_of}
use Rattle.mcode.specs.declared.Machine.{Machine}
use Rattle.mcode.specs.declared.Stop.{Stop}
use Rattle.mcode.specs.declared.Stop.TheVariants.{Spent}
use Rattle.mcode.proofs.Compose as compose
use Rattle.mcode.proofs.Points.{instruction-preserves}
use Rattle.mcode.proofs.Standing.{good_of}
use Rattle.actions.specs.declared.Core.{Core}
use Rattle.actions.specs.Core.{Left, shown, held, result_of, read_at}
use Rattle.actions.specs.Table.{Anchored}
use Rattle.execute.specs.Stepping.{turned, opcode_at, chosen_op, Asks, Prepared}
use Rattle.execute.proofs.Laws.{read_is}
use Rattle.execute.proofs.Whole.{lends}
use Rattle.execute.proofs.Fits.{asks_of, listed_of}
use Rattle.execute.proofs.Went.{Stopped, turn-goes, turn-stops}
use Rattle.engine.specs.Judged.{Passed}
use Rattle.engine.specs.declared.steps.Stepping.{Stepping}
use Rattle.engine.specs.Loops.{Ready, Keeps, Stretched, lent_by, held_by, ended_at}

-- what a turn answers: it went on, or it stopped
abbrev result_went : State → Left
result_went y = record { stop = None; state = y }

abbrev result_stopped : Stop → State → Left
result_stopped k y = record { stop = Some k; state = y }

module _ (lent : Lent) (x : State) (n left : ℕ) (within : left ≤ n) where
  done : n - (n - left) ≡ left
  done = omega (arith, within)

  module _ (y : State) (e : result_went y ≡ turned lent left x) (v : ℕ) where
    went : (left ≡ 0 → ⊥) × (instruction_of lent x ≡ go y)
    went = turn-goes lent left x (result_went y) e refl

    -- a turn that goes on had budget left, since spent is a stop
    pub turn_more : 1 ≤ left
    turn_more = omega (arith, went.0)

    pub turn-went : instruction_of lent x ≡ go y
    turn-went = went.1

    -- count steps of the budget n are done where `left` is left; the word of channels, v before
    pub turn-next : after (n - left) (run_n (instruction_tally lent) left (tally x v)) ≡ after (n + 1 - left) (run_n (instruction_tally lent) (left - 1) (tally y (bit_or v (read_of lent x))))
    turn-next =
        let q : n - left + 1 ≡ n + 1 - left = omega (arith, within) in
        let r : n - (n + 1 - left) ≡ left - 1 = omega (arith, within, turn_more) in
        let t = compose.turn (instruction_tally lent) n (n - left) (tally x v) _ (omega (arith, within, turn_more)) (ap (tallied (bit_or v (read_of lent x))) turn-went) in
        rw (done, q, r) at t

  module _ (k : Stop) (y : State) (e : result_stopped k y ≡ turned lent left x) (v : ℕ) where
    abbrev Found : Type 0
    Found = (k ≡ Spent) × (left ≡ 0) × (y ≡ x) ⊎ (1 ≤ left) × (instruction_of lent x ≡ halt k) × (y ≡ x)

    found : Found
    found = by (turn-stops lent left x (result_stopped k y) e (λ z. cc z))
      where
        by : ((left ≡ 0) × (result_stopped k y ≡ result_stopped Spent x)) ⊎ ((left ≡ 0 → ⊥) × Stopped x (instruction_of lent x) (result_stopped k y)) → Found
        by (inl (z, q)) = let p : Some k ≡ Some Spent = ap (λ (l : Left). l.stop) q in inl (cc, z, ap (λ (l : Left). l.state) q)
        by (inr (m, w)) = let p : Some k ≡ Some w.why = w.stop in let j : k ≡ w.why = cc in inr (omega (arith, m), w.halts ∙ ap halt (sym j), w.same)

    -- a stop leaves all as it was
    pub stop-same : y ≡ x
    stop-same = ⊎_elim (λ q. q.2) (λ q. q.2) found

    pub turn-stop : ended_at k (n - left) (tally y v) ≡ after (n - left) (run_n (instruction_tally lent) left (tally x v))
    turn-stop = rw stop-same (⊎_elim spent stops found)
      where
        spent : (k ≡ Spent) × (left ≡ 0) × (y ≡ x) → ended_at k (n - left) (tally x v) ≡ after (n - left) (run_n (instruction_tally lent) left (tally x v))
        spent q = rw q.0 (rw done at (compose.spent (instruction_tally lent) n (n - left) (tally x v) (omega (arith, q.1))))

        stops : (1 ≤ left) × (instruction_of lent x ≡ halt k) × (y ≡ x) → ended_at k (n - left) (tally x v) ≡ after (n - left) (run_n (instruction_tally lent) left (tally x v))
        stops q = rw done at (compose.found (instruction_tally lent) n (n - left) (tally x v) k (omega (arith, within, q.0)) (ap (tallied (bit_or v (read_of lent x))) q.1))

-- ---- the loop, over what run has tested

-- the same, where other registers stand
abbrev pub at_core : Stepping → Core → Stepping
at_core a r = record a { core = r }

-- the same, where other words stand
abbrev pub held_as : Stepping → List ℕ → List ℕ → List ℕ → ℕ → Stepping
held_as a stack store outputs taken = record a { stack = stack; store = record a.store { now = store }; outputs = record a.outputs { now = outputs }; taken = taken }

-- a position is below 32,768
pub near : {a : Stepping} → Ready a → a.core.pc - a.core.start ≤ 32767
near {a} R =
    let g = good_of (parse a.image.now).program a.map.now (length a.store.now) (machine (shown a.core) a.stack) R.good in
    omega (arith, g.at.within, (R.prepared.told.laid.sound a.core.unit g.at.loaded).short)

pub keeps_all : (a : Stepping) → Keeps a a
keeps_all a = record { image = refl; table = refl; map = refl; inputs = refl; store = refl; outputs = refl; sized = refl }

pub keeps_on : {a b c : Stepping} → Keeps a b → Keeps b c → Keeps a c
keeps_on K L = record {
  image = L.image ∙ K.image;
  table = L.table ∙ K.table;
  map = L.map ∙ K.map;
  inputs = L.inputs ∙ K.inputs;
  store = L.store ∙ K.store;
  outputs = L.outputs ∙ K.outputs;
  sized = L.sized ∙ K.sized;
}

-- whatever registers stand
keeps-so : {a b : Stepping} {r q : Core} → Keeps a b → Keeps (at_core a r) (at_core b q)
keeps-so K = record { image = K.image; table = K.table; map = K.map; inputs = K.inputs; store = K.store; outputs = K.outputs; sized = K.sized }

pub same_lent : {a b : Stepping} → Keeps a b → lent_by b ≡ lent_by a
same_lent K = rw (K.image, K.map, K.inputs) refl

-- what is ready leads to what is a machine again, and so ready
pub ready_on : {a b : Stepping} → Keeps a b → Ready a → Anchored a.table.now b.core
    → (is_machine (parse a.image.now).program a.map.now (length b.store.now) (machine (shown b.core) b.stack) ≡ true) × (length b.store.now ≡ length a.store.now) × (length b.outputs.now ≡ 16) → Ready b
ready_on {a} {b} K R h (g, s, o) = record {
  prepared = rw (K.image, K.table, K.map, K.sized) R.prepared;
  good = rw (K.image, K.map) g;
  anchored = rw K.table h;
  outputs = o;
  inputs = rw K.inputs R.inputs;
}

-- what is held as it was is ready as it was
pub still : {a b : Stepping} → Keeps a b → held_by b ≡ held_by a → Anchored a.table.now b.core → Ready a → Ready b
still {a} {b} K e h R =
    ready_on K R h (
      subst (λ (y : State). is_machine (parse a.image.now).program a.map.now (length y.store) y.machine ≡ true) (sym e) R.good,
      K.sized,
      ap (λ (y : State). length y.outputs) e ∙ R.outputs,
    )

-- before a turn from b, in a stretch from a: the budget that is left with one added, a machine, and the rest still to run
pub record Going (n : ℕ) (a b : Stepping) (left : ℕ) (r : Core) : Type 0 where
  pub more : 1 ≤ left
  pub most : left ≤ n + 1
  pub keeps : Keeps a b
  pub spent : b.left ≡ a.left
  pub requests : b.requests ≡ a.requests
  pub ready : Ready (at_core b r)
  pub rest : run_n (instruction_tally (lent_by a)) n (tally (held_by a) a.taken) ≡ after (n + 1 - left) (run_n (instruction_tally (lent_by a)) (left - 1) (tally (held_by (at_core b r)) b.taken))

pub begins : (n : ℕ) (a : Stepping) → Ready a → Going n a a (n + 1) a.core
begins n a R = record {
  more = omega arith;
  most = omega arith;
  keeps = keeps_all a;
  spent = refl;
  requests = refl;
  ready = R;
  rest =
      let p : n + 1 - (n + 1) ≡ 0 = omega arith in
      let q : n + 1 - 1 ≡ n - 0 = omega arith in
      rw (p, q) (compose.begin (instruction_tally (lent_by a)) n (tally (held_by a) a.taken));
}

module _ (n : ℕ) (a b : Stepping) (left : ℕ) (r : Core) (G : Going n a b left r) where
  abbrev x : State
  x = held_by (at_core b r)

  pub asks : Asks b.image.now b.table.now b.map.now (length b.store.now) (opcode_at b.image.now r) r
  asks = asks_of b.image.now b.table.now b.map.now (length b.store.now) G.ready.prepared b.stack r G.ready.good G.ready.anchored

  pub listed : 1 ≤ get_or lengths (opcode_at b.image.now r) 0
  listed = listed_of b.image.now b.table.now b.map.now (length b.store.now) G.ready.prepared b.stack r G.ready.good G.ready.anchored

  -- the turns that are done, and what is left to do before it
  before : n + 1 - left ≡ n - (left - 1)
  before = omega (arith, G.more)

  within : left - 1 ≤ n
  within = omega (arith, G.most, G.more)

  pub goes_on : (q : Core) (c : Stepping) → result_of r (Ok q) c.stack c.store.now c.outputs.now ≡ turned (lent_by b) (left - 1) (held_by (at_core b r))
      → c.taken ≡ bit_or b.taken (read_at (chosen_op (left - 1) (opcode_at b.image.now r)) r b.stack) → Anchored b.table.now q → Keeps b c → c.left ≡ b.left → c.requests ≡ b.requests → Going n a c (left - 1) q
  goes_on q c e d h K u v =
      let R = G.ready in
      let y = held_by (at_core c q) in
      let more = turn_more (lent_by b) x n (left - 1) within y e b.taken in
      let read : c.taken ≡ bit_or b.taken (read_of (lent_by b) x) =
      (rw (ne_eqb (left - 1) 0 (λ k. omega (arith, more, k))) at d) ∙ ap (bit_or b.taken) (read_is r b.stack b.store.now b.outputs.now (lends b.inputs.now R.prepared) R.anchored) in
      let next = turn-next (lent_by b) x n (left - 1) within y e b.taken in
      record {
        more = more;
        most = omega (arith, G.most);
        keeps = keeps_on G.keeps K;
        spent = u ∙ G.spent;
        requests = v ∙ G.requests;
        ready = ready_on {a = at_core b r} {b = at_core c q} (keeps-so K) R h (instruction-preserves (lent_by b) R.prepared.fits x R.good R.outputs y (turn-went (lent_by b) x n (left - 1) within y e b.taken));
        rest =
            G.rest
            ∙ rw (before, read) (subst (λ (k : Lent). after (n - (left - 1)) (run_n (instruction_tally k) (left - 1) (tally x b.taken)) ≡ after (n + 1 - (left - 1)) (run_n (instruction_tally k) (left - 1 - 1) (tally y (bit_or b.taken (read_of (lent_by b) x))))) (same_lent G.keeps) next);
      }

  -- it stops, and the machine stands where it stopped
  pub stops_so : (k : Stop) (c : Stepping) → result_of r (Err k) c.stack c.store.now c.outputs.now ≡ turned (lent_by b) (left - 1) (held_by (at_core b r))
      → c.taken ≡ b.taken → Keeps b c → n ≤ a.left → c.requests ≡ b.requests → c.core ≡ r → c.left ≡ b.left - (n - (left - 1)) → Stretched n a k c
  stops_so k c e d K w v o u =
      let R = G.ready in
      let y = held_by (at_core c r) in
      let f : a.left - c.left ≡ n - (left - 1) = omega (arith, u, G.spent, w) in
      let there : held_by c ≡ y = ap (λ (j : Core). held j c.stack c.store.now c.outputs.now) o in
      let stop = turn-stop (lent_by b) x n (left - 1) within k y e b.taken in
      record {
        most = omega (arith, u, G.spent);
        ends =
            rw (f, d, there) (subst (λ (j : Lent). ended_at k (n - (left - 1)) (tally y b.taken) ≡ after (n - (left - 1)) (run_n (instruction_tally j) (left - 1) (tally x b.taken))) (same_lent G.keeps) stop)
            ∙ sym (rw before at G.rest);
        requests = v ∙ G.requests;
        ready = still {a = at_core b r} {b = c} (keeps-so K) (there ∙ stop-same (lent_by b) x n (left - 1) within k y e b.taken) (rw o R.anchored) R;
        keeps = keeps_on G.keeps K;
      }

-- a machine's module is one of the table
pub loaded-few : (image table map : List ℕ) (w : ℕ) → Prepared image table map w → (m : Machine) → is_machine (parse image).program map w m ≡ true → m.registers.unit < most_modules
loaded-few image table map w P m g = omega (arith, (good_of (parse image).program map w m g).at.loaded, P.told.small)

-- what run has tested, with the registers of the machine
pub ready : {a : Stepping} {m : Machine} → Passed a.image.now a.map.now m (length a.store.now) (length a.outputs.now) (length a.inputs.now) a.table.now → shown a.core ≡ m.registers → a.stack ≡ m.stack → Anchored a.table.now a.core → Ready a
ready P e s h = record {
  prepared = P.prepared;
  good = rw (e, s) P.machine;
  anchored = h;
  outputs = P.outputs;
  inputs = P.inputs;
}

-- ---- run's two answers

module _ (image map inputs : List ℕ) (n : ℕ) (x : Live) where
  pub refused-run : (number : ℕ) → number ≡ run_refusal image map inputs x.state → 1 ≤ number → refused number x ≡ run_of image map inputs n x
  unfolding run_of
  refused-run number e l = let h : 1 ≤ run_refusal image map inputs x.state = omega (arith, e, l) in rw (le-leb 1 (run_refusal image map inputs x.state) h, e)

  pub stopped-run : 0 ≡ run_refusal image map inputs x.state → ended (run_n (step_tally (lent_to image map inputs)) n (tally x 0)) ≡ run_of image map inputs n x
  unfolding run_of
  stopped-run e = rw (← e) refl
