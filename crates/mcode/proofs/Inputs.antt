-- What a run takes of its inputs is in its word of channels: with other inputs that agree there it is the same run. Assumes nothing.
use mathlib.Core.Path.{◌≡◌, refl, sym, ap, ap₂, ◌∙◌, subst}
use mathlib.Core.Bool.{Bool, true, false}
use mathlib.Core.List.{List}
use Prim.Native.Nat.{ℕ, zero, suc, ◌^◌, ◌≤◌, ◌<◌}
use native.Mathlib.Decide.{dec_lt}
use native.Mathlib.Omega.{arith}
use lib.ListN.{length, get_or, set, get_or-eq_default}
use lib.Dec.{T, ltb, leb, eqb, eqb→eq}
use lib.Bits.{bit_or}
use borrow.Author.Tests.{eqb-true, eqb-false, eq-eqb}
use Rattle.mcode.specs.declared.Position.{Position}
use Rattle.mcode.specs.declared.Stop.{Stop}
use Rattle.mcode.specs.declared.Stop.TheVariants.{BadAddress, BadChannel}
use Rattle.mcode.specs.Word.{pick, bit}
use Rattle.mcode.specs.Image.{parse}
use Rattle.mcode.specs.Depths.{map_fits}
use Rattle.mcode.specs.Machine.{State, state, Live, live, OutcomeOf, Outcome, go, halt, leaving, handled, top, second, take2}
use Rattle.mcode.specs.Decode.{Action, Put, AddTop, Jump, JumpZero, OrJump, AndJump, Load, LoadTop, LoadIndexed, Store, StoreBelow, StoreIndexed, LoadByte, StoreByte, One, Two, Three, Copy, Nothing, Read, Write, Trap, Enter, Follow, Call, CallLinked, CallExternal, Return, Transfer, PutPair, LoadPair, LoadPairTop, StorePair, StorePairBelow, Double, Save, Fetch}
use Rattle.mcode.specs.Step.{Lent, stores_to, call, back_to, returned, is_process, restored_machine, changed, switched, transferred, stack_fetched, perform_of, instruction_of, line_of, taken_line, attempt_of, is_caught, caught, trapped, step_of, attempt_read, completed, step_read}
use Rattle.mcode.specs.Run.{RunEnd, after, next, run_n, Tally, tally, tallied, lent_to, step_tally, refused, stopped, run_refusal, run_of}
use Rattle.mcode.specs.Demands.{opcode_at, AgreeOn, Independent}
use Rattle.mcode.proofs.Tests.{first-or, second-or}
use Rattle.mcode.proofs.Rows.{own_op, own_row}
use Rattle.mcode.proofs.Compose.{run-go}
use Rattle.mcode.proofs.Bits.{bit-or, bit-weight}
use Rattle.mcode.proofs.Tallies.{tallied-goes, from-none}
use Rattle.mcode.proofs.Requests.{instruction-step, line_step}
use Rattle.mcode.proofs.Traps.{step-goes-on}
use Rattle.mcode.proofs.Standing.{good_of}
use Rattle.mcode.proofs.Shapes.{Kept, Here, opcode}
use Rattle.mcode.proofs.Keeps.{decoded, decodes, next_at}
use Rattle.mcode.proofs.Lines.{live-goes}
use Rattle.mcode.proofs.Refusals.{accepted}

module _ (image map a b : List ℕ) where
  abbrev A : Lent
  A = lent_to image map a

  abbrev B : Lent
  B = lent_to image map b

  -- both inputs have this channel
  abbrev Agree : ℕ → Type 0
  Agree i = get_or a i 0 ≡ get_or b i 0

  -- only a READ that is completed takes an input
  perform-same : (op : ℕ) (act : Action) → T (own_op op act) → (q : Position) (x : State) → ((y : State) → perform_of A act q x ≡ go y → op ≡ 0o240 → Agree (top x.machine))
      → perform_of A act q x ≡ perform_of B act q x
  unfolding perform_of call back_to returned is_process restored_machine changed switched transferred stack_fetched
  perform-same op (Put v) o q x h = refl
  perform-same op (AddTop k) o q x h = refl
  perform-same op (Jump t) o q x h = refl
  perform-same op (JumpZero t) o q x h = refl
  perform-same op (OrJump t) o q x h = refl
  perform-same op (AndJump t) o q x h = refl
  perform-same op (Load k) o q x h = refl
  perform-same op (LoadTop k) o q x h = refl
  perform-same op LoadIndexed o q x h = refl
  perform-same op (Store k) o q x h = refl
  perform-same op (StoreBelow k) o q x h = refl
  perform-same op StoreIndexed o q x h = refl
  perform-same op LoadByte o q x h = refl
  perform-same op StoreByte o q x h = refl
  perform-same op (One j) o q x h = refl
  perform-same op (Two j) o q x h = refl
  perform-same op (Three j) o q x h = refl
  perform-same op Copy o q x h = refl
  perform-same op Nothing o q x h = refl
  perform-same op Read o q x h = by (ltb 15 (top x.machine)) refl (ltb (second x.machine) (length x.store)) refl
    where
      wrote : ℕ → Outcome
      wrote v = stores_to x (take2 q x.machine) (set x.store (second x.machine) v)

      by : (s : Bool) → ltb 15 (top x.machine) ≡ s → (t : Bool) → ltb (second x.machine) (length x.store) ≡ t
          → pick s (halt BadChannel) (pick t (wrote (get_or a (top x.machine) 0)) (halt BadAddress)) ≡ pick s (halt BadChannel) (pick t (wrote (get_or b (top x.machine) 0)) (halt BadAddress))
      by true e t f = refl
      by false e false f = refl
      by false e true f = ap wrote (h (state (take2 q x.machine) (set x.store (second x.machine) (get_or a (top x.machine) 0)) x.outputs) (rw (e, f) refl) (eqb→eq op 0o240 o))
  perform-same op Write o q x h = refl
  perform-same op Trap o q x h = refl
  perform-same op (Enter k) o q x h = refl
  perform-same op (Follow k) o q x h = refl
  perform-same op (Call i) o q x h = refl
  perform-same op (CallLinked i) o q x h = refl
  perform-same op (CallExternal k i) o q x h = refl
  perform-same op Return o q x h = refl
  perform-same op (Transfer k) o q x h = refl
  perform-same op (PutPair u v) o q x h = refl
  perform-same op (LoadPair k) o q x h = refl
  perform-same op (LoadPairTop k) o q x h = refl
  perform-same op (StorePair k) o q x h = refl
  perform-same op (StorePairBelow k) o q x h = refl
  perform-same op (Double j) o q x h = refl
  perform-same op Save o q x h = refl
  perform-same op Fetch o q x h = refl

  line_same : (i : ℕ) (x : State) → taken_line A i x ≡ taken_line B i x
  unfolding taken_line is_process restored_machine changed switched
  line_same i x = refl

  trapped-same : (k : Stop) (x : State) → trapped A k x ≡ trapped B k x
  unfolding is_caught caught trapped is_process restored_machine changed
  trapped-same k x = refl

  module _ (fit : map_fits image (parse image).program map ≡ true) (w : ℕ) where
    abbrev Standing : Live → Type 0
    Standing x = Kept (parse image).program map w x.state

    abbrev H : (x : Live) → Standing x → Here
    H x k = record { lent = A; fit = fit; w = w; x = x.state; kept = k }

    -- a step is the same where the inputs agree on the channel that it takes
    module _ (x : Live) (k : Standing x) (h : (y : Live) → attempt_of A x ≡ go y → line_of x ≡ 0 → opcode_at image x.state.machine ≡ 0o240 → Agree (top x.state.machine)) where
      instruction-same : line_of x ≡ 0 → instruction_of A x.state ≡ instruction_of B x.state
      unfolding instruction_of
      instruction-same z =
          perform-same (opcode (H x k)) (decoded (H x k)).action (own_row _ _ _ (opcode (H x k)) (decodes (H x k)).below) (next_at (H x k)) x.state
          (λ y e o. h (live y x.requests) (instruction-step A x z ∙ ap (leaving x.requests) e) z o)

      attempt-same : attempt_of A x ≡ attempt_of B x
      attempt-same = by (eqb (line_of x) 0) refl
        where
          by : (t : Bool) → eqb (line_of x) 0 ≡ t → attempt_of A x ≡ attempt_of B x
          by true t =
              let z = eqb-true (line_of x) 0 t in
              instruction-step A x z ∙ ap (leaving x.requests) (instruction-same z) ∙ sym (instruction-step B x z)
          by false t =
              let n = eqb-false (line_of x) 0 t in
              let l : 1 ≤ line_of x = omega (arith, n) in
              line_step A x l ∙ ap (leaving _) (line_same (line_of x) x.state) ∙ sym (line_step B x l)

      step_same : step_of A x ≡ step_of B x
      unfolding step_of
      step_same = ap (handled (λ k. leaving x.requests (trapped A k x.state))) attempt-same ∙ by (attempt_of B x)
        where
          by : (o : OutcomeOf Live) → handled (λ k. leaving x.requests (trapped A k x.state)) o ≡ handled (λ k. leaving x.requests (trapped B k x.state)) o
          by (go y) = refl
          by (halt k) = ap (leaving x.requests) (trapped-same k x.state)

      channel-same : step_read A x ≡ step_read B x
      channel-same = ap (completed (attempt_read A x)) attempt-same

    abbrev F : Tally Live → OutcomeOf (Tally Live)
    F = step_tally A

    abbrev G : Tally Live → OutcomeOf (Tally Live)
    G = step_tally B

    -- the inputs agree on the channels of the word
    abbrev Agrees : ℕ → Type 0
    Agrees v = (i : ℕ) → bit v i ≡ true → Agree i

    module _ (n : ℕ) (x : Live) (c : ℕ) (agree : Agrees (run_n F (suc n) (tally x c)).state.channels) where
      -- a READ that is completed is in the word
      in-word : (y : Live) → attempt_of A x ≡ go y → line_of x ≡ 0 → opcode_at image x.state.machine ≡ 0o240 → Agree (top x.state.machine)
      in-word y e z o =
          let i = top x.state.machine in
          let k : step_read A x ≡ 2 ^ i = rw (e, eq-eqb (line_of x) 0 z, eq-eqb (opcode_at image x.state.machine) 0o240 o) refl in
          let v = bit_or c (step_read A x) in
          let s : F (tally x c) ≡ go (tally y v) = ap (tallied v) (step-goes-on A x y e) in
          let last : (run_n F (suc n) (tally x c)).state.channels ≡ bit_or v (run_n F n (tally y 0)).state.channels = ap (λ (d : RunEnd (Tally Live)). d.state.channels) (run-go F n (tally x c) (tally y v) s ∙ ap (after 1) (from-none (step_of A) (step_read A) n y v)) in
          agree i (ap (λ (d : ℕ). bit d i) last ∙ bit-or v (run_n F n (tally y 0)).state.channels i ∙ first-or (bit v i) _ (bit-or c (step_read A x) i ∙ second-or (bit c i) (bit (step_read A x) i) (ap (λ (d : ℕ). bit d i) k ∙ bit-weight i)))

    runs_same : (n : ℕ) (x : Tally Live) → Standing x.state → Agrees (run_n F n x).state.channels → run_n F n x ≡ run_n G n x
    unfolding run_n
    runs_same zero x k agree = refl
    runs_same (suc n) x k agree =
        let h = in-word n x.state x.channels agree in
        let s : F x ≡ G x = ap₂ (λ (v : ℕ) (o : OutcomeOf Live). tallied (bit_or x.channels v) o) (channel-same x.state k h) (step_same x.state k h) in
        from (λ y l g. runs_same n y l g) (F x) refl ∙ ap (next (run_n G n) x) s
      where
        from : ((y : Tally Live) → Standing y.state → Agrees (run_n F n y).state.channels → run_n F n y ≡ run_n G n y) → (o : OutcomeOf (Tally Live)) → F x ≡ o → next (run_n F n) x o ≡ next (run_n G n) x o
        from ih (go y) e =
            let kept = (live-goes (H x.state k) x.state.requests (tallied-goes (bit_or x.channels (step_read A x.state)) (step_of A x.state) y e).0).0 in
            ap (after 1) (ih y kept (subst (λ (d : RunEnd (Tally Live)). Agrees d.state.channels) (run-go F n x y e) agree))
        from ih (halt j) e = refl

  -- ---- of what run answers

  refusal-same : length a ≡ 16 → length b ≡ 16 → (x : State) → run_refusal image map a x ≡ run_refusal image map b x
  unfolding run_refusal
  refusal-same p q x = rw (p, q) refl

  -- 16 words have no other channels
  agree-all : length a ≡ 16 → length b ≡ 16 → (v : ℕ) → AgreeOn v a b → (i : ℕ) → bit v i ≡ true → Agree i
  agree-all p q v agree i t = by (dec_lt i 16)
    where
      by : Dec (i < 16) → Agree i
      by (yes l) = agree i l t
      by (no n) = get_or-eq_default a 0 (let z : length a ≤ i = omega (arith, p) in z) ∙ sym (get_or-eq_default b 0 (let z : length b ≤ i = omega (arith, q) in z))

  independently : length a ≡ 16 → length b ≡ 16 → (n : ℕ) (x : Live) → AgreeOn (run_of image map a n x).channels a b → run_of image map a n x ≡ run_of image map b n x
  unfolding run_of
  independently p q n x = by (leb 1 (run_refusal image map a x.state)) refl
    where
      r : run_refusal image map a x.state ≡ run_refusal image map b x.state
      r = refusal-same p q x.state

      by : (t : Bool) → leb 1 (run_refusal image map a x.state) ≡ t
          → AgreeOn (pick t (refused (run_refusal image map a x.state) x) (stopped (run_n (step_tally A) n (tally x 0)))).channels a b
          → pick t (refused (run_refusal image map a x.state) x) (stopped (run_n (step_tally A) n (tally x 0)))
          ≡ pick (leb 1 (run_refusal image map b x.state)) (refused (run_refusal image map b x.state) x) (stopped (run_n (step_tally B) n (tally x 0)))
      by true t agree = rw (sym r, t) refl
      by false t agree =
          let (L, h, i) = accepted image map a x.state t in
          let w = length x.state.store in
          let k : Kept (parse image).program map w x.state = record { good = good_of (parse image).program map w x.state.machine h.machine; sized = refl; outs = h.outs } in
          rw (sym r, t) (ap stopped (runs_same L.fit w n (tally x 0) k (agree-all p q _ agree)))

pub independent : Independent
unfolding Independent
independent image map a b n x p q agree = independently image map a b p q n x agree
