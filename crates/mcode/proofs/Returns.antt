-- A procedure that returns through an untouched frame lands behind its call, and the main body ends. Assumes nothing.
use mathlib.Core.Path.{◌≡◌, refl, sym, ap, ap₂, ◌∙◌, subst}
use mathlib.Core.Logic.{◌⊎◌, inl, inr}
use mathlib.Core.Bool.{Bool, true, false}
use mathlib.Core.List.{List, [], ◌∷◌}
use Prim.Native.Nat.{ℕ, zero, suc, ◌+◌, ◌-◌, ◌/◌, ◌≤◌, ◌<◌}
use native.Mathlib.Nat.{add-zero}
use native.Mathlib.Decide.{ℕ_discrete}
use native.Mathlib.Omega.{arith}
use lib.ListN.{length, get_or, set, length-map, get_or-map}
use lib.Dec.{ltb, eqb}
use borrow.Author.Tests.{ltb-false, leb-true, lt-ltb, le-ltb, eq-eqb, ne_eqb}
use Rattle.mcode.specs.declared.Position.{Position}
use Rattle.mcode.specs.declared.Registers.{Registers}
use Rattle.mcode.specs.declared.Module.{Module}
use Rattle.mcode.specs.declared.Program.{Program}
use Rattle.mcode.specs.declared.Machine.{Machine}
use Rattle.mcode.specs.declared.Stop.TheVariants.{StackLimit}
use Rattle.mcode.specs.Word.{pick}
use Rattle.mcode.specs.Opcode.{lengths, takens, lefts}
use Rattle.mcode.specs.Image.{no_module, parse, module_of, bases_of, entry_of, params_of, results_of}
use Rattle.mcode.specs.Depths.{Follows, promised, leaves, calls, onward, carry, depths, mark_at, marks_of, map_fits}
use Rattle.mcode.specs.Machine.{State, state, Outcome, go, halt, position, machine, at, framed}
use Rattle.mcode.specs.Decode.{Action, Call, CallLinked, CallExternal, sized, decode_of, row14, row15}
use Rattle.mcode.specs.Step.{word_in, call, unit_of, unit_based, back_to, returned, written, perform_of, instruction_of}
use Rattle.mcode.specs.Run.{lent_to}
use Rattle.mcode.specs.Layout.{Told}
use Rattle.mcode.specs.Demands.{opcode_at, is_call, is_plain, Untouched, Resumed, Behind, Goes, arrived, by-step, Within, entered, stays, calls as called, transfers, interrupted, CallReturns, MainEnds}
use Rattle.mcode.proofs.Compose.{go_same}
use Rattle.mcode.proofs.Marks.{promised-mark, return-permitted, leaves-passed}
use Rattle.mcode.proofs.Standing.{At, good_of, marked-at, fits-part, part-mark}
use Rattle.mcode.proofs.Rows.{own_row}
use Rattle.mcode.proofs.FlowRows.{flow_of}
use Rattle.mcode.proofs.Zeros.{written_in}
use Rattle.mcode.proofs.Shapes.{Kept, Stays, promised_at, Here, P, R, D, M, U, Op, opcode, Mark, rules, Marks, Asks, next-at, next-stays}
use Rattle.mcode.proofs.Frames.{asks-call, in-other}
use Rattle.mcode.proofs.Keeps.{decodes, next_at, asked, step-goes}
use Rattle.mcode.proofs.Lines.{live-goes}
use Rattle.mcode.proofs.Reader.{told}
use Rattle.mcode.proofs.Load.{loaded}
use Rattle.mcode.proofs.Session.{start-here}

-- ---- the words of a frame

-- a base leads to the first module that has it, and no other module has it
first-based : (bases : List ℕ) (n u : ℕ) → u < n → u < length bases → ((j : ℕ) → j < u → get_or bases j 0 ≡ get_or bases u 0 → ⊥) → unit_of bases n (get_or bases u 0) ≡ u
unfolding unit_of
first-based [] n u l h d = absurd (let z : ⊥ = omega arith in z)
first-based (b ∷ bases) zero u l h d = absurd (let z : ⊥ = omega arith in z)
first-based (b ∷ bases) (suc n) zero l h d = rw (eq-eqb b b refl) refl
first-based (b ∷ bases) (suc n) (suc u) l h d =
    rw (ne_eqb b (get_or bases u 0) (d 0 (omega arith))) (ap suc (first-based bases n u (omega arith) (omega arith) (λ j k. d (suc j) (omega arith))))

unit-based : {image : List ℕ} {program : Program} → Told image program → (u : ℕ) → u < program.count → unit_based program (get_or (bases_of program) u 0) ≡ u
unit-based {program = program} T u l =
    first-based (bases_of program) program.count u l (omega (arith, length-map program.modules base, T.table, T.small))
    (λ j k e. omega (arith, e, base-of j, base-of u, T.laid.rising j u k l))
  where
    base : Module → ℕ
    base m = m.base

    base-of : (j : ℕ) → get_or (bases_of program) j 0 ≡ (module_of program j).base
    base-of j = get_or-map base program.modules j no_module

-- in module u, a frame with this link and this next position leads back to position t of module k: "Below 8000 hex it is a position here,
-- else minus 8000 hex in the module whose base is word L"
abbrev LeadsTo : Program → (k t u link next : ℕ) → Type 0
LeadsTo program k t u link next = ((next ≡ t) × (u ≡ k)) ⊎ ((next ≡ t + 0x8000) × (unit_based program link ≡ k))

-- ---- calls

-- the actions of a call
data Calls : Action → Type 0 where
  near : (i : ℕ) → Calls (Call i)
  linked : (i : ℕ) → Calls (CallLinked i)
  far : (k i : ℕ) → Calls (CallExternal k i)

-- an opcode from 355 on has one of them
calls-row : (o : ℕ → ℕ) (r : Registers) (bases : List ℕ) (op : ℕ) → 0o355 ≤ op → op < 256 → 0 < get_or lengths op 0 → Calls (decode_of op o r bases).action
unfolding lengths decode_of row14 row15
calls-row o r bases op l h u = by (ℕ_discrete op 0o355) (ℕ_discrete op 0o356) (ℕ_discrete op 0o357)
  where
    one : (t : Bool) (j k : ℕ) → Calls (pick t (sized 2 (Call j)) (sized 1 (Call k))).action
    one true j k = near j
    one false j k = near k

    by : Dec (op ≡ 0o355) → Dec (op ≡ 0o356) → Dec (op ≡ 0o357) → Calls (decode_of op o r bases).action
    by (yes e) b c = rw e (far (o 1) (o 2))
    by (no a) (yes e) c = rw e (linked (o 1))
    by (no a) (no b) (yes e) = absurd (let z : ⊥ = omega (arith, rw e at u) in z)
    by (no a) (no b) (no c) = let e : op / 16 ≡ 15 = omega arith in rw e (one (eqb op 0o360) (o 1) (op - 0o360))

module _ (H : Here) where
  -- y is where a call leads: its procedure promises the results that are expected at q, behind the call, and by the words of the new frame
  -- q is found again
  record Enters (q : ℕ) (y : State) : Type 0 where
    link : ℕ
    next : ℕ
    results : ℕ
    few : results ≤ 16
    behind : Marks H q results
    promise : promised_at (P H) H.lent.map y.machine ≡ results
    frame : y.machine.registers.l.0 ≡ (R H).s.0
    limit : y.machine.registers.h.0 ≡ (R H).h.0
    room : (R H).s.0 + 4 ≤ (R H).h.0
    words : (i : ℕ) → i < 3 → word_in y ((R H).s.0 + i) ≡ get_or (link ∷ (R H).l.0 ∷ next ∷ []) i 0
    leads : LeadsTo (P H) (R H).unit q y.machine.registers.unit link next

  abbrev Said : ℕ → Outcome → Type 0
  Said q (go y) = Enters q y
  Said q (halt k) = Unit {0}

  -- a call of procedure i of module k, from this depth and stack
  call_enters : (T : Told H.lent.image (P H)) → (k i link next e q : ℕ) (p : Position) (d : ℕ) (stack : List ℕ) → k < (P H).count → Asks H (calls H.lent.image (module_of (P H) k) i q e)
      → LeadsTo (P H) (R H).unit q k link next → Said q (call H.lent k i link next (machine (at p d (R H)) stack) H.x)
  unfolding call written
  call_enters T k i link next e q p d stack l f leads = by-test (ltb (R H).h.0 ((R H).s.0 + 4)) refl
    where
      m : Module
      m = module_of (P H) k

      image : List ℕ
      image = H.lent.image

      y : State
      y = state (machine (at (position (entry_of image m i)) d (framed k (R H).s.0 ((R H).s.0 + 4) (R H))) stack)
          (set (set (set H.x.store (R H).s.0 link) ((R H).s.0 + 1) (R H).l.0) ((R H).s.0 + 2) next) H.x.outputs

      by-test : (t : Bool) → ltb (R H).h.0 ((R H).s.0 + 4) ≡ t → Said q (pick t (halt StackLimit) (go y))
      by-test true t = tt
      by-test false t =
          let (lt, a, marks) = asks-call H p m i q e f in
          let sound = T.laid.sound k l in
          let r : (R H).s.0 + 4 ≤ (R H).h.0 = ltb-false _ _ t in
          let two : (R H).s.0 + 2 ≡ (R H).s.0 + 1 + 1 = omega arith in
          let entry = sym (part-mark image (P H) H.lent.map H.fit k (entry_of image m i) l (sound.entries i lt)) ∙ (fits-part image (P H) H.lent.map H.fit k l).enters i lt in
          record {
            link = link;
            next = next;
            results = results_of image m i;
            few = let s = sound.results i lt in omega arith;
            behind = marks;
            promise = ap promised entry ∙ promised-mark (params_of image m i) (results_of image m i) 0 0 (omega (arith, sound.params i lt)) (omega (arith, sound.results i lt)) (omega arith);
            frame = refl;
            limit = refl;
            room = r;
            words = λ j h. rw two (written_in (link ∷ (R H).l.0 ∷ next ∷ []) (R H).s.0 H.x.store j ((R H).s.0 + j) refl h (omega (arith, H.kept.sized, H.kept.good.high)));
            leads = leads;
          }

  perform-enters : (T : Told H.lent.image (P H)) → (q : Position) {a : Action} → Calls a → (e : ℕ) → Asks H (flow_of H.lent.image (P H) (module_of (P H) (R H).unit) q.0 e a) → Said q.0 (perform_of H.lent a q H.x)
  unfolding perform_of
  perform-enters T q (near i) e f = call_enters T (R H).unit i _ _ e q.0 (R H).pc (D H) (M H).stack H.kept.good.at.loaded f (inl (refl, refl))
  perform-enters T q (linked i) e f = call_enters T (R H).unit i _ _ e q.0 q (D H - 1) (set (M H).stack (D H - 1) 0) H.kept.good.at.loaded f (inl (refl, refl))
  perform-enters T q (far k i) e f = let (l, g) = in-other H q k i q.0 e f in call_enters T k i _ _ e q.0 (R H).pc (D H) (M H).stack l g (inr (refl, unit-based (T) (R H).unit H.kept.good.at.loaded))

  -- the next position
  abbrev Next : ℕ
  Next = (R H).pc.0 + get_or lengths (opcode H) 0

  call_step : (T : Told H.lent.image (P H)) → {y : State} → is_call (opcode H) ≡ true → instruction_of H.lent H.x ≡ go y → Enters Next y
  unfolding instruction_of
  call_step T t e =
      let l = leb-true 0o355 (opcode H) t in
      let c = calls-row _ _ _ (opcode H) l (decodes H).below (rules H).listed in
      let no_store = ne_eqb (opcode H) 0o262 (λ z. omega arith) in
      let no-fetch = ne_eqb (opcode H) 0o260 (λ z. omega arith) in
      rw (decodes H).size (subst (Said (next_at H).0) e (perform-enters T (next_at H) c _ (asked H no_store no-fetch)))

  -- ---- returns

  step-return : opcode H ≡ 0o354 → instruction_of H.lent H.x ≡ returned H.lent H.x
  unfolding instruction_of decode_of row14 perform_of
  step-return e = rw e refl

  -- position t of module k, with what the frame says
  abbrev landed : ℕ → ℕ → State
  landed k t = state (machine (at (position t) (D H) (framed k (word_in H.x ((R H).l.0 + 1)) (R H).l.0 (R H))) (M H).stack) H.x.store H.x.outputs

  lands : (k t : ℕ) → At (P H) H.lent.map k t (D H) → back_to H.lent k t H.x ≡ go (landed k t)
  unfolding back_to
  lands k t a = rw (lt-ltb k (P H).count a.loaded, marked-at (P H) H.lent.map k t (D H) a) refl

  return-lands : (T : Told H.lent.image (P H)) → (k t : ℕ) → (R H).l.0 ≤ (R H).h.0 → At (P H) H.lent.map k t (D H)
      → LeadsTo (P H) k t (R H).unit (word_in H.x (R H).l.0) (word_in H.x ((R H).l.0 + 2)) → returned H.lent H.x ≡ go (landed k t)
  unfolding returned
  return-lands T k t h a (inl (e, u)) =
      let s : t < 0x7fff = omega (arith, a.within, (T.laid.sound k a.loaded).short) in
      rw (le-ltb (R H).h.0 (R H).l.0 h, e, ne_eqb t 0x7fff (λ z. omega arith), lt-ltb t 0x8000 (omega arith)) (ap (λ (j : ℕ). back_to H.lent j t H.x) u ∙ lands k t a)
  return-lands T k t h a (inr (e, u)) =
      let m : t + 0x8000 - 0x8000 ≡ t = omega arith in
      rw (le-ltb (R H).h.0 (R H).l.0 h, e, ne_eqb (t + 0x8000) 0x7fff (λ z. omega arith), le-ltb (t + 0x8000) 0x8000 (omega arith), u, m) (lands k t a)

-- ---- the same activation

stays_on : {program : Program} {map : List ℕ} {a b c : Machine} → Stays program map a b → Stays program map b c → Stays program map a c
stays_on s t = record { unit = t.unit ∙ s.unit; frame = t.frame ∙ s.frame; limit = t.limit ∙ s.limit; promise = t.promise ∙ s.promise }

module _ (image map : List ℕ) (parsed : (parse image).refusal ≡ 0) (fit : map_fits image (parse image).program map ≡ true) (w : ℕ) where
  abbrev program : Program
  program = (parse image).program

  abbrev f : List ℕ → State → Outcome
  f inputs = instruction_of (lent_to image map inputs)

  abbrev Ok : State → Type 0
  Ok x = Kept program map w x

  abbrev here : List ℕ → (x : State) → Ok x → Here
  here inputs x k = record { lent = lent_to image map inputs; fit = fit; w = w; x = x; kept = k }

  -- a return in the activation that a call began, through the frame that the call made
  returns : (given inputs : List ℕ) (x y z : State) (k : Ok x) → Ok z → Enters (here given x k) (Next (here given x k)) y → Stays program map y.machine z.machine
      → opcode_at image z.machine ≡ 0o354 → Untouched y z → (v : State) × ((f inputs z ≡ go v) × Behind image x v)
  returns given inputs x y z k kz E S op U = (
    landed Z u q,
    (
      step-return Z op ∙ return-lands Z (told image parsed) u q (omega (arith, frame, S.limit, E.limit, E.room)) there (back E.leads),
      record { unit = refl; next = refl; frame = word 1 (omega arith); stack = frame; limit = S.limit ∙ E.limit },
    ),
  )
    where
      Z : Here
      Z = here inputs z kz

      u : ℕ
      u = x.machine.registers.unit

      q : ℕ
      q = Next (here given x k)

      l : ℕ
      l = z.machine.registers.l.0

      frame : l ≡ x.machine.registers.s.0
      frame = S.frame ∙ E.frame

      word : (i : ℕ) → i < 3 → word_in z (l + i) ≡ get_or (E.link ∷ x.machine.registers.l.0 ∷ E.next ∷ []) i 0
      word i h = ap (λ (j : ℕ). word_in z (j + i)) S.frame ∙ U i h ∙ ap (λ (j : ℕ). word_in y (j + i)) E.frame ∙ E.words i h

      deep : E.results ≡ D Z
      deep = sym E.promise ∙ sym S.promise ∙ sym (return-permitted (Mark Z) (rw op at (rules Z).permitted)) ∙ kz.good.at.here

      there : At program map u q (D Z)
      there = next-at (here given x k) q (D Z) E.few E.behind deep

      back : LeadsTo program u q y.machine.registers.unit E.link E.next → LeadsTo program u q z.machine.registers.unit (word_in z l) (word_in z (l + 2))
      back (inl (e, n)) = inl (word 2 (omega arith) ∙ e, S.unit ∙ n)
      back (inr (e, n)) = inr (word 2 (omega arith) ∙ e, ap (λ (j : ℕ). unit_based program (word_in z j)) (sym (add-zero l)) ∙ ap (unit_based program) (word 0 (omega arith)) ∙ n)

  -- behind an instruction whose next position is marked as a successor; what is marked does not depend on the inputs
  behind-stays : (x v : State) (k : Ok x) {e : ℕ} → e ≤ 16 → Marks (here [] x k) (Next (here [] x k)) e → Behind image x v → Stays program map x.machine v.machine
  behind-stays x v k {e} h m b = next-stays (here [] x k) v.machine h (rw b.next m) b.unit b.frame b.limit

  behind-transfer : (x v : State) → Ok x → opcode_at image x.machine ≡ 0o256 → Behind image x v → Stays program map x.machine v.machine
  unfolding onward
  behind-transfer x v k op b =
      let H = here [] x k in
      let r = rules H in
      let e = D H - get_or takens (opcode H) 0 + get_or lefts (opcode H) 0 in
      let f = subst (λ (j : ℕ). Follows (depths image program (U H)) (marks_of map (U H)) (carry (leaves (Mark H) j) (onward image program (U H) (R H).pc.0 j (Op H 1) (Op H 2) (Next H) e))) op r.goes_on in
      behind-stays x v k r.room (f ∙ leaves-passed (Mark H) 0o256 e refl refl) b

  -- z is a machine in the activation of y: after a plain step, a whole call, a transfer; so within all of it
  record Same (y z : State) : Type 0 where
    kept : Ok z
    stays : Stays program map y.machine z.machine

  plain-same : (inputs : List ℕ) {y z v : State} → Same y z → is_plain (opcode_at image z.machine) ≡ true → f inputs z ≡ go v → Same y v
  plain-same inputs {z = z} s t e =
      let H = here inputs z s.kept in
      let (k, (d, l)) = step-goes H e in
      record { kept = k; stays = stays_on s.stays (l (opcode H) (own_row _ _ _ (opcode H) (decodes H).below) t) }

  call_same : (given inputs : List ℕ) {y z a b v : State} → Same y z → is_call (opcode_at image z.machine) ≡ true → f given z ≡ go a
      → (Ok a → Same a b) → opcode_at image b.machine ≡ 0o354 → Untouched a b → f inputs b ≡ go v → Same y v
  call_same given inputs {z = z} {a = a} {b = b} {v = v} s t e i op u g =
      let H = here given z s.kept in
      let E = call_step H (told image parsed) t e in
      let n = i (step-goes H e).0 in
      let (v', (g', B)) = returns given inputs z a b s.kept n.kept E n.stays op u in
      let c : v' ≡ v = go_same (sym g' ∙ g) in
      record { kept = (step-goes (here inputs b n.kept) g).0; stays = stays_on s.stays (behind-stays z v s.kept E.few E.behind (rw c at B)) }

  -- any steps lead from a machine to a machine
  goes_kept : {x y : State} → Ok x → Goes image map x y → Ok y
  goes_kept k arrived = k
  goes_kept k (by-step inputs v u {x = x} e g) = goes_kept (live-goes (here inputs x k) v e).0 g

  transfer-same : {y z v : State} → Same y z → opcode_at image z.machine ≡ 0o256 → Goes image map z v → Behind image z v → Same y v
  transfer-same {z = z} {v = v} s op g B = record { kept = goes_kept s.kept g; stays = stays_on s.stays (behind-transfer z v s.kept op B) }

  interrupted-same : {y z v : State} → Same y z → Goes image map z v → Resumed z.machine.registers.pc.0 z v → Same y v
  interrupted-same {z = z} {v = v} s g B = record {
    kept = goes_kept s.kept g;
    stays = stays_on s.stays (record { unit = B.unit; frame = B.frame; limit = B.limit; promise = ap₂ (λ (k p : ℕ). promised (mark_at map (module_of program k) p)) B.unit B.next });
  }

  same : {y z : State} → Ok y → Within image map y z → Same y z
  same k entered = record { kept = k; stays = record { unit = refl; frame = refl; limit = refl; promise = refl } }
  same k (stays inputs i t e) = plain-same inputs (same k i) t e
  same k (called given inputs i t e j op u g) = call_same given inputs (same k i) t e (λ l. same l j) op u g
  same k (transfers i op g B) = transfer-same (same k i) op g B
  same k (interrupted i g B) = interrupted-same (same k i) g B

pub call_returns : CallReturns
unfolding CallReturns
call_returns image map parsed fit x y z g o given t e i op u inputs =
    let w = length x.store in
    let P = (parse image).program in
    let k : Kept P map w x = record { good = good_of P map w x.machine g; sized = refl; outs = o } in
    let H = here image map parsed fit w given x k in
    let s = same image map parsed fit w (step-goes H e).0 i in
    returns image map parsed fit w given inputs x y z k s.kept (call_step H (told image parsed) t e) s.stays op u

pub main-ends : MainEnds
unfolding MainEnds returned
main-ends image before map L store outputs s o z i op u inputs =
    let l = loaded image before map L in
    let w = length store in
    let (c, k, m) = start-here image map l store outputs s o in
    let S = same image map l.parsed l.fit w k i in
    let r = z.machine.registers in
    let word = ap (λ (j : ℕ). word_in z (j + 2)) S.stays.frame ∙ u 2 (omega arith) ∙ m.1 in
    step-return (here image map l.parsed l.fit w inputs z S.kept) op ∙ rw (le-ltb r.h.0 r.l.0 (omega (arith, S.stays.frame, S.stays.limit, m.0)), word) refl
