-- Laws of run's test of a machine. Assumes nothing.
use mathlib.Core.Path.{◌≡◌, refl, sym, ◌∙◌, subst}
use mathlib.Core.Bool.{Bool, true, false, not, false≢true}
use mathlib.Core.List.{List}
use Prim.Native.Nat.{ℕ, ◌+◌, ◌≤◌, ◌<◌}
use native.Mathlib.Omega.{arith}
use native.Mathlib.Decide.{dec_lt}
use lib.ListN.{get_or, length}
use lib.Dec.{ltb, leb, eqb}
use borrow.Author.Tests.{lt-ltb, le-ltb, le-leb, lt-leb, eq-eqb, eqb-true}
use Rattle.mcode.specs.Word.{pick, and, or, all_below}
use Rattle.std.proofs.Common.{Ok, Err, IsTrue, ◌↔◌}
use Rattle.mcode.specs.Image.{Parsed, parse, module_of, margin}
use Rattle.mcode.specs.Answer.{refusal_number, parsed_of}
use Rattle.mcode.specs.Layout.{Told}
use Rattle.mcode.specs.Depths.{marked, map_fits}
use Rattle.mcode.specs.Machine.{State, state, is_machine}
use Rattle.mcode.specs.Run.{store_fits, run_refusal}
use Rattle.mcode.specs.declared.Registers.{Registers}
use Rattle.mcode.specs.declared.Machine.{Machine}
use Rattle.mcode.specs.declared.Refusal.{Refusal}
use Rattle.mcode.specs.declared.Program.{Program}
use Rattle.actions.specs.Table.{module_in, Tabled}
use Rattle.control.specs.Table.{count_in, stands_in}
use Rattle.mcode.proofs.Tests.{all-at, at_all, first-or, second-or}
use Rattle.execute.specs.Stepping.{Prepared}
use Rattle.engine.specs.Numbers.{Narrow}
use Rattle.engine.specs.Judged.{zeros_above, framed_in, machine_in, Passed, Tells}
use Rattle.loader.proofs.Begin.{read_told, store-fits-so}
use Rattle.loader.proofs.Answers.{refused-as}
use Rattle.loader.proofs.Early.{numbered}

-- a test that fails at one number fails
pub all-fails : (n : ℕ) (f : ℕ → Bool) (k : ℕ) → k < n → f k ≡ false → all_below n f ≡ false
all-fails n f k l e = go (all_below n f) refl
  where
    go : (t : Bool) → all_below n f ≡ t → all_below n f ≡ false
    go true a = absurd (false≢true (sym e ∙ all-at n f a k l))
    go false a = a

module _ (stack : List ℕ) (depth : ℕ) where
  pub zeros-yes : ((k : ℕ) → depth ≤ k → k < 16 → get_or stack k 0 ≡ 0) → zeros_above stack depth ≡ true
  zeros-yes h = at_all 16 (λ i. or (ltb i depth) (eqb (get_or stack i 0) 0)) (λ k l. go k l (dec_lt k depth))
    where
      go : (k : ℕ) → k < 16 → Dec (k < depth) → or (ltb k depth) (eqb (get_or stack k 0) 0) ≡ true
      go k l (yes b) = first-or (ltb k depth) (eqb (get_or stack k 0) 0) (lt-ltb k depth b)
      go k l (no b) = second-or (ltb k depth) (eqb (get_or stack k 0) 0) (eq-eqb (get_or stack k 0) 0 (h k (omega (arith, b)) l))

  pub zeros-is : (b : Bool) → (IsTrue b ↔ ((k : ℕ) → depth ≤ k → k < 16 → get_or stack k 0 ≡ 0)) → b ≡ zeros_above stack depth
  zeros-is true h = sym (zeros-yes (h.0 refl))
  zeros-is false h = go (zeros_above stack depth) refl
    where
      go : (t : Bool) → zeros_above stack depth ≡ t → false ≡ t
      go true e = h.1 (λ k d l. eqb-true (get_or stack k 0) 0 (rw (le-ltb k depth d) at (all-at 16 (λ i. or (ltb i depth) (eqb (get_or stack i 0) 0)) e k l)))
      go false e = refl

and-false : (a : Bool) → and a false ≡ false
and-false true = refl
and-false false = refl

-- no position is marked with a depth above 16
pub too_deep : (table map : List ℕ) (k q d : ℕ) → 16 < d → stands_in table map k q d ≡ false
unfolding marked
too_deep table map k q d h = rw (lt-leb d 16 h, and-false (ltb q (module_in table k).length)) (and-false (ltb k (count_in table)))

-- the test by the lent numbers is the definition's
pub machine-same : (table map : List ℕ) (program : Program) → Tabled table program → (w : ℕ) (m : Machine) → is_machine program map w m ≡ machine_in table map w m
unfolding is_machine machine_in
machine-same table map program T w m = rw T.count (go (dec_lt m.registers.unit (count_in table)))
  where
    r : Registers
    r = m.registers

    rest : Bool → Bool
    rest t = and t (and (leb r.s.0 r.h.0) (and (leb (r.h.0 + margin) w) (and (leb (r.p.0 + 8) w) (zeros_above m.stack r.depth))))

    joined : (a b : Bool) → and a (rest b) ≡ and (and a b) (and (framed_in r w) (zeros_above m.stack r.depth))
    joined true true = regroup (leb r.s.0 r.h.0) (leb (r.h.0 + margin) w)
      where
        regroup : (c d : Bool) → and c (and d (and (leb (r.p.0 + 8) w) (zeros_above m.stack r.depth))) ≡ and (and c (and d (leb (r.p.0 + 8) w))) (zeros_above m.stack r.depth)
        regroup true true = refl
        regroup true false = refl
        regroup false d = refl
    joined true false = refl
    joined false b = refl

    go : Dec (r.unit < count_in table) → and (ltb r.unit (count_in table)) (rest (marked map (module_of program r.unit) r.pc.0 r.depth))
        ≡ and (stands_in table map r.unit r.pc.0 r.depth) (and (framed_in r w) (zeros_above m.stack r.depth))
    go (yes l) = rw (T.modules r.unit (omega (arith, l, T.count, T.few))) (joined (ltb r.unit (count_in table)) (marked map (module_in table r.unit) r.pc.0 r.depth))
    go (no n) = rw (le-ltb r.unit (count_in table) (omega (arith, n)))

-- run's refusal of an image that is read to this program
abbrev refusal_by : Program → List ℕ → List ℕ → List ℕ → State → ℕ
refusal_by program image map inputs x =
    pick (ltb (length map) (length image)) 7
    (pick (not (map_fits image program map)) 12
    (pick (not (store_fits program (length x.store))) 9
    (pick (not (and (eqb (length inputs) 16) (eqb (length x.outputs) 16))) 10
    (pick (not (is_machine program map (length x.store) x.machine)) 11
    0))))

module _ (image map : List ℕ) (m : Machine) (w outs ins : ℕ) where
  pub unread-so : (k : Refusal) → parsed_of (Err k) ≡ parse image → Tells image map m w outs ins (refusal_number k)
  unfolding run_refusal
  unread-so k e inputs store outputs i s o = rw (refused-as image k e, le-leb 1 (refusal_number k) (numbered k))

  -- the tests that judge has passed, in their order
  module _ (program : Program) (e : parsed_of (Ok program) ≡ parse image) where
    by_read : (number : ℕ) → ((inputs store outputs : List ℕ) → length inputs ≡ ins → length store ≡ w → length outputs ≡ outs → number ≡ refusal_by program image map inputs (state m store outputs)) → Tells image map m w outs ins number
    unfolding run_refusal
    by_read number h inputs store outputs i s o = rw (← e) (h inputs store outputs i s o)

    pub refused-7 : length map < length image → Tells image map m w outs ins 7
    refused-7 h = by_read 7 (λ inputs store outputs i s o. rw (lt-ltb (length map) (length image) h))

    module _ (l₂ : length image ≤ length map) where
      pub refused-12 : map_fits image program map ≡ false → Tells image map m w outs ins 12
      refused-12 h = by_read 12 (λ inputs store outputs i s o. rw (le-ltb (length map) (length image) l₂, h))

      module _ (l₃ : map_fits image program map ≡ true) where
        pub refused-9 : store_fits program w ≡ false → Tells image map m w outs ins 9
        refused-9 h = by_read 9 (λ inputs store outputs i s o. rw (le-ltb (length map) (length image) l₂, l₃, s, h))

        module _ (l₄ : store_fits program w ≡ true) where
          pub refused-10 : and (eqb ins 16) (eqb outs 16) ≡ false → Tells image map m w outs ins 10
          refused-10 h = by_read 10 (λ inputs store outputs i s o. rw (le-ltb (length map) (length image) l₂, l₃, s, l₄, i, o, h))

          module _ (l₅ : ins ≡ 16) (l₆ : outs ≡ 16) (table : List ℕ) (T : Tabled table program) where
            pub prepared-so : Prepared image table map w
            prepared-so = record {
              told = subst (λ (p : Parsed). Told image p.program) e (read_told image program e);
              covers = l₂;
              fits = subst (λ (p : Parsed). map_fits image p.program map ≡ true) e l₃;
              roomy = omega (arith, (store-fits-so program.end w l₄).0);
              small = (store-fits-so program.end w l₄).1;
              tabled = subst (λ (p : Parsed). Tabled table p.program) e T;
            }

            pub refused-11 : machine_in table map w m ≡ false → Tells image map m w outs ins 11
            refused-11 h =
                by_read 11 (λ inputs store outputs i s o. rw (le-ltb (length map) (length image) l₂, l₃, s, l₄, i, o, l₅, l₆, machine-same table map program T w m, h))

            pub passed-so : machine_in table map w m ≡ true → Tells image map m w outs ins 0 × Passed image map m w outs ins table
            passed-so h = (
              by_read 0 (λ inputs store outputs i s o. rw (le-ltb (length map) (length image) l₂, l₃, s, l₄, i, o, l₅, l₆, machine-same table map program T w m, h)),
              record {
                prepared = prepared-so;
                machine = subst (λ (p : Parsed). is_machine p.program map w m ≡ true) e (machine-same table map program T w m ∙ h);
                outputs = l₆;
                inputs = l₅;
              },
            )

-- after refusal 9 the numbers of the program are words
pub narrow-so : {image : List ℕ} {program : Program} (w : ℕ) → Told image program → store_fits program w ≡ true → Narrow program
narrow-so {image} {program} w T f =
    let (l, h) = store-fits-so program.end w f in
    record {
      few = T.small;
      words = λ k j. let s = T.laid.sound k j in record { code = omega (arith, s.within, T.brief); base = omega (arith, T.laid.below k j, l, h); table = s.near };
      blank = T.blank;
    }

pub one-short : (a b : Bool) → b ≡ false → and a b ≡ false
one-short a b e = rw e (and-false a)
