-- Laws of processes in the store: their tests, and their record word by word. Assumes nothing.
use mathlib.Core.Path.{◌≡◌, refl, ap, ◌∙◌}
use mathlib.Core.Bool.{Bool, true, false, not}
use mathlib.Core.List.{List, [], ◌∷◌}
use Prim.Native.Nat.{ℕ, ◌+◌, ◌-◌, ◌<◌, ◌≤◌}
use native.Mathlib.Omega.{arith}
use lib.Dec.{ltb, leb, eqb}
use lib.ListN.{length, get_or, set, replicate}
use borrow.Author.Tests.{leb-true, ltb-true}
use Rattle.std.specs.Prelude.{Ok, Err}
use Rattle.mcode.specs.declared.Stop.{Stop}
use Rattle.mcode.specs.declared.Stop.TheVariants.{BadProcess}
use Rattle.mcode.specs.Word.{pick, and, or}
use Rattle.mcode.specs.Image.{most_modules}
use Rattle.mcode.specs.Machine.{State, go, position, stop_number}
use Rattle.mcode.specs.Step.{Lent, Process, process_at, is_process, standing, unit_based, restored, written, saved_store, restored_machine, is_target, changed, switched, is_caught, caught, trapped}
use Rattle.mcode.proofs.Tests.{and_both}
use Rattle.actions.specs.declared.Core.{Core}
use Rattle.actions.specs.Core.{held, left_by, result_of}
use Rattle.actions.specs.Table.{Anchored, Lends}
use Rattle.control.specs.Table.{first_based, stands_in, Mapped}
use Rattle.control.specs.Transfer.{sized, target_in, catcher_in, resumed}
use Rattle.control.proofs.Laws.{based, from_start}
use Rattle.control.proofs.Find.{find-stands, find, stands-few}

-- what the tests say
pub record Sized (w q : ℕ) (x : Process) : Type 0 where
  pub whole : q + 8 ≤ w
  pub margin : 24 ≤ x.v
  pub some : 1 ≤ x.s
  pub inside : x.s ≤ w
  pub few : x.k ≤ 16
  pub below : x.k < x.s

pub sizes : (w q : ℕ) (x : Process) → sized w q x ≡ true → Sized w q x
unfolding sized
sizes w q x e =
    let a = and_both (leb (q + 8) w) _ e in
    let b = and_both (and (leb 24 x.v) (leb x.v w)) _ a.1 in
    let c = and_both (and (leb 1 x.s) (leb x.s w)) _ b.1 in
    let d = and_both (and (leb x.k 16) (ltb x.k x.s)) _ c.1 in
    let v = and_both (leb 24 x.v) (leb x.v w) b.0 in
    let s = and_both (leb 1 x.s) (leb x.s w) c.0 in
    let k = and_both (leb x.k 16) (ltb x.k x.s) d.0 in
    record {
      whole = leb-true (q + 8) w a.0;
      margin = leb-true 24 x.v v.0;
      some = leb-true 1 x.s s.0;
      inside = leb-true x.s w s.1;
      few = leb-true x.k 16 k.0;
      below = ltb-true x.k x.s k.1;
    }

regroup : (a b c d e s : Bool) → and a (and b (and c (and d (and e s)))) ≡ and (and a (and b (and c (and d e)))) s
regroup false b c d e s = refl
regroup true false c d e s = refl
regroup true true false d e s = refl
regroup true true true false e s = refl
regroup true true true true e s = refl

-- the tests by the store, then by the lent numbers and marks
pub process-in : {bytes table marks words : List ℕ} {lent : Lent} → Lends bytes table marks words lent
    → (w q : ℕ) (x : Process) → is_process lent w q x ≡ and (sized w q x) (stands_in table marks (first_based table x.g) x.pc x.k)
unfolding is_process sized
process-in {lent} h w q x =
    regroup (leb (q + 8) w) (and (leb 24 x.v) (leb x.v w)) (and (leb 1 x.s) (leb x.s w)) (and (leb x.k 16) (ltb x.k x.s)) (leb (x.s - 1 - x.k) (x.v - 24)) (standing lent (unit_based lent.program x.g) x.pc x.k)
    ∙ ap (λ (t : Bool). and (sized w q x) t) (find-stands h x.g x.pc x.k)

pub written-six : (g l at m s v p : ℕ) (store : List ℕ)
    → written (g ∷ l ∷ at ∷ m ∷ s ∷ v ∷ []) p store ≡ set (set (set (set (set (set store p g) (p + 1) l) (p + 2) at) (p + 3) m) (p + 4) s) (p + 5) v
unfolding written
written-six g l at m s v p store =
    let b : p + 1 + 1 ≡ p + 2 = omega arith in
    let c : p + 2 + 1 ≡ p + 3 = omega arith in
    let d : p + 3 + 1 ≡ p + 4 = omega arith in
    let e : p + 4 + 1 ≡ p + 5 = omega arith in
    rw (b, c, d, e)

pub anchored-resumed : (table : List ℕ) (k b p : ℕ) (x : Process) (r q : Core) → k < most_modules → q ≡ resumed table k b p x r → Anchored table q
anchored-resumed table k b p x r q h e = rw e (record { few = h; start = refl; g = refl; own = omega arith })

pub not_so : {k t n : ℕ} → k ≡ t → (k ≡ n → ⊥) → t ≡ n → ⊥
not_so e f z = f (e ∙ z)

-- which module the target is in, and whether there is one
module _ (table marks store : List ℕ) (q : ℕ) where
  abbrev Passes : Bool
  Passes = and (sized (length store) q (process_at store q)) (stands_in table marks (first_based table (process_at store q).g) (process_at store q).pc (process_at store q).k)

  passes : (target_in table marks store q ≡ most_modules → ⊥) → (Passes ≡ true) × (target_in table marks store q ≡ first_based table (process_at store q).g)
  unfolding target_in
  passes n = by Passes refl
    where
      by : (t : Bool) → Passes ≡ t → (Passes ≡ true) × (target_in table marks store q ≡ first_based table (process_at store q).g)
      by true e = (e, rw e refl)
      by false e = absurd (n (rw e refl))

  pub target_fits : (target_in table marks store q ≡ most_modules → ⊥) → sized (length store) q (process_at store q) ≡ true
  target_fits n = (and_both (sized (length store) q (process_at store q)) _ (passes n).0).0

  module _ (m : Mapped table marks) where
    pub target-few : (target_in table marks store q ≡ most_modules → ⊥) → target_in table marks store q < most_modules
    target-few n =
        let (t, e) = passes n in
        let x = process_at store q in
        rw e (stands-few table marks (first_based table x.g) x.pc x.k m (and_both (sized (length store) q x) _ t).1)

    fails : target_in table marks store q ≡ most_modules → Passes ≡ false
    unfolding target_in
    fails z = by Passes refl
      where
        by : (t : Bool) → Passes ≡ t → Passes ≡ false
        by false e = e
        by true e =
            let x = process_at store q in
            let l = stands-few table marks (first_based table x.g) x.pc x.k m (and_both (sized (length store) q x) _ e).1 in
            absurd (let c : ⊥ = omega (arith, l, rw e at z) in c)

module _ {bytes table marks words : List ℕ} {lent : Lent} (h : Lends bytes table marks words lent) (r : Core) (q : ℕ) (stack store out : List ℕ) where
  abbrev x : State
  x = held r stack store out

  is-target : (target_in table marks store q ≡ most_modules → ⊥) → is_target lent q x ≡ true
  is-target t = process-in h (length store) q (process_at store q) ∙ (passes table marks store q t).0

  no_target : Mapped table marks → target_in table marks store q ≡ most_modules → is_target lent q x ≡ false
  no_target m z = process-in h (length store) q (process_at store q) ∙ fails table marks store q m z

  -- the change to a process that passes the tests, with the old one saved over whichever store
  changed-in : Anchored table r → (target_in table marks store q ≡ most_modules → ⊥) → (b to n c : ℕ) (over : List ℕ)
      → left_by x (go (changed lent b (position to) n c q over x))
      ≡ result_of r (Ok (resumed table (target_in table marks store q) b q (process_at store q) r))
      (restored store (process_at store q).k ((process_at store q).s - 1 - (process_at store q).k) (replicate 16 0))
      (saved_store r.g.0 (position to) c (held r stack over []) n) out
  unfolding changed restored_machine saved_store
  changed-in a t b to n c over =
      let (p, f) = passes table marks store q t in
      let e = (and_both (sized (length store) q (process_at store q)) _ p).1 in
      rw (f, find h _ _ _ e, (based h.tabled a).own, from_start)

  -- a transfer to it, and one that is 35
  pub switched-in : Anchored table r → (target_in table marks store q ≡ most_modules → ⊥) → (b to n c : ℕ)
      → left_by x (switched lent b (position to) n c q x)
      ≡ result_of r (Ok (resumed table (target_in table marks store q) b q (process_at store q) r))
      (restored store (process_at store q).k ((process_at store q).s - 1 - (process_at store q).k) (replicate 16 0))
      (saved_store r.g.0 (position to) c (held r stack store []) n) out
  unfolding switched
  switched-in a t b to n c = rw (is-target t) (changed-in a t b to n c store)

  pub switched-not : Mapped table marks → target_in table marks store q ≡ most_modules → (b to n c : ℕ) → left_by x (switched lent b (position to) n c q x) ≡ result_of r (Err BadProcess) stack store out
  unfolding switched
  switched-not m z b to n c = rw (no_target m z)

-- ---- a trap that the process in word 14 catches, and a stop that none does

both : (t u : Bool) (v : ℕ) → (pick (and t u) v most_modules ≡ most_modules → ⊥) → (t ≡ true) × (u ≡ true)
both true true v n = (refl, refl)
both true false v n = absurd (n refl)
both false u v n = absurd (n refl)

not-all : (t u w : Bool) (v : ℕ) → (v ≡ most_modules → w ≡ false) → pick (and t u) v most_modules ≡ most_modules → and t (and u w) ≡ false
not-all true true w v f z = f z
not-all true false w v f z = refl
not-all false u w v f z = refl

module _ (table marks store : List ℕ) (p number : ℕ) where
  catches : (catcher_in table marks store p number ≡ most_modules → ⊥) → (leb 32 number ≡ true) × (not (or (eqb (get_or store 14 0) 0) (eqb (get_or store 14 0) p)) ≡ true)
  unfolding catcher_in
  catches n = both (leb 32 number) _ (target_in table marks store (get_or store 14 0)) n

  catcher-target : (catcher_in table marks store p number ≡ most_modules → ⊥) → catcher_in table marks store p number ≡ target_in table marks store (get_or store 14 0)
  unfolding catcher_in
  catcher-target n = rw ((catches n).0, (catches n).1) refl

  -- of the process that catches it, which is in module k
  module _ {k : ℕ} (e : k ≡ catcher_in table marks store p number) (n : k ≡ most_modules → ⊥) where
    target_is : target_in table marks store (get_or store 14 0) ≡ most_modules → ⊥
    target_is = not_so (catcher-target (not_so e n)) (not_so e n)

    pub caught-few : Mapped table marks → k < most_modules
    caught-few m = rw (e, catcher-target (not_so e n)) (target-few table marks store (get_or store 14 0) m target_is)

    pub caught-fits : {q : ℕ} → q ≡ get_or store 14 0 → sized (length store) q (process_at store q) ≡ true
    caught-fits w = rw w (target_fits table marks store (get_or store 14 0) target_is)

module _ {bytes table marks words : List ℕ} {lent : Lent} (h : Lends bytes table marks words lent) (r : Core) (stack store out : List ℕ) (k : Stop) where
  abbrev y : State
  y = held r stack store out

  abbrev c : ℕ
  c = catcher_in table marks store r.p.0 (stop_number k)

  pub trapped-in : Anchored table r → (c ≡ most_modules → ⊥)
      → left_by y (trapped lent k y)
      ≡ result_of r (Ok (resumed table c 1 (get_or store 14 0) (process_at store (get_or store 14 0)) r))
      (restored store (process_at store (get_or store 14 0)).k ((process_at store (get_or store 14 0)).s - 1 - (process_at store (get_or store 14 0)).k) (replicate 16 0))
      (saved_store r.g.0 (position (r.pc - r.start)) 15 (held r stack (set store (r.p.0 + 6) (stop_number k)) []) r.depth) out
  unfolding trapped is_caught caught
  trapped-in a n =
      let (t, u) = catches table marks store r.p.0 (stop_number k) n in
      let e = catcher-target table marks store r.p.0 (stop_number k) n in
      let m : target_in table marks store (get_or store 14 0) ≡ most_modules → ⊥ = not_so e n in
      rw (t, u, is-target h r (get_or store 14 0) stack store out m, e) (changed-in h r (get_or store 14 0) stack store out a m 1 (r.pc - r.start) r.depth 15 (set store (r.p.0 + 6) (stop_number k)))

  pub trapped-not : Mapped table marks → c ≡ most_modules → left_by y (trapped lent k y) ≡ result_of r (Err k) stack store out
  unfolding trapped is_caught catcher_in
  trapped-not m z =
      rw (not-all (leb 32 (stop_number k)) (not (or (eqb (get_or store 14 0) 0) (eqb (get_or store 14 0) r.p.0))) (is_target lent (get_or store 14 0) y) (target_in table marks store (get_or store 14 0)) (no_target h r (get_or store 14 0) stack store out m) z) refl
