-- What is right of a step's outcome: it goes on to a machine that stands, having taken and put what the action does, in the same
-- activation where its opcode is plain, or it finds a stop that is not spent. Assumes nothing.
use mathlib.Core.Path.{◌≡◌, refl, ap, ◌∙◌}
use mathlib.Core.Bool.{Bool, true, false}
use mathlib.Core.List.{List}
use Prim.Native.Nat.{ℕ, ◌+◌, ◌-◌, ◌≤◌}
use native.Mathlib.Omega.{arith}
use lib.ListN.{length, get_or, set, length-set}
use lib.Dec.{T, ltb}
use Rattle.mcode.specs.declared.Position.{Position}
use Rattle.mcode.specs.declared.Machine.{Machine}
use Rattle.mcode.specs.declared.Stop.{Stop}
use Rattle.mcode.specs.Word.{Value}
use Rattle.mcode.specs.Decode.{Action, OrJump, AndJump, Transfer, Save, Fetch}
use Rattle.mcode.specs.Word.{pick}
use Rattle.mcode.specs.Image.{bases_of}
use Rattle.mcode.specs.Depths.{passed}
use Rattle.mcode.specs.Machine.{State, state, Outcome, go, halt, depth, top, second, take1}
use Rattle.mcode.specs.Step.{goes, stores_to, in_store, low_at, has_pair, in_pair, reads_pair, writes_pair, word_in, computed, stacked, saved_store, fetched_stack}
use Rattle.mcode.specs.Demands.{is_plain, Left}
use Rattle.mcode.proofs.Rows.{taken_by, left_by, own_op}
use Rattle.mcode.proofs.Faults.{Found, Real, is, fault}
use Rattle.mcode.proofs.Shapes.{Stays, Here, P, R, D, M, Mark, Marks, Ok, Counts, Fine, take1-fine}

-- the outcome goes on to a machine that stands, and did what is asked, or it is a stop
pub data Rightly (H : Here) (Q : State → Type 0) : Outcome → Type 0 where
  on : {y : State} → Ok H y → Q y → Rightly H Q (go y)
  off : {k : Stop} → Found k → Rightly H Q (halt k)

pub by-test : (H : Here) {Q : State → Type 0} (t : Bool) {o u : Outcome} → (t ≡ true → Rightly H Q o) → (t ≡ false → Rightly H Q u) → Rightly H Q (pick t o u)
by-test H true f g = f refl
by-test H false f g = g refl

module _ (H : Here) (n : Position) where
  -- what the action did, with y the next state and n the next position
  pub data Did (y : State) : Action → Type 0 where
    rows : {a : Action} → Left (D H - taken_by a) H.x y → depth y.machine ≡ D H - taken_by a + left_by a → Did y a
    no_or : {t : Position} → Left (D H - 1) H.x y → depth y.machine ≡ D H - 1 → Did y (OrJump t)
    no-and : {t : Position} → Left (D H - 1) H.x y → depth y.machine ≡ D H - 1 → Did y (AndJump t)
    other : {b : ℕ} → y.store ≡ saved_store (get_or (bases_of (P H)) (R H).unit 0) n (second (M H)) H.x (D H - 2) → depth y.machine ≤ 16 → Did y (Transfer b)
    away : y.store ≡ stacked (M H).stack (D H) (R H).s.0 H.x.store → depth y.machine ≡ 0 → Did y Save
    again : (k : ℕ) → D H ≡ 1 → k ≡ word_in H.x ((R H).s.0 - 1) → k ≤ 15 → y.machine.stack ≡ fetched_stack H.x.store k ((R H).s.0 - 1 - k) (top (M H)) → depth y.machine ≡ k + 1 → Did y Fetch

  -- the step to m stays in the activation, unless no opcode of the action is plain
  abbrev pub Leads : Action → Machine → Type 0
  Leads a m = (op : ℕ) → T (own_op op a) → is_plain op ≡ true → Stays (P H) H.lent.map (M H) m

  abbrev pub Right : Action → Outcome → Type 0
  Right a o = Rightly H (λ y. Did y a × Leads a y.machine) o

module _ (H : Here) (n : Position) {a : Action} where
  -- to the machine m, which the row describes; with another store, other outputs
  pub led : (m : Machine) (s o : List ℕ) → Counts H (taken_by a) (left_by a) m → Leads H n a m → length s ≡ length H.x.store → length o ≡ length H.x.outputs → Right H n a (go (state m s o))
  led m s o f l p q = on (record { good = f.good; sized = p ∙ H.kept.sized; outs = q ∙ H.kept.outs }) (rows f.left f.deep, l)

  pub to-all : (m : Machine) (s o : List ℕ) → Fine H (taken_by a) (left_by a) m → length s ≡ length H.x.store → length o ≡ length H.x.outputs → Right H n a (go (state m s o))
  to-all m s o f = led m s o f.counts (λ op t p. f.stays)

  pub to : (m : Machine) → Fine H (taken_by a) (left_by a) m → Right H n a (goes H.x m)
  to m f = to-all m H.x.store H.x.outputs f refl refl

  pub to-either : (t : Bool) (m m' : Machine) → Right H n a (goes H.x m) → Right H n a (goes H.x m') → Right H n a (goes H.x (pick t m m'))
  to-either true m m' f g = f
  to-either false m m' f g = g

  pub in-store : (k : ℕ) {o : Outcome} → Right H n a o → Right H n a (in_store H.x k o)
  in-store k f = by-test H (ltb k (length H.x.store)) (λ t. f) (λ t. off tt)

  -- a word is read, or v is written, at k
  pub reads : (k : ℕ) (m : Machine) → Fine H (taken_by a) (left_by a) m → Right H n a (in_store H.x k (goes H.x m))
  reads k m f = in-store k (to m f)

  pub writes : (k v : ℕ) (m : Machine) → Fine H (taken_by a) (left_by a) m → Right H n a (in_store H.x k (stores_to H.x m (set H.x.store k v)))
  writes k v m f = in-store k (to-all m (set H.x.store k v) H.x.outputs f (length-set H.x.store k v) refl)

  -- a pair is read, or written, at k: both addresses are tested before anything else
  in-pair : (k : ℕ) {o : Outcome} → Right H n a o → Right H n a (in_pair H.x k o)
  in-pair k f = by-test H (has_pair (length H.x.store) k) (λ t. f) (λ t. off tt)

  pub reads-pair : (k : ℕ) (m : ℕ → ℕ → Machine) → ((u v : ℕ) → Fine H (taken_by a) (left_by a) (m u v)) → Right H n a (reads_pair H.x k m)
  reads-pair k m f = in-pair k (to _ (f _ _))

  pub writes-pair : (k u v : ℕ) (m : Machine) → Fine H (taken_by a) (left_by a) m → Right H n a (writes_pair H.x k u v m)
  writes-pair k u v m f =
      in-pair k (to-all m (set (set H.x.store k u) (low_at k) v) H.x.outputs f (length-set (set H.x.store k u) (low_at k) v ∙ length-set H.x.store k u) refl)

  pub computes : {v : Value} (m : ℕ → Machine) → Real v → ((u : ℕ) → Fine H (taken_by a) (left_by a) (m u)) → Right H n a (computed v (λ u. goes H.x (m u)))
  computes m (is {v = u}) f = to (m u) (f u)
  computes m (fault k) f = off k

-- 036 and 037 that do not jump
module _ (H : Here) (n : Position) where
  fallen : D H - 1 + 1 ≤ 16 → Marks H n.0 (D H - 1 + 1 - 1) → Fine H 1 0 (take1 n (M H))
  fallen h f = let z : D H - 1 + 1 - 1 ≡ D H - 1 + 0 = omega arith in take1-fine H n (omega arith) (f ∙ ap (passed (Mark H)) z)

  pub falls-or : (t : Position) → D H - 1 + 1 ≤ 16 → Marks H n.0 (D H - 1 + 1 - 1) → Right H n (OrJump t) (goes H.x (take1 n (M H)))
  falls-or t h f = let g = fallen h f in on (record { good = g.counts.good; sized = H.kept.sized; outs = H.kept.outs }) (no_or g.counts.left refl, λ op o p. g.stays)

  pub falls-and : (t : Position) → D H - 1 + 1 ≤ 16 → Marks H n.0 (D H - 1 + 1 - 1) → Right H n (AndJump t) (goes H.x (take1 n (M H)))
  falls-and t h f = let g = fallen h f in on (record { good = g.counts.good; sized = H.kept.sized; outs = H.kept.outs }) (no-and g.counts.left refl, λ op o p. g.stays)

-- what is right, of a known outcome
abbrev pub Says : Here → (State → Type 0) → Outcome → Type 0
Says H Q (go y) = Ok H y × Q y
Says H Q (halt k) = Found k

pub says : (H : Here) (Q : State → Type 0) {o : Outcome} → Rightly H Q o → Says H Q o
says H Q (on k d) = (k, d)
says H Q (off f) = f
