-- What load answers of the place that it names, and what a place in a module explains.
use mathlib.Core.Path.{◌≡◌, refl, sym, ap, ◌∙◌, subst}
use mathlib.Core.Logic.{◌⊎◌, inl, inr, ⊎_elim}
use mathlib.Core.Bool.{Bool, true, false, false≢true}
use mathlib.Core.List.{List}
use Prim.Native.Nat.{ℕ, ◌≤◌, ◌<◌}
use native.Mathlib.Omega.{arith}
use lib.ListN.{length, replicate, length-replicate}
use lib.Dec.{ltb}
use borrow.Author.Tests.{ltb-false}
use Rattle.mcode.specs.declared.Module.{Module}
use Rattle.mcode.specs.declared.Program.{Program}
use Rattle.mcode.specs.Word.{pick}
use Rattle.mcode.specs.Image.{Parsed, parse, module_of, code_byte}
use Rattle.mcode.specs.Layout.{Sound, Told}
use Rattle.mcode.specs.Depths.{NoneFits, depths}
use Rattle.mcode.specs.Walk.{walk, cause_at, is_nothing, whole_at, Reached, AllWhole, Broken}
use Rattle.mcode.specs.Run.{Verdict, verdict, fault_at, Judged, accepts, breaks, unfit}
use Rattle.mcode.specs.Answer.{parsed_of, verdict_of, refusal_verdict}
use Rattle.mcode.specs.declared.Refusal.{Refusal}
use Rattle.mcode.specs.Demands.{LoadAccepts}
use Rattle.mcode.specs.declared.Cause.{Cause}
use Rattle.mcode.proofs.Load.{load-accepts}
use Rattle.loader.proofs.Answers.{refused-some, read-so}
use Rattle.mcode.proofs.Reached.{walk-fits}
use Rattle.mcode.proofs.Tests.{inside}
use Rattle.explain.specs.declared.Why.{Why}
use Rattle.explain.specs.declared.Wrong.{Wrong}
use Rattle.explain.specs.declared.Wrong.TheVariants.{Fault, Meet, Rule, Call}
use Rattle.explain.specs.Reason.{fault_of, fault_there, Amiss, AtPlace, Unfit, Explains, Explained}
use Rattle.std.proofs.Common.{Option, Some, None, Result, Ok, Err}
use Rattle.std.specs.Result.{result_ok, result_err}
use Rattle.loader.specs.Load.{LoadsProgram}

module _ (image : List ℕ) (program : Program) (k : ℕ) (loaded : k < program.count) where
  abbrev m : Module
  m = module_of program k

  pub explained-so : NoneFits (depths image program m) → (w : Option Why) → AtPlace image program m k w → Explained image program w
  explained-so N None A = tt
  explained-so N (Some why) A = go why.wrong A.3 (subst (λ (j : ℕ). Unfit image program j why) (sym A.0) (loaded, N, A))
    where
      go : (w : Wrong) → Amiss image program m why.pc.0 why.op w → Unfit image program why.unit why → Explains image program why w
      go (Fault cause) B U = absurd B
      go (Meet x y) B U = U
      go (Rule x) B U = U
      go (Call x n) B U = U

  pub found-so : (w : Option Why) → (w ≡ None) ⊎ (NoneFits (depths image program m) × AtPlace image program m k w) → Explained image program w
  found-so w (inl e) = subst (Explained image program) (sym e) tt
  found-so w (inr (N, A)) = explained-so N w A

-- a position that is reached lies in the code
reached-inside : (image : List ℕ) (m : Module) → Sound image m → (p : ℕ) → Reached image m p → p < m.length
reached-inside image m S p r =
    let n = length-replicate {A = ℕ} m.length 0 in
    omega (arith, n, inside (walk image m) (replicate m.length 0) p (r (replicate m.length 0) (walk-fits image m S)))

-- a place at fault lies in the code
pub place-so : (image : List ℕ) (program : Program) → Told image program → (k p : ℕ) → Broken image program k p → (k < program.count) × (p < (module_of program k).length)
place-so image program T k p B = (B.loaded, reached-inside image (module_of program k) (T.laid.sound k B.loaded) p B.reached)

-- what the reader answered, from its program or from none
pub read-as : (image : List ℕ) (r : Result Program Refusal) (program : Program) → Some program ≡ result_ok r → parsed_of r ≡ parse image → parsed_of (Ok program) ≡ parse image
read-as image (Ok q) program e p = let z : program ≡ q = cc in rw z p
read-as image (Err k) program e p = cc

pub unread-as : (image : List ℕ) (r : Result Program Refusal) → None ≡ result_ok r → parsed_of r ≡ parse image → (parse image).refusal ≡ 0 → ⊥
unread-as image (Ok q) e p z = cc
unread-as image (Err k) e p z = refused-some image k p z

-- of an image that was read to the program: the answer of load
module _ (image before after : List ℕ) (program : Program) where
  -- from its refusal or from none
  pub loads-as : (r : Result (Unit {0}) Refusal) (k j : Refusal) → Some k ≡ result_err r → k ≡ j → LoadsProgram image program before (verdict_of r) after → LoadsProgram image program before (refusal_verdict j) after
  loads-as (Ok x) k j e q L = cc
  loads-as (Err i) k j e q L = let z : i ≡ j = cc in rw z at L

  pub accepts-as : (r : Result (Unit {0}) Refusal) → None ≡ result_err r → LoadsProgram image program before (verdict_of r) after → LoadsProgram image program before (verdict 0) after
  accepts-as (Ok x) e L = L
  accepts-as (Err i) e L = cc

  -- the place of 13
  pub broken-so : (k p : ℕ) → LoadsProgram image program before (fault_at k p) after → Broken image program k p
  broken-so k p L = go (ltb (length before) (length image)) L
    where
      go : (t : Bool) → pick t ((fault_at k p ≡ verdict 7) × (after ≡ before)) (Judged image program before (fault_at k p) after) → Broken image program k p
      go true L = absurd (omega (arith, ap (λ (w : Verdict). w.number) L.0))
      go false (accepts q A) = absurd (omega (arith, ap (λ (w : Verdict). w.number) q))
      go false (breaks q B D) = B
      go false (unfit q W N D) = absurd (omega (arith, ap (λ (w : Verdict). w.number) q))

  -- 8 is of a map that is long enough
  pub long-so : LoadsProgram image program before (verdict 8) after → length image ≤ length before
  long-so L = go (ltb (length before) (length image)) refl L
    where
      go : (t : Bool) → ltb (length before) (length image) ≡ t → pick t ((verdict 8 ≡ verdict 7) × (after ≡ before)) (Judged image program before (verdict 8) after)
          → length image ≤ length before
      go true e L = absurd (omega (arith, ap (λ (w : Verdict). w.number) L.0))
      go false e L = ltb-false (length before) (length image) e

  -- an answer other than 13 is of whole code
  pub whole-so : parsed_of (Ok program) ≡ parse image → (v : Verdict) → LoadsProgram image program before v after → (v.number ≡ 13 → ⊥)
      → length image ≤ length before → AllWhole image (parse image).program
  unfolding LoadAccepts
  whole-so e v L n l =
      let J = load-accepts image before v after (read-so image before program e v after L) (sym (ap (λ (p : Parsed). p.refusal) e)) l in
      (⊎_elim (λ z. (J.accepts z).0) (⊎_elim (λ z. absurd (n z)) (λ z. (J.unfit z).0)) J.one)

-- of the program, of the reader's
pub explained-as : (image : List ℕ) (program : Program) → parsed_of (Ok program) ≡ parse image → (w : Option Why) → Explained image program w → Explained image (parse image).program w
explained-as image program e w E = subst (λ (p : Parsed). Explained image p.program w) e E

-- a cause is found where code is not whole, and it is told
module _ (image : List ℕ) (program : Program) (k p : ℕ) (B : Broken image program k p) where
  op : ℕ
  op = code_byte image (module_of program k) p

  pub fault-so : (w : Option Why) → w ≡ fault_there image program k p → Explained image program w × (w ≡ None → ⊥)
  unfolding whole_at op
  fault-so w e = go (cause_at image program (module_of program k) p) refl e
    where
      go : (c : Option Cause) → cause_at image program (module_of program k) p ≡ c → w ≡ fault_of k p op c → Explained image program w × (w ≡ None → ⊥)
      go None q u = absurd (false≢true (sym B.fault ∙ ap is_nothing q))
      go (Some cause) q u = subst (λ (v : Option Why). Explained image program v × (v ≡ None → ⊥)) (sym u) ((B, ap (fault_of k p op) (sym q)), λ z. let f : ⊥ = cc in f)
