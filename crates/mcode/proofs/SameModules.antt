-- What the modules as values say of an image that is read; images with equal modules are judged alike by load, and get the same marks.
-- Assumes nothing.
use mathlib.Core.Path.{◌≡◌, refl, sym, ap, ◌∙◌}
use mathlib.Core.Bool.{Bool, true, false}
use mathlib.Core.List.{List}
use Prim.Native.Nat.{ℕ, ◌+◌, ◌≤◌, ◌<◌}
use native.Mathlib.Omega.{arith}
use lib.ListN.{length, get_or, drop}
use lib.Seq.{get_or-take, get_or-drop}
use Rattle.mcode.specs.declared.Module.{Module}
use Rattle.mcode.specs.declared.Program.{Program}
use Rattle.mcode.specs.Word.{pick, byte}
use Rattle.mcode.specs.Opcode.{lengths}
use Rattle.mcode.specs.Image.{parse, module_of, begin_of, code_byte, proc_count}
use Rattle.mcode.specs.Depths.{Fewest, depths, marks_of, takes_module}
use Rattle.mcode.specs.Run.{Verdict}
use Rattle.mcode.specs.Run.{verdict, Loads}
use Rattle.mcode.specs.Demands.{LoadAccepts}
use Rattle.mcode.specs.Archive.{Procedure, Content, procedure_of, content_at, contents}
use Rattle.mcode.proofs.Tabulate.{length-tabulate, get_d_tabulate}
use Rattle.mcode.proofs.Reader.{told}
use Rattle.mcode.proofs.Determined.{fewest-unique}
use Rattle.mcode.proofs.Load.{passed, load-accepts}
use Rattle.mcode.proofs.FormRead.{nothing}
use Rattle.mcode.proofs.FormOf.{length-code}
use Rattle.mcode.proofs.Carried.{fewest-carried}
use Rattle.mcode.proofs.MapExists.{map as built, loads}
use Rattle.mcode.proofs.Moved.{Alike, AllAlike, Copied, depths-like}

-- ---- what the contents say of a module

-- module k of an image that is read
module _ (image : List ℕ) (r : (parse image).refusal ≡ 0) where
  abbrev P : Program
  P = (parse image).program

  abbrev pub part : ℕ → Content
  part k = get_or (contents image) k nothing

  pub count-is : length (contents image) ≡ P.count
  unfolding contents
  count-is = length-tabulate P.count (λ k. content_at image (begin_of P.modules k) (module_of P k))

  part-is : (k : ℕ) → k < P.count → part k ≡ content_at image (begin_of P.modules k) (module_of P k)
  unfolding contents
  part-is k l = get_d_tabulate P.count (λ k. content_at image (begin_of P.modules k) (module_of P k)) nothing k l

  module _ (k : ℕ) (l : k < P.count) where
    abbrev m : Module
    m = module_of P k

    pub part_length : length (part k).code ≡ m.length
    part_length = ap (λ (c : Content). length c.code) (part-is k l) ∙ length-code image (begin_of P.modules k) m ((told image r).laid.spelt k l) ((told image r).laid.sound k l)

    pub part-byte : (p : ℕ) → p < m.length → byte (part k).code p ≡ code_byte image m p
    unfolding content_at
    part-byte p h =
        ap (λ (c : Content). byte c.code p) (part-is k l)
        ∙ get_or-take m.length (drop m.code image) p 0 h
        ∙ get_or-drop m.code image p 0

    pub part-procs : length (part k).procs ≡ proc_count m
    unfolding content_at
    part-procs = ap (λ (c : Content). length c.procs) (part-is k l) ∙ length-tabulate (proc_count m) (procedure_of image m)

    pub part-proc : (d : Procedure) (i : ℕ) → i < proc_count m → get_or (part k).procs i d ≡ procedure_of image m i
    unfolding content_at
    part-proc d i h = ap (λ (c : Content). get_or c.procs i d) (part-is k l) ∙ get_d_tabulate (proc_count m) (procedure_of image m) d i h

    pub part-size : (part k).size ≡ m.size
    unfolding content_at
    part-size = ap (λ (c : Content). c.size) (part-is k l)

-- two modules whose contents have the same procedures and code of the same length
pub alike : (image : List ℕ) (r : (parse image).refusal ≡ 0) (k : ℕ) → k < (parse image).program.count
    → (image' : List ℕ) (r' : (parse image').refusal ≡ 0) (k' : ℕ) → k' < (parse image').program.count
    → (part image' r' k').procs ≡ (part image r k).procs → length (part image' r' k').code ≡ length (part image r k).code
    → Alike image (module_of (parse image).program k) image' (module_of (parse image').program k')
alike image r k l image' r' k' l' e f = record {
  long = sym (part_length image' r' k' l') ∙ f ∙ part_length image r k l;
  procs = n;
  entries = λ i h. ap (λ (p : Procedure). p.entry) (proc i h);
  params = λ i h. ap (λ (p : Procedure). p.params) (proc i h);
  results = λ i h. ap (λ (p : Procedure). p.results) (proc i h);
}
  where
    n : proc_count (module_of (parse image').program k') ≡ proc_count (module_of (parse image).program k)
    n = sym (part-procs image' r' k' l') ∙ ap (λ (ps : List Procedure). length ps) e ∙ part-procs image r k l

    proc : (i : ℕ) → i < proc_count (module_of (parse image).program k) → procedure_of image' (module_of (parse image').program k') i ≡ procedure_of image (module_of (parse image).program k) i
    proc i h =
        let d : Procedure = record { entry = 0; params = 0; results = 0 } in
        sym (part-proc image' r' k' l' d i (omega (arith, h, n))) ∙ ap (λ (ps : List Procedure). get_or ps i d) e ∙ part-proc image r k l d i h

-- ---- an image whose modules are the first of another

module _ (image image' : List ℕ) (r : (parse image).refusal ≡ 0) (r' : (parse image').refusal ≡ 0) (more : (parse image).program.count ≤ (parse image').program.count)
    (same-part : (k : ℕ) → k < (parse image).program.count → part image' r' k ≡ part image r k) where
  abbrev Q : Program
  Q = (parse image).program

  abbrev Q' : Program
  Q' = (parse image').program

  pub all_alike : AllAlike image Q image' Q' (λ k. k)
  all_alike = record {
    counted = λ k l. omega (arith, l, more);
    modules = λ k l.
        alike image r k l image' r' k (omega (arith, l, more)) (ap (λ (c : Content). c.procs) (same-part k l)) (ap (λ (c : Content). length c.code) (same-part k l));
  }

  pub same_byte : (k : ℕ) → k < Q.count → (p : ℕ) → p < (module_of Q k).length → code_byte image' (module_of Q' k) p ≡ code_byte image (module_of Q k) p
  same_byte k l p h =
      let l' : k < Q'.count = omega (arith, l, more) in
      let h' : p < (module_of Q' k).length = omega (arith, h, (all_alike.modules k l).long) in
      sym (part-byte image' r' k l' p h') ∙ ap (λ (c : Content). byte c.code p) (same-part k l) ∙ part-byte image r k l p h

  pub copied : (k : ℕ) → k < Q.count → (p : ℕ) → p + get_or lengths (code_byte image (module_of Q k) p) 0 ≤ (module_of Q k).length → 1 ≤ get_or lengths (code_byte image (module_of Q k) p) 0
      → Copied image (module_of Q k) image' (module_of Q' k) (λ k. k) p
  copied k l p w some = record {
    op = same_byte k l p (omega (arith, w, some));
    first = λ h. same_byte k l (p + 1) (omega (arith, w, h)) ∙ either (takes_module (code_byte image (module_of Q k) p));
    second = λ h. same_byte k l (p + 2) (omega (arith, w, h));
  }
    where
      either : (t : Bool) → code_byte image (module_of Q k) (p + 1) ≡ pick t (code_byte image (module_of Q k) (p + 1)) (code_byte image (module_of Q k) (p + 1))
      either true = refl
      either false = refl

  -- the fewest assignment of a module is the same in both
  pub fewest-same : (k : ℕ) → k < Q.count → (marks : List ℕ) → Fewest (depths image Q (module_of Q k)) marks → Fewest (depths image' Q' (module_of Q' k)) marks
  fewest-same k l marks F =
      fewest-carried (depths image Q (module_of Q k)) (depths image' Q' (module_of Q' k)) marks
      (depths-like image Q image' Q' (λ k. k) all_alike k l marks F.fits (λ p h w some. copied k l p w some)) F

-- ---- images with equal modules

module _ (image image' : List ℕ) (r : (parse image).refusal ≡ 0) (r' : (parse image').refusal ≡ 0) (e : contents image' ≡ contents image) where
  counts : (parse image').program.count ≡ (parse image).program.count
  counts = sym (count-is image' r') ∙ ap (λ (cs : List Content). length cs) e ∙ count-is image r

  -- load's marks of the one are the fewest of the other
  pub fewest-again : (before map : List ℕ) → Loads image before (verdict 0) map
      → (k : ℕ) → k < (parse image).program.count → Fewest (depths image' (parse image').program (module_of (parse image').program k)) (marks_of map (module_of (parse image).program k))
  fewest-again before map L k l =
      fewest-same image image' r r' (omega (arith, counts)) (λ j q. ap (λ (cs : List Content). get_or cs j nothing) e) k l (marks_of map (module_of (parse image).program k))
      ((passed image before map (verdict 0) L refl).accepted.fewest k l)

  pub loads-again : (before map : List ℕ) → Loads image before (verdict 0) map → (before' : List ℕ) → length image' ≤ length before' → (map' : List ℕ) × Loads image' before' (verdict 0) map'
  loads-again before map L before' h =
      let marks : ℕ → List ℕ = λ k. marks_of map (module_of (parse image).program k) in
      let F : (k : ℕ) → k < (parse image').program.count → Fewest (depths image' (parse image').program (module_of (parse image').program k)) (marks k) =
      λ k l. fewest-again before map L k (omega (arith, l, counts)) in
      (built image' before' r' h marks F, loads image' before' r' h marks F)

  pub loads-same : (before map : List ℕ) → Loads image before (verdict 0) map → (before' : List ℕ) (v : Verdict) (map' : List ℕ) → length image' ≤ length before' → Loads image' before' v map'
      → (v ≡ verdict 0) × ((k : ℕ) → k < (parse image).program.count → marks_of map' (module_of (parse image').program k) ≡ marks_of map (module_of (parse image).program k))
  unfolding LoadAccepts
  loads-same before map L before' v map' h L' =
      let P = (parse image).program in
      let P' = (parse image').program in
      let new = fewest-again before map L in
      let T = passed image' before' map' v L' ((load-accepts image' before' v map' L' r' h).fits (λ k l. (marks_of map (module_of P k), (new k (omega (arith, l, counts))).fits))) in (
        T.verdict-is,
        λ k l.
            fewest-unique (depths image' P' (module_of P' k)) (marks_of map' (module_of P' k)) (marks_of map (module_of P k)) (T.accepted.fewest k (omega (arith, l, counts))) (new k l),
      )
