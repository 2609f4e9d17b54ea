-- The modules of a program one behind another: where each lies, and how much of the form those before it are. Assumes nothing.
use mathlib.Core.Path.{◌≡◌, refl, sym, ap, ◌∙◌, subst}
use mathlib.Core.List.{List, [], ◌∷◌, ◌++◌}
use Prim.Native.Nat.{ℕ, zero, suc, ◌+◌, ◌≤◌, ◌<◌}
use native.Mathlib.Nat.{not-suc-le-zero}
use native.Mathlib.Omega.{arith}
use native.Mathlib.Numerals.{add-one}
use lib.ListN.{length, drop, length-append}
use Rattle.mcode.specs.Word.{tabulate}
use Rattle.mcode.specs.Image.{module_of, begin_of}
use Rattle.mcode.specs.Layout.{Told}
use Rattle.mcode.specs.Archive.{Content, content_at, content_of, contents_of, module_form, modules_form, form}
use Rattle.mcode.specs.Step.{written}
use Rattle.mcode.specs.declared.Program.{Program}
use Rattle.mcode.proofs.Tabulate.{length-tabulate}
use Rattle.mcode.proofs.Writes.{written-whole}
use Rattle.mcode.proofs.FormOf.{form-few, form-within}
use Rattle.mcode.proofs.FormPieces.{modules-snoc}
use Rattle.placed.specs.declared.Placed.{Placed}
use Rattle.archive.specs.Form.{content, Put}
use Rattle.archive.proofs.Puts.{put_both, put-length}

-- a part of the modules, and one more, is no more than all
part-within : (n k : ℕ) (f : ℕ → Content) → k < n → length (modules_form (tabulate k f)) + length (module_form (f k)) ≤ length (modules_form (tabulate n f))
unfolding tabulate
part-within zero k f l = absurd (not-suc-le-zero l)
part-within (suc n) zero f l = omega (arith, length-append (module_form (f 0)) (modules_form (tabulate n (λ i. f (suc i)))))
part-within (suc n) (suc k) f l =
    omega (
      arith,
      part-within n k (λ i. f (suc i)) (omega (arith, l)),
      length-append (module_form (f 0)) (modules_form (tabulate n (λ i. f (suc i)))),
      length-append (module_form (f 0)) (modules_form (tabulate k (λ i. f (suc i)))),
    )

-- module k as it is placed
pub placed-is : (image : List ℕ) (program : Program) (k : ℕ) (p : Placed) → (p.image.now ≡ image) × (p.begin ≡ begin_of program.modules k) × (p.m ≡ module_of program k) → content p ≡ content_of image program k
placed-is image program k p e = λ i. content_at (e.0 i) (e.1 i) (e.2 i)

module _ (image : List ℕ) (program : Program) (T : Told image program) where
  -- the form of the first k modules
  abbrev pub front : ℕ → List ℕ
  front k = modules_form (tabulate k (content_of image program))

  front-next : (k : ℕ) → front (k + 1) ≡ front k ++ module_form (content_of image program k)
  front-next k = rw (add-one k) (modules-snoc k (content_of image program))

  -- the form of the first modules is not longer than they are in the image
  pub front-short : (k : ℕ) → k ≤ program.count → 1 + length (front k) ≤ 65535
  front-short k l = omega (arith, form-within k (content_of image program) (begin_of program.modules) (λ i h. few i (omega (arith, h, l))), ends k l, T.brief)
    where
      few : (i : ℕ) → i < program.count → begin_of program.modules i + length (module_form (content_of image program i)) ≤ begin_of program.modules (suc i)
      few i h = form-few image (begin_of program.modules i) (module_of program i) (T.laid.spelt i h) (T.laid.sound i h)

      ends : (k : ℕ) → k ≤ program.count → begin_of program.modules k ≤ length image
      ends zero l = omega (arith, (T.laid.sound 0 T.some).within, (T.laid.spelt 0 T.some).table, (T.laid.spelt 0 T.some).code)
      ends (suc k) l = (T.laid.sound k l).within

  -- the next module, as a value
  module _ (k : ℕ) (l : k < program.count) (c : Content) (e : c ≡ content_of image program k) where
    front-more : front (k + 1) ≡ front k ++ module_form c
    front-more = front-next k ∙ ap (λ (x : Content). front k ++ module_form x) (sym e)

    pub sum-next : (sum n : ℕ) → sum ≡ length (front k) → n ≡ length (module_form c) → sum + n ≡ length (front (k + 1))
    sum-next sum n p q = omega (arith, p, q, ap (λ (x : List ℕ). length x) front-more, length-append (front k) (module_form c))

    module _ (at : ℕ) (s : List ℕ) (to : ℕ) (t : List ℕ) (P : Put (front k) at s to t) where
      pub room_next : at + length (front program.count) ≤ length s → to + length (module_form c) ≤ length t
      room_next r =
          omega (
            arith,
            part-within program.count k (content_of image program) l,
            ap (λ (x : Content). length (module_form x)) e,
            r,
            P.next-is,
            put-length (front k) at s to t P,
          )

      pub put-content : (to' : ℕ) (u : List ℕ) → Put (module_form c) to t to' u → Put (front (k + 1)) at s to' u
      put-content to' u Q = subst (λ (x : List ℕ). Put x at s to' u) (sym front-more) (put_both (front k) (module_form c) at s to t to' u P Q)

  -- the next module, whose bit map is at `begin`
  pub put_next : (k : ℕ) → k < program.count → (begin : ℕ) → begin ≡ begin_of program.modules k → (at : ℕ) (s : List ℕ) (to : ℕ) (t : List ℕ) → Put (front k) at s to t
      → (to' : ℕ) (u : List ℕ) → Put (module_form (content_at image begin (module_of program k))) to t to' u → Put (front (k + 1)) at s to' u
  put_next k l begin e = put-content k l (content_at image begin (module_of program k)) (ap (λ (b : ℕ). content_at image b (module_of program k)) e)

-- ---- the whole form

module _ (image : List ℕ) (program : Program) where
  form-is : form (contents_of image program) ≡ program.count ∷ modules_form (contents_of image program)
  unfolding form
  form-is = rw (length-tabulate program.count (content_of image program)) refl

  pub form-length-is : 1 + length (modules_form (contents_of image program)) ≡ length (form (contents_of image program))
  form-length-is = omega (arith, ap (λ (x : List ℕ). length x) form-is)

  -- the module count, then the modules behind it
  pub form-put : (s : List ℕ) → length (form (contents_of image program)) ≤ length s → (n : ℕ) (t : List ℕ) → Put (program.count ∷ []) 0 s n t
      → (to : ℕ) (u : List ℕ) → Put (modules_form (contents_of image program)) n t to u → u ≡ form (contents_of image program) ++ drop (length (form (contents_of image program))) s
  form-put s r n t P to u Q =
      (put_both (program.count ∷ []) (modules_form (contents_of image program)) 0 s n t to u P Q).after_is
      ∙ ap (λ (x : List ℕ). written x 0 s) (sym form-is)
      ∙ written-whole (form (contents_of image program)) s r
