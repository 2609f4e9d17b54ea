-- A module's form, piece by piece. Assumes nothing.
use Rattle.std.proofs.Common.{Option, None, Some, Bor}
use Rattle.std.specs.Option.{option_copied, unwrap_or}
use mathlib.Core.Path.{◌≡◌, refl, sym, ap, ◌∙◌, subst}
use mathlib.Core.Bool.{Bool, true, false, not, true≢false}
use mathlib.Core.List.{List, [], ◌∷◌, ◌++◌, append-nil}
use Prim.Native.Nat.{ℕ, ◌-◌, ◌*◌, ◌/◌, ◌%◌}
use lib.Dec.{eqb}
use lib.ListN.{replicate}
use Rattle.mcode.specs.Word.{pick, slice, byte}
use Rattle.mcode.specs.Image.{proc_count}
use Rattle.mcode.specs.Layout.{Bytes, Lies}
use Rattle.mcode.specs.Archive.{procedure_of, content_at, name_of, word_bytes, Bits, bit_map, given, zeros, needed, module_form}
use Rattle.mcode.specs.declared.Module.{Module}
use Rattle.mcode.proofs.FormPieces.{bits_of, default-tabulate, form-pieces}
use Rattle.placed.specs.Name.{spelt_name}
use Rattle.archive.specs.declared.fields.Fields.{Fields}
use Rattle.archive.specs.Form.{bits, Put}
use Rattle.archive.proofs.Puts.{put-none, put_both}

module _ (image : List ℕ) (begin : ℕ) (m : Module) (f : Fields) (e : bits f ≡ needed (content_at image begin m)) where
  named-is : f.named ≡ not (zeros (name_of image begin m))
  unfolding content_at
  named-is = ap (λ (b : Bits). b.named) e

  bits_are : bits_of image begin m ≡ bits f
  unfolding content_at
  bits_are = sym (e ∙ rw (default-tabulate (proc_count m) (procedure_of image m)) refl)

  -- the name, where its bit stands: what the image spells of it
  pub name-is : (o : Option (Bor (List ℕ))) → option_copied o ≡ spelt_name image begin m
      → (d r : Bor (List ℕ)) → r ≡ unwrap_or o d → given f.named r.now ≡ given f.named (name_of image begin m)
  unfolding name_of
  name-is o q d r u = by (eqb (byte image begin / 4 % 2) 1) o q f.named named-is u
    where
      by : (t : Bool) (o : Option (Bor (List ℕ))) → option_copied o ≡ pick t (Some (slice image (m.table - 10) 8)) None
          → (b : Bool) → b ≡ not (zeros (pick t (slice image (m.table - 10) 8) (replicate 8 0))) → r ≡ unwrap_or o d
          → given b r.now ≡ given b (pick t (slice image (m.table - 10) 8) (replicate 8 0))
      by true None q b n u = absurd cc
      by true (Some x) q b n u = let s : x.now ≡ slice image (m.table - 10) 8 = cc in ap (λ (y : Bor (List ℕ)). given b y.now) u ∙ ap (λ (y : List ℕ). given b y) s
      by false None q true n u = absurd (true≢false n)
      by false None q false n u = refl
      by false (Some x) q b n u = absurd cc

  module _ (B : Bytes image) (L : Lies image begin m) where
    pub form-is : (map : ℕ) (size count name long records code : List ℕ) → map ≡ bit_map (bits f) → size ≡ given f.sized (word_bytes m.size) → count ≡ given f.listing (m.procs ∷ [])
        → name ≡ given f.named (name_of image begin m) → long ≡ word_bytes m.length → records ≡ given f.listing (slice image m.table (4 * m.procs)) → code ≡ slice image m.code m.length
        → map ∷ (size ++ (count ++ (name ++ (long ++ (records ++ (code ++ [])))))) ≡ module_form (content_at image begin m)
    form-is map size count name long records code p₁ p₂ p₃ p₄ p₅ p₆ p₇ =
        rw (append-nil code, p₁, p₂, p₃, p₄, p₅, p₆, p₇)
        (sym (form-pieces image B begin m L.spelt L.sound
        ∙ ap (λ (b : Bits). bit_map b ∷ (given b.sized (word_bytes m.size) ++ (given b.listing (m.procs ∷ []) ++ (given b.named (name_of image begin m) ++ (word_bytes m.length ++ (given b.listing (slice image m.table (4 * m.procs)) ++ slice image m.code m.length)))))) bits_are))

-- ---- the pieces, put one behind another

module _ (image : List ℕ) (begin : ℕ) (m : Module) (f : Fields) (b : ℕ) (q : b ≡ bit_map (bits f)) where
  abbrev pub map : List ℕ
  map = b ∷ []

  abbrev pub size : List ℕ
  size = given f.sized (word_bytes m.size)

  abbrev pub count : List ℕ
  count = given f.listing (m.procs ∷ [])

  abbrev pub name : List ℕ
  name = given f.named (slice image (m.table - 10) 8)

  abbrev pub long : List ℕ
  long = word_bytes m.length

  abbrev pub records : List ℕ
  records = given f.listing (slice image m.table (4 * m.procs))

  abbrev pub code : List ℕ
  code = slice image m.code m.length

  module _ (L : Lies image begin m) (e : bits f ≡ needed (content_at image begin m)) where
    -- a name that the form has stands in the image
    name-same : name ≡ given f.named (name_of image begin m)
    unfolding name_of
    name-same = by (eqb (byte image begin / 4 % 2) 1) f.named (named-is image begin m f e)
      where
        by : (t b : Bool) → b ≡ not (zeros (pick t (slice image (m.table - 10) 8) (replicate 8 0)))
            → given b (slice image (m.table - 10) 8) ≡ given b (pick t (slice image (m.table - 10) 8) (replicate 8 0))
        by true b n = refl
        by false true n = absurd (true≢false n)
        by false false n = refl

    pub module-put : Bytes image → (at : ℕ) (s : List ℕ) (n₁ : ℕ) (s₁ : List ℕ) → Put map at s n₁ s₁ → (n₂ : ℕ) (s₂ : List ℕ) → Put size n₁ s₁ n₂ s₂
        → (n₃ : ℕ) (s₃ : List ℕ) → Put count n₂ s₂ n₃ s₃ → (n₄ : ℕ) (s₄ : List ℕ) → Put name n₃ s₃ n₄ s₄ → (n₅ : ℕ) (s₅ : List ℕ) → Put long n₄ s₄ n₅ s₅
        → (n₆ : ℕ) (s₆ : List ℕ) → Put records n₅ s₅ n₆ s₆ → (n₇ : ℕ) (s₇ : List ℕ) → Put code n₆ s₆ n₇ s₇ → Put (module_form (content_at image begin m)) at s n₇ s₇
    module-put B at s n₁ s₁ P₁ n₂ s₂ P₂ n₃ s₃ P₃ n₄ s₄ P₄ n₅ s₅ P₅ n₆ s₆ P₆ n₇ s₇ P₇ =
        subst (λ (x : List ℕ). Put x at s n₇ s₇) (form-is image begin m f e B L b size count name long records code q refl refl name-same refl refl refl)
        (put_both map _ at s n₁ s₁ n₇ s₇ P₁
        (put_both size _ n₁ s₁ n₂ s₂ n₇ s₇ P₂
        (put_both count _ n₂ s₂ n₃ s₃ n₇ s₇ P₃
        (put_both name _ n₃ s₃ n₄ s₄ n₇ s₇ P₄
        (put_both long _ n₄ s₄ n₅ s₅ n₇ s₇ P₅
        (put_both records _ n₅ s₅ n₆ s₆ n₇ s₇ P₆
        (put_both code [] n₆ s₆ n₇ s₇ n₇ s₇ P₇ (put-none n₇ s₇))))))))
