-- Worked cases of the archive form, by computing. Assumes nothing.
use mathlib.Core.Path.{◌≡◌, refl}
use mathlib.Core.List.{List, [], ◌∷◌}
use Prim.Native.Nat.{ℕ}
use Rattle.mcode.specs.Word.{tabulate}
use Rattle.mcode.specs.Image.{byte_at, word_at, skip_at, bits_at, data_at, count_at, name_at, length_at, limited_at, record_at, records_at, body_at, module_at, refused_by, modules_from, parse}
use Rattle.mcode.specs.Archive.{name_of, content_at, contents, spelled, form, delivery, deliver, withheld}

-- one module with all three fields spelled out, each as it is taken to be where it is missing
spelled_out : List ℕ
spelled_out = 1 ∷ 7 ∷ 0 ∷ 0 ∷ 1 ∷ 0 ∷ 0 ∷ 0 ∷ 0 ∷ 0 ∷ 0 ∷ 0 ∷ 0 ∷ 0 ∷ 1 ∷ 0 ∷ 0 ∷ 0 ∷ 0 ∷ 0o354 ∷ []

all-left-out : form (contents spelled_out) ≡ 1 ∷ 0 ∷ 0 ∷ 1 ∷ 0o354 ∷ []
unfolding spelled_out byte_at word_at skip_at bits_at data_at count_at name_at length_at limited_at record_at records_at body_at module_at refused_by modules_from parse tabulate name_of content_at contents spelled form
all-left-out = refl

-- two modules: data of 5 words and a name stay; two procedures stay
both-kept : List ℕ
both-kept = 2 ∷ 5 ∷ 0 ∷ 5 ∷ 78 ∷ 65 ∷ 77 ∷ 69 ∷ 32 ∷ 32 ∷ 32 ∷ 32 ∷ 0 ∷ 1 ∷ 0o354 ∷ 2 ∷ 2 ∷ 0 ∷ 2 ∷ 0 ∷ 0 ∷ 0 ∷ 0 ∷ 0 ∷ 1 ∷ 1 ∷ 0 ∷ 0o336 ∷ 0o354 ∷ []

all-kept : form (contents both-kept) ≡ both-kept
unfolding both-kept byte_at word_at skip_at bits_at data_at count_at name_at length_at limited_at record_at records_at body_at module_at refused_by modules_from parse tabulate name_of content_at contents spelled form
all-kept = refl

-- an output that is longer keeps its end; one that is too short keeps all
kept-end : deliver (1 ∷ 2 ∷ []) (7 ∷ 8 ∷ 9 ∷ []) ≡ delivery (record { number = 0; length = 2 }) (1 ∷ 2 ∷ 9 ∷ [])
unfolding deliver
kept-end = refl

too_short : deliver (1 ∷ 2 ∷ []) (7 ∷ []) ≡ withheld 14 (7 ∷ [])
unfolding deliver
too_short = refl
