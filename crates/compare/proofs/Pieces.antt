-- The bytes of a name and of a part of an image. Assumes nothing.
use Rattle.std.proofs.Common.{◌≡◌, sym, ap, ◌∙◌, ℕ, ◌+◌, ◌-◌, ◌/◌, ◌%◌, ◌<◌, List, Bool, true, false, drop, Option, None, Some, MatchOption, Bor}
use Rattle.std.specs.Option.{option_copied}
use lib.ListN.{replicate, get_or-replicate}
use lib.Seq.{get_or-take, get_or-drop}
use lib.Dec.{eqb}
use Rattle.mcode.specs.Word.{pick, slice, byte}
use Rattle.mcode.specs.Archive.{name_of}
use Rattle.mcode.specs.declared.Module.{Module}
use Rattle.placed.specs.Name.{spelt_name}

pub byte-slice : (s : List ℕ) (at n i : ℕ) → i < n → byte (slice s at n) i ≡ byte s (at + i)
byte-slice s at n i l = get_or-take n (drop at s) i 0 l ∙ get_or-drop at s i 0

-- byte i of the name, from what the image spells of it
pub name-read : (image : List ℕ) (begin : ℕ) (m : Module) (o : Option (Bor (List ℕ))) → option_copied o ≡ spelt_name image begin m → (i : ℕ) → i < 8
    → (r : ℕ) (P : Bor (List ℕ) → Type 0) → ((x : Bor (List ℕ)) → P x → r ≡ byte x.now i) → MatchOption o (r ≡ 0) P → r ≡ byte (name_of image begin m) i
unfolding name_of
name-read image begin m o e i l r P h M = by (eqb (byte image begin / 4 % 2) 1) o e M
  where
    by : (t : Bool) (o : Option (Bor (List ℕ))) → option_copied o ≡ pick t (Some (slice image (m.table - 10) 8)) None → MatchOption o (r ≡ 0) P
        → r ≡ byte (pick t (slice image (m.table - 10) 8) (replicate 8 0)) i
    by true None e M = absurd cc
    by true (Some x) e M = let s : x.now ≡ slice image (m.table - 10) 8 = cc in h x M ∙ ap (λ (y : List ℕ). byte y i) s
    by false None e M = M ∙ sym (get_or-replicate {A = ℕ} 8 i 0 0 l)
    by false (Some x) e M = absurd cc
