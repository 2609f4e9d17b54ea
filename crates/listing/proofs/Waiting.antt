-- Laws of what waits: a text is added byte by byte, and stands behind what waits where there is room. Assumes nothing.
use Rattle.std.proofs.Common.{◌≡◌, ℕ, ◌+◌, ◌≤◌, ◌<◌, List, [], ◌∷◌, ◌++◌, length, take, get_or, Option, Some, None, IfSome, Result, Ok, Err, OnOk, OnErr, refl, sym, ap, ◌∙◌, arith, length-append, append-nil, append_assoc}
use Rattle.std.proofs.lemmas.List.{take_more, length-take-le}
use Rattle.std.specs.List.{concat, FoldsTo}
use Rattle.std.specs.declared.fmt.Error.{Error}
use Rattle.std.specs.Fmt.{WritesText}
use Rattle.listing.specs.Waiting.{block, byte_more, text_more, Leaves, Takes}

-- two texts, one behind the other
pub text_more-append : (xs ys waits : List ℕ) → text_more (xs ++ ys) waits ≡ text_more ys (text_more xs waits)
unfolding text_more
text_more-append [] ys waits = refl
text_more-append (x ∷ xs) ys waits = text_more-append xs ys (byte_more x waits)

pub text_more-none : (waits : List ℕ) → text_more [] waits ≡ waits
unfolding text_more
text_more-none waits = refl

pub text_more-one : (b : ℕ) (waits : List ℕ) → text_more (b ∷ []) waits ≡ byte_more b waits
unfolding text_more
text_more-one b waits = refl

pub Leaves-none : (o : Option (List ℕ)) → Leaves (text_more []) o o
unfolding text_more
Leaves-none None = tt
Leaves-none (Some w) = refl

pub Leaves-append : (xs ys : List ℕ) (a b c : Option (List ℕ)) → Leaves (text_more xs) a b → Leaves (text_more ys) b c → Leaves (text_more (xs ++ ys)) a c
Leaves-append xs ys a b None f g = tt
Leaves-append xs ys a None (Some c) f g = absurd g
Leaves-append xs ys None (Some b) (Some c) f g = absurd f
Leaves-append xs ys (Some a) (Some b) (Some c) f g = g ∙ ap (text_more ys) f ∙ sym (text_more-append xs ys a)

pub Leaves-byte : (b : ℕ) (o p : Option (List ℕ)) → Leaves (byte_more b) o p → Leaves (text_more (b ∷ [])) o p
Leaves-byte b o None f = tt
Leaves-byte b None (Some p) f = absurd f
Leaves-byte b (Some o) (Some p) f = f ∙ sym (text_more-one b o)

-- where there is room, a text stands behind what waits: it is added byte by byte
abbrev pub Room : Option (List ℕ) → ℕ → List ℕ → Option (List ℕ) → Type 0
Room before n added after = IfSome before (λ w. length w + n ≤ block → after ≡ Some (w ++ added))

pub Room-none : (o : Option (List ℕ)) (n : ℕ) → Room o n [] o
Room-none None n = tt
Room-none (Some w) n = λ h. ap Some (sym (append-nil w))

module _ (letters : List ℕ) (i : ℕ) (o p q : Option (List ℕ)) (l : i < length letters) where
  pub Leaves-more : Leaves (text_more (take i letters)) o p → Leaves (byte_more (get_or letters i 0)) p q → Leaves (text_more (take (i + 1) letters)) o q
  Leaves-more f g = rw (take_more letters i 0 l) (Leaves-append (take i letters) (get_or letters i 0 ∷ []) o p q f (Leaves-byte _ p q g))

  pub Room-more : Room o (length letters) (take i letters) p → IfSome p (λ w. length w < block → q ≡ Some (w ++ get_or letters i 0 ∷ [])) → Room o (length letters) (take (i + 1) letters) q
  Room-more f g = go o f
    where
      go : (o : Option (List ℕ)) → Room o (length letters) (take i letters) p → Room o (length letters) (take (i + 1) letters) q
      go None f = tt
      go (Some w) f = λ h.
          let e = f h in
          let n : length (w ++ take i letters) ≡ length w + i = length-append w (take i letters) ∙ ap (λ k. length w + k) (length-take-le i letters (omega arith)) in
          let r = rw e at g in
          rw (take_more letters i 0 l) (r (omega arith) ∙ ap Some (append_assoc w (take i letters) (get_or letters i 0 ∷ [])))

-- the parts of a text that is written in several calls
parts_more : (parts : List (List ℕ)) (a b : Option (List ℕ)) → FoldsTo (λ x letters y. Leaves (text_more letters) x y) a parts b → Leaves (text_more (concat parts)) a b
parts_more [] a b f = rw (sym f) (Leaves-none a)
parts_more (x ∷ xs) a b (m, f, g) = Leaves-append x (concat xs) a m b f (parts_more xs m b g)

pub Leaves-written : (o : Option (List ℕ)) (a b : Option (List ℕ)) → WritesText (λ x letters y. Leaves (text_more letters) x y) a o b → IfSome o (λ letters. Leaves (text_more letters) a b)
Leaves-written None a b w = tt
Leaves-written (Some t) a b w = rw (sym w.whole) (parts_more w.parts a b w.calls)

pub Leaves-printed : (r : Result (Unit {0}) Error) (o : Option (List ℕ)) (a b d : Option (List ℕ)) → OnOk r (WritesText (λ x letters y. Leaves (text_more letters) x y) a o b) → OnOk r (d ≡ b) → OnErr r (d ≡ None) → IfSome o (λ letters. Leaves (text_more letters) a d)
Leaves-printed (Ok u) o a b d w k n = rw k (Leaves-written o a b w)
Leaves-printed (Err e) None a b d w k n = tt
Leaves-printed (Err e) (Some t) a b d w k n = rw n tt

-- of each call `Takes` tells more than that
calls-leave : (parts : List (List ℕ)) (a b : Option (List ℕ)) → FoldsTo Takes a parts b → FoldsTo (λ x letters y. Leaves (text_more letters) x y) a parts b
calls-leave [] a b f = f
calls-leave (x ∷ xs) a b (m, f, g) = (m, f.leaves, calls-leave xs m b g)

pub Takes-leaves : (o : Option (List ℕ)) (a b : Option (List ℕ)) → WritesText Takes a o b → WritesText (λ x letters y. Leaves (text_more letters) x y) a o b
Takes-leaves None a b w = tt
Takes-leaves (Some t) a b w = record { parts = w.parts; calls = calls-leave w.parts a b w.calls; whole = w.whole }

pub Takes-written : (o : Option (List ℕ)) (a b : Option (List ℕ)) → WritesText Takes a o b → IfSome o (λ letters. Leaves (text_more letters) a b)
Takes-written o a b w = Leaves-written o a b (Takes-leaves o a b w)

pub Takes-printed : (r : Result (Unit {0}) Error) (o : Option (List ℕ)) (a b d : Option (List ℕ)) → OnOk r (WritesText Takes a o b) → OnOk r (d ≡ b) → OnErr r (d ≡ None) → IfSome o (λ letters. Leaves (text_more letters) a d)
Takes-printed (Ok u) o a b d w k n = Leaves-printed (Ok u) o a b d (Takes-leaves o a b w) k n
Takes-printed (Err e) o a b d w k n = Leaves-printed (Err e) o a b d tt k n
