-- What a part that was lent and came back leaves of the whole: `put_mid a (e - a) xs ys` is xs with ys from a up to e.
use Rattle.std.proofs.Common.{◌≡◌, ℕ, ◌+◌, ◌-◌, ◌<◌, ◌≤◌, List, ◌++◌, length, get_or, take, drop, sym, ap, ◌∙◌, le_trans, arith, length-drop, length-take, length-take-le, get_or-drop, take_all, get_or-take, take_at, ext_get_or, drop_at}
use borrow.Rule.Slice.PartMut.{put_mid, post_of, take_put, drop_put}

-- the elements of xs from a up to e
abbrev pub part : List ℕ → ℕ → ℕ → List ℕ
part xs a e = take (e - a) (drop a xs)

pub length_part : (xs : List ℕ) (a e : ℕ) → e ≤ length xs → length (part xs a e) ≡ e - a
length_part xs a e h = simp (length-take, length-drop) (omega arith)

pub part_at : (xs : List ℕ) (a e i d : ℕ) → i < e - a → get_or (part xs a e) i d ≡ get_or xs (a + i) d
part_at xs a e i d h = rw (get_or-take, get_or-drop)

-- the part up to the end
pub part-rest : (xs : List ℕ) (a : ℕ) → part xs a (length xs) ≡ drop a xs
part-rest xs a = take_all (length xs - a) (drop a xs) (omega (arith, length-drop a xs))

-- parts of two lists that agree there are equal
pub part_same : (xs zs : List ℕ) (a e : ℕ) → e ≤ length xs → e ≤ length zs → ((p : ℕ) → a ≤ p → p < e → get_or xs p 0 ≡ get_or zs p 0) → part xs a e ≡ part zs a e
part_same xs zs a e h k f =
    ext_get_or 0 (part xs a e) (part zs a e) (length_part xs a e h ∙ sym (length_part zs a e k))
    (λ i l. let l' : i < e - a = omega (arith, length_part xs a e h) in
    part_at xs a e i 0 l' ∙ f (a + i) (omega arith) (omega arith) ∙ sym (part_at zs a e i 0 l'))

module _ (a e : ℕ) (xs ys : List ℕ) (h : a ≤ e) (k : e ≤ length xs) (l : length ys ≡ e - a) where
  -- the part itself
  pub put-part : part (put_mid a (e - a) xs ys) a e ≡ ys
  put-part =
      ap (take (e - a)) (drop_at (take a xs) (ys ++ post_of a (e - a) xs) a (length-take-le a xs (le_trans h k)))
      ∙ take_at ys (post_of a (e - a) xs) (e - a) l

  -- before it, and from its end on
  pub put-before : (p d : ℕ) → p < a → get_or (put_mid a (e - a) xs ys) p d ≡ get_or xs p d
  put-before p d i =
      sym (get_or-take a (put_mid a (e - a) xs ys) p d i)
      ∙ ap (λ (z : List ℕ). get_or z p d) (take_put a (e - a) xs ys (le_trans h k))
      ∙ get_or-take a xs p d i

  pub put-after : (p d : ℕ) → e ≤ p → get_or (put_mid a (e - a) xs ys) p d ≡ get_or xs p d
  put-after p d i =
      let q : e + (p - e) ≡ p = omega arith in
      let z = put_mid a (e - a) xs ys in
      ap (λ (n : ℕ). get_or z n d) (sym q) ∙ sym (get_or-drop e z (p - e) d)
      ∙ ap (λ (y : List ℕ). get_or y (p - e) d) (drop_put a e xs ys h k l)
      ∙ get_or-drop e xs (p - e) d ∙ ap (λ (n : ℕ). get_or xs n d) q
