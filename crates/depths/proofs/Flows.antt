-- The cases of the rules: what follows an instruction by its row, and by the kind of its opcode.
use Rattle.std.proofs.Common.{◌≡◌, ℕ, zero, suc, ◌+◌, ◌-◌, ◌<◌, ◌≤◌, Bool, true, false, eqb, ltb, leb, List, get_or, drop, sym, refl, ap, ◌∙◌, ap₂, le_of_suc-le-suc, not-suc-le-zero, add-zero, add-suc, suc-add, zero-add, arith, get_or-drop, ltb-false, ltb-true, le-ltb, lt-ltb, eq-eqb, ne_eqb, eqb-true, leb-true, Option, Some, None}
use mathlib.Core.Bool.{false≢true}
use native.Mathlib.Decide.{ℕ_discrete}
use Rattle.mcode.specs.declared.Flow.{Flow}
use Rattle.mcode.specs.declared.Flow.TheVariants.{Fault, Ends, To, Fork}
use Rattle.mcode.specs.declared.Module.{Module}
use Rattle.mcode.specs.declared.Program.{Program}
use Rattle.mcode.specs.Word.{pick, and, or, byte}
use Rattle.mcode.specs.Opcode.{lengths, takens, lefts}
use Rattle.mcode.specs.Image.{code_byte}
use Rattle.mcode.specs.Depths.{depth_of, is_mark, passed, leaves, permits, depth_flow, carry, flow_at, onward, jumps, calls, calls_in, names_module, target}
use Rattle.mcode.proofs.Marks.{depth-passed, passed-own, passed-twice, passed-row, leaves-passed}
use Rattle.depths.specs.Cases.{row_at, jumping, ending, saving, plain, kind_of, kinds_from, kinds}

-- what follows a row, where f says what follows its numbers
abbrev after : (ℕ → ℕ → Flow) → Option (ℕ × ℕ) → Flow
after f None = Fault
after f (Some (n, e)) = f n e

-- equal marks give an equal flow
carry_same : {f g : ℕ → ℕ} → ((d : ℕ) → f d ≡ g d) → (x : Flow) → carry f x ≡ carry g x
carry_same h Fault = refl
carry_same h Ends = refl
carry_same h (To q d) = ap (To q) (h d)
carry_same h (Fork q d r e) = ap₂ (λ (a b : ℕ). Fork q a r b) (h d) (h e)

second : (a b : Bool) → and a b ≡ true → b ≡ true
second true b h = h
second false b h = absurd (false≢true h)

named : (c d : Bool) → pick c false d ≡ false → d ≡ true → c ≡ true
named true d h t = refl
named false d h t = absurd (false≢true (sym h ∙ t))

unnamed : (c d : Bool) → pick c false d ≡ true → (c ≡ false) × (d ≡ true)
unnamed true d h = absurd (false≢true h)
unnamed false d h = (refl, h)

one-call : (x : Bool) (f : ℕ → Flow) (a b : ℕ) → pick x (f a) (f b) ≡ f (pick x a b)
one-call true f a b = refl
one-call false f a b = refl

no-module : (op : ℕ) → 0o355 ≤ op → names_module op ≡ false
no-module op l = simp (not 0o27 (omega arith), not 0o42 (omega arith), not 0o62 (omega arith), not 0o43 (omega arith), not 0o63 (omega arith))
  where
    not : (k : ℕ) → k < 0o355 → eqb op k ≡ false
    not k h = ne_eqb op k (λ z. omega (arith, l, h, z))

-- the cases of an instruction's opcode
module _ (image : List ℕ) (program : Program) (m : Module) (p op b c n e : ℕ) where
  pub onward-jump : jumping op ≡ true → onward image program m p op b c n e ≡ jumps op (target op (p + 1) b c) n e
  unfolding onward
  onward-jump j =
      let l = ltb-true op 0o40 (second (leb 0o30 op) (ltb op 0o40) j) in
      simp (ne_eqb op 0o304 (λ z. omega (arith, l, z)), ne_eqb op 0o354 (λ z. omega (arith, l, z)), j)

  pub onward-ends : ending op ≡ true → onward image program m p op b c n e ≡ Ends
  unfolding onward
  onward-ends h = rw h refl

  module _ (j : jumping op ≡ false) (h : ending op ≡ false) where
    pub onward-plain : plain op ≡ true → onward image program m p op b c n e ≡ To n e
    unfolding onward
    onward-plain q =
        let u = unnamed (names_module op) (ltb op 0o355) q in
        rw (h, j, u.0, u.1) refl

    pub onward-names : plain op ≡ false → op < 0o355 → onward image program m p op b c n e ≡ pick (ltb b program.count) (To n e) Fault
    unfolding onward
    onward-names q l = rw (h, j, named (names_module op) (ltb op 0o355) q (lt-ltb op 0o355 l)) refl

    pub onward-far : op ≡ 0o355 → onward image program m p op b c n e ≡ calls_in image program b c n e
    unfolding onward
    onward-far q = rw (h, j, no-module op (omega (arith, q)), le-ltb op 0o355 (omega (arith, q)), eq-eqb op 0o355 q) refl

    pub onward_near : 0o355 < op → onward image program m p op b c n e ≡ calls image m (pick (leb op 0o360) b (op - 0o360)) n e
    unfolding onward
    onward_near l =
        rw (h, j, no-module op (omega (arith, l)), le-ltb op 0o355 (omega (arith, l)), ne_eqb op 0o355 (λ z. omega (arith, l, z)))
        (one-call (leb op 0o360) (λ (i : ℕ). calls image m i n e) b (op - 0o360))

-- only RTN, STORE and LODFW need more than their row says
permits-other : (k op : ℕ) → (op ≡ 0o354 → ⊥) → (op ≡ 0o262 → ⊥) → (op ≡ 0o260 → ⊥) → permits k op ≡ true
unfolding permits
permits-other k op a b c = rw (ne_eqb op 0o354 a, ne_eqb op 0o262 b, ne_eqb op 0o260 c) refl

or_left : (a b : Bool) → or a b ≡ false → (a ≡ false) × (b ≡ false)
or_left true b h = absurd (false≢true (sym h))
or_left false b h = (refl, h)

apart : (op k : ℕ) → eqb op k ≡ false → op ≡ k → ⊥
apart op k h e = false≢true (sym h ∙ eq-eqb op k e)

not-saving : (op : ℕ) → saving op ≡ false → (eqb op 0o262 ≡ false) × (eqb op 0o260 ≡ false)
not-saving op h = or_left (eqb op 0o262) (eqb op 0o260) h

permits-on : (k op : ℕ) → ending op ≡ false → saving op ≡ false → permits k op ≡ true
permits-on k op h s =
    let (a, b) = or_left (eqb op 0o304) (eqb op 0o354) h in
    let (c, d) = not-saving op s in
    permits-other k op (apart op 0o354 b) (apart op 0o262 c) (apart op 0o260 d)

-- STORE and LODFW go on to the next instruction
pub saving-plain : (op : ℕ) → saving op ≡ true → (jumping op ≡ false) × (ending op ≡ false) × (plain op ≡ true)
saving-plain op = go (eqb op 0o262) refl (eqb op 0o260) refl
  where
    go : (a : Bool) → eqb op 0o262 ≡ a → (b : Bool) → eqb op 0o260 ≡ b → or a b ≡ true → (jumping op ≡ false) × (ending op ≡ false) × (plain op ≡ true)
    go true x b y t = rw (eqb-true op 0o262 x) (refl, refl, refl)
    go false x true y t = rw (eqb-true op 0o260 y) (refl, refl, refl)
    go false x false y t = absurd (false≢true t)

pub saved-fetch : (op : ℕ) → saving op ≡ true → (op ≡ 0o262 → ⊥) → op ≡ 0o260
saved-fetch op h n = eqb-true op 0o260 (rw (ne_eqb op 0o262 n) at h)

-- what a kind k says of the tests: not listed, a jump, without a successor, STORE or LODFW, plain
abbrev by_tests : Bool → Bool → Bool → Bool → Bool → ℕ
by_tests u j h s q = pick u 6 (pick j 2 (pick h 3 (pick s 5 (pick q 1 4))))

module _ (k : ℕ) where
  pub of_plain : (u j h s q : Bool) → k ≡ by_tests u j h s q → k ≤ 1 → (u ≡ false) × (j ≡ false) × (h ≡ false) × (s ≡ false) × (q ≡ true)
  of_plain true j h s q e l = absurd (omega arith)
  of_plain false true h s q e l = absurd (omega arith)
  of_plain false false true s q e l = absurd (omega arith)
  of_plain false false false true q e l = absurd (omega arith)
  of_plain false false false false true e l = (refl, refl, refl, refl, refl)
  of_plain false false false false false e l = absurd (omega arith)

  pub of-jump : (u j h s q : Bool) → k ≡ by_tests u j h s q → 1 < k → k ≤ 2 → (u ≡ false) × (j ≡ true)
  of-jump true j h s q e g l = absurd (omega arith)
  of-jump false true h s q e g l = (refl, refl)
  of-jump false false true s q e g l = absurd (omega arith)
  of-jump false false false true q e g l = absurd (omega arith)
  of-jump false false false false true e g l = absurd (omega arith)
  of-jump false false false false false e g l = absurd (omega arith)

  pub of-last : (u j h s q : Bool) → k ≡ by_tests u j h s q → 2 < k → k ≤ 3 → (u ≡ false) × (h ≡ true)
  of-last true j h s q e g l = absurd (omega arith)
  of-last false true h s q e g l = absurd (omega arith)
  of-last false false true s q e g l = (refl, refl)
  of-last false false false true q e g l = absurd (omega arith)
  of-last false false false false true e g l = absurd (omega arith)
  of-last false false false false false e g l = absurd (omega arith)

  pub of_other : (u j h s q : Bool) → k ≡ by_tests u j h s q → 3 < k → k ≤ 4 → (u ≡ false) × (j ≡ false) × (h ≡ false) × (s ≡ false) × (q ≡ false)
  of_other true j h s q e g l = absurd (omega arith)
  of_other false true h s q e g l = absurd (omega arith)
  of_other false false true s q e g l = absurd (omega arith)
  of_other false false false true q e g l = absurd (omega arith)
  of_other false false false false true e g l = absurd (omega arith)
  of_other false false false false false e g l = (refl, refl, refl, refl, refl)

  pub of-saves : (u j h s q : Bool) → k ≡ by_tests u j h s q → 4 < k → k ≤ 5 → (u ≡ false) × (s ≡ true)
  of-saves true j h s q e g l = absurd (omega arith)
  of-saves false true h s q e g l = absurd (omega arith)
  of-saves false false true s q e g l = absurd (omega arith)
  of-saves false false false true q e g l = (refl, refl)
  of-saves false false false false true e g l = absurd (omega arith)
  of-saves false false false false false e g l = absurd (omega arith)

  pub of_none : (u j h s q : Bool) → k ≡ by_tests u j h s q → 5 < k → u ≡ true
  of_none true j h s q e l = refl
  of_none false true h s q e l = absurd (omega arith)
  of_none false false true s q e l = absurd (omega arith)
  of_none false false false true q e l = absurd (omega arith)
  of_none false false false false true e l = absurd (omega arith)
  of_none false false false false false e l = absurd (omega arith)

  pub kind-other : (op : ℕ) → k ≡ kind_of op → 3 < k → k ≤ 4 → (jumping op ≡ false) × (ending op ≡ false) × (plain op ≡ false)
  unfolding kind_of
  kind-other op x g l = let (u, j, h, s, q) = of_other (eqb (get_or lengths op 0) 0) (jumping op) (ending op) (saving op) (plain op) x g l in (j, h, q)

  pub kind-saves : (op : ℕ) → k ≡ kind_of op → 4 < k → k ≤ 5 → saving op ≡ true
  unfolding kind_of
  kind-saves op x g l = (of-saves (eqb (get_or lengths op 0) 0) (jumping op) (ending op) (saving op) (plain op) x g l).1

-- the table has the kind of every opcode
kind-from : (i n k : ℕ) → k < n → get_or (kinds_from i n) k 0 ≡ kind_of (i + k)
unfolding kinds_from
kind-from i zero k l = absurd (not-suc-le-zero l)
kind-from i (suc n) zero l = ap kind_of (sym (add-zero i))
kind-from i (suc n) (suc k) l = kind-from (suc i) n k (le_of_suc-le-suc l) ∙ ap kind_of (suc-add i k ∙ sym (add-suc i k))

pub kind_at : (op : ℕ) → op < 256 → get_or kinds op 0 ≡ kind_of op
unfolding kinds
kind_at op l = kind-from 0 256 op l ∙ ap kind_of (zero-add op)

-- what a row says of the marks before and after it
row-inverse : (a b c : Bool) (x y : ℕ × ℕ) → pick a None (pick b None (pick c None (Some x))) ≡ Some y → (b ≡ false) × (c ≡ false) × (x ≡ y)
row-inverse true b c x y q = cc
row-inverse false true c x y q = cc
row-inverse false false true x y q = cc
row-inverse false false false x y q = (refl, refl, cc)

module _ (op p k size n e : ℕ) (q : row_at op p k size ≡ Some (n, e)) where
  abbrev deep : ℕ
  deep = depth_of k - get_or takens op 0 + get_or lefts op 0

  row-says : (get_or takens op 0 ≤ depth_of k) × (deep ≤ 16) × (passed k deep ≡ e)
  unfolding row_at
  row-says =
      let (a, b, c) = row-inverse (ltb size (p + get_or lengths op 0)) (ltb (depth_of k) (get_or takens op 0)) (ltb 16 deep) (p + get_or lengths op 0, passed k deep) (n, e) q in
      (ltb-false (depth_of k) (get_or takens op 0) a, ltb-false 16 deep b, ap (λ (x : ℕ × ℕ). x.1) c)

  row_of : (o : ℕ) → op ≡ o → (x y : ℕ) → get_or takens o 0 ≡ x → get_or lefts o 0 ≡ y → (x ≤ depth_of k) × (depth_of k - x + y ≤ 16) × (passed k (depth_of k - x + y) ≡ e)
  row_of o h x y t u =
      let t' : get_or takens op 0 ≡ x = ap (λ (i : ℕ). get_or takens i 0) h ∙ t in
      let u' : get_or lefts op 0 ≡ y = ap (λ (i : ℕ). get_or lefts i 0) h ∙ u in
      rw (t', u') at row-says

  -- 036 and 037 leave at least 1
  pub row-some : jumping op ≡ true → 0o36 ≤ op → 1 ≤ depth_of e
  unfolding takens lefts
  row-some j l = go (ℕ_discrete op 0o36)
    where
      at : (x : ℕ) → (1 ≤ depth_of k) × (depth_of k - 1 + 1 ≤ 16) × (passed k (depth_of k - 1 + 1) ≡ x) → 1 ≤ depth_of x
      at x (a, b, c) = let d : depth_of x ≡ depth_of k - 1 + 1 = ap depth_of (sym c) ∙ depth-passed k (depth_of k - 1 + 1) b in omega arith

      go : Dec (op ≡ 0o36) → 1 ≤ depth_of e
      go (yes h) = at e (row_of 0o36 h 1 1 refl refl)
      go (no h) = at e (row_of 0o37 (let k = ltb-true op 0o40 (second (leb 0o30 op) (ltb op 0o40) j) in omega arith) 1 1 refl refl)

-- a jump to marks is a jump to their depths, since 036 and 037 leave at least 1
carry-jumps : (op t n e : ℕ) → (0o36 ≤ op → 1 ≤ depth_of e) → carry (passed e) (jumps op t n (depth_of e)) ≡ jumps op t n e
unfolding jumps
carry-jumps op t n e h = go (leb 0o36 op) refl (or (eqb op 0o31) (or (eqb op 0o33) (eqb op 0o35)))
  where
    go : (u : Bool) → leb 0o36 op ≡ u → (v : Bool)
        → carry (passed e) (pick u (Fork t (depth_of e) n (depth_of e - 1)) (pick v (To t (depth_of e)) (Fork t (depth_of e) n (depth_of e)))) ≡ pick u (Fork t e n (e - 1)) (pick v (To t e) (Fork t e n e))
    go true q v =
        let less : passed e (depth_of e - 1) ≡ e - 1 = ap (passed e) (omega arith) ∙ passed-row e 1 0 (h (leb-true 0o36 op q)) ∙ omega arith in
        ap₂ (λ (x y : ℕ). Fork t x n y) (passed-own e) less
    go false q true = ap (To t) (passed-own e)
    go false q false = ap (λ (x : ℕ). Fork t x n x) (passed-own e)

-- the image from a on has its bytes
pub code-byte : (image bytes : List ℕ) (a i : ℕ) → bytes ≡ drop a image → byte bytes i ≡ byte image (a + i)
code-byte image bytes a i e = ap (λ (l : List ℕ). byte l i) e ∙ get_or-drop a image i 0

-- the cases of a row, at a position with the mark k
module _ (image : List ℕ) (program : Program) (m : Module) (p k : ℕ) where
  abbrev next : ℕ → ℕ → ℕ → Flow
  next op n e = onward image program m p op (code_byte image m (p + 1)) (code_byte image m (p + 2)) n (depth_of e)

  abbrev ahead : ℕ → ℕ → ℕ → Flow
  ahead op n e = carry (leaves k op) (next op n e)

  carried : (op : ℕ) → op ≡ code_byte image m p → carry (leaves k op) (depth_flow image program m p (depth_of k)) ≡ pick (eqb (get_or lengths op 0) 0) Fault (after (ahead op) (row_at op p k m.length))
  unfolding depth_flow row_at
  carried op o =
      let size = get_or lengths op 0 in
      let taken = get_or takens op 0 in
      let e = depth_of k - taken + get_or lefts op 0 in
      rw (sym o) (by (eqb size 0) (ltb m.length (p + size)) (ltb (depth_of k) taken) (ltb 16 e) (p + size) e (λ t. ltb-false 16 e t))
    where
      by : (a b c d : Bool) (n e : ℕ) → (d ≡ false → e ≤ 16)
          → carry (leaves k op) (pick a Fault (pick b Fault (pick c Fault (pick d Fault (onward image program m p op (code_byte image m (p + 1)) (code_byte image m (p + 2)) n e)))))
          ≡ pick a Fault (after (ahead op) (pick b None (pick c None (pick d None (Some (n, passed k e))))))
      by true b c d n e l = refl
      by false true c d n e l = refl
      by false false true d n e l = refl
      by false false false true n e l = refl
      by false false false false n e l = rw (depth-passed k e (l refl)) refl

  pub flow-unmarked : is_mark k ≡ false → flow_at image program m p k ≡ Fault
  unfolding flow_at
  flow-unmarked l = rw l refl

  -- the code's bytes and its length, as they are lent
  module _ (real : is_mark k ≡ true) (bytes : List ℕ) (begins : bytes ≡ drop m.code image) (size : ℕ) (s : size ≡ m.length) where
    abbrev op : ℕ
    op = get_or bytes p 0

    at : (i : ℕ) → byte bytes i ≡ code_byte image m i
    at i = code-byte image bytes m.code i begins

    o : op ≡ code_byte image m p
    o = at p

    abbrev of_row : Option (ℕ × ℕ) → Flow
    of_row r = pick (permits k op) (pick (eqb (get_or lengths op 0) 0) Fault (after (ahead op) r)) Fault

    by_row : (r : Option (ℕ × ℕ)) → row_at op p k size ≡ r → flow_at image program m p k ≡ of_row r
    unfolding flow_at
    by_row r q = rw (real, sym o, carried op o) (ap of_row (ap (row_at op p k) (sym s) ∙ q))

    none : (t u : Bool) → pick t (pick u Fault Fault) Fault ≡ Fault
    none true true = refl
    none true false = refl
    none false u = refl

    pub flow-unfit : row_at op p k size ≡ None → flow_at image program m p k ≡ Fault
    flow-unfit q = by_row None q ∙ none (permits k op) (eqb (get_or lengths op 0) 0)

    module _ (n e : ℕ) (q : row_at op p k size ≡ Some (n, e)) where
      -- any but STORE and LODFW passes its mark on
      passes : saving op ≡ false → (f : Flow) → carry (leaves k op) f ≡ carry (passed e) f
      passes t f =
          let (x, y) = not-saving op t in
          let (a, b, c) = row-says op p k size n e q in
          carry_same (λ d. leaves-passed k op d x y ∙ sym (ap (λ (j : ℕ). passed j d) (sym c) ∙ passed-twice k (deep op p k size n e q) d (omega arith))) f

      module _ (κ : ℕ) (x : κ ≡ kind_of op) where
        -- where it is permitted and listed
        met : permits k op ≡ true → eqb (get_or lengths op 0) 0 ≡ false → flow_at image program m p k ≡ ahead op n e
        met t u = by_row (Some (n, e)) q ∙ rw (t, u) refl

        pub flow-plain : κ ≤ 1 → flow_at image program m p k ≡ To n e
        unfolding kind_of
        flow-plain l =
            let (u, j, h, t, y) = of_plain κ (eqb (get_or lengths op 0) 0) (jumping op) (ending op) (saving op) (plain op) x l in
            met (permits-on k op h t) u ∙ passes t (next op n e) ∙ ap (carry (passed e)) (onward-plain image program m p op (code_byte image m (p + 1)) (code_byte image m (p + 2)) n (depth_of e) j h y) ∙ ap (To n) (passed-own e)

        pub flow-jump : 1 < κ → κ ≤ 2 → (t : ℕ) → t ≡ target op (p + 1) (byte bytes (p + 1)) (byte bytes (p + 1 + 1)) → flow_at image program m p k ≡ jumps op t n e
        unfolding kind_of
        flow-jump g l t z =
            let (u, j) = of-jump κ (eqb (get_or lengths op 0) 0) (jumping op) (ending op) (saving op) (plain op) x g l in
            let near = ltb-true op 0o40 (second (leb 0o30 op) (ltb op 0o40) j) in
            let w : byte bytes (p + 1 + 1) ≡ code_byte image m (p + 2) = ap (byte bytes) (omega arith) ∙ at (p + 2) in
            let t' : target op (p + 1) (code_byte image m (p + 1)) (code_byte image m (p + 2)) ≡ t = sym (z ∙ ap₂ (target op (p + 1)) (at (p + 1)) w) in
            let far : (i : ℕ) → 0o40 ≤ i → op ≡ i → ⊥ = λ i a v. omega arith in
            let other : saving op ≡ false = rw (ne_eqb op 0o262 (far 0o262 (omega arith)), ne_eqb op 0o260 (far 0o260 (omega arith))) refl in
            met (permits-other k op (far 0o354 (omega arith)) (far 0o262 (omega arith)) (far 0o260 (omega arith))) u
            ∙ passes other (next op n e)
            ∙ ap (carry (passed e)) (onward-jump image program m p op (code_byte image m (p + 1)) (code_byte image m (p + 2)) n (depth_of e) j ∙ ap (λ (v : ℕ). jumps op v n (depth_of e)) t')
            ∙ carry-jumps op t n e (row-some op p k size n e q j)

        pub flow-last : 2 < κ → κ ≤ 3 → flow_at image program m p k ≡ pick (permits k op) Ends Fault
        unfolding kind_of
        flow-last g l =
            let (u, h) = of-last κ (eqb (get_or lengths op 0) 0) (jumping op) (ending op) (saving op) (plain op) x g l in
            by_row (Some (n, e)) q ∙ rw (u, onward-ends image program m p op (code_byte image m (p + 1)) (code_byte image m (p + 2)) n (depth_of e) h) refl

        pub flow-saves : 4 < κ → κ ≤ 5 → flow_at image program m p k ≡ pick (permits k op) (To n (leaves k op (depth_of e))) Fault
        unfolding kind_of
        flow-saves g l =
            let (u, t) = of-saves κ (eqb (get_or lengths op 0) 0) (jumping op) (ending op) (saving op) (plain op) x g l in
            let (j, h, y) = saving-plain op t in
            by_row (Some (n, e)) q ∙ rw (u, onward-plain image program m p op (code_byte image m (p + 1)) (code_byte image m (p + 2)) n (depth_of e) j h y) refl

        pub flow-unlisted : 5 < κ → flow_at image program m p k ≡ Fault
        unfolding kind_of
        flow-unlisted g = by_row (Some (n, e)) q ∙ rw (of_none κ (eqb (get_or lengths op 0) 0) (jumping op) (ending op) (saving op) (plain op) x g) (none (permits k op) true)

        pub flow_next : 3 < κ → κ ≤ 4 → (b c : ℕ) → b ≡ byte bytes (p + 1) → c ≡ byte bytes (p + 2)
            → flow_at image program m p k ≡ carry (passed e) (onward image program m p op b c n (depth_of e))
        unfolding kind_of
        flow_next g l b c y w =
            let (u, j, h, t, v) = of_other κ (eqb (get_or lengths op 0) 0) (jumping op) (ending op) (saving op) (plain op) x g l in
            met (permits-on k op h t) u ∙ passes t (next op n e)
            ∙ ap₂ (λ (s t : ℕ). carry (passed e) (onward image program m p op s t n (depth_of e))) (sym (y ∙ at (p + 1))) (sym (w ∙ at (p + 2)))
