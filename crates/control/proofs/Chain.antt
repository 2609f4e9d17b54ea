-- Laws of the chain of frames, of whose n words i are followed: one word on, a word outside the store, the end. Assumes nothing.
use Rattle.std.specs.Prelude.{Ok, Err}
use mathlib.Core.Path.{◌≡◌, refl}
use mathlib.Core.List.{List}
use Prim.Native.Nat.{ℕ, zero, suc, ◌+◌, ◌-◌, ◌<◌, ◌≤◌}
use native.Mathlib.Omega.{arith}
use Rattle.mcode.specs.declared.Stop.{Stop}
use Rattle.mcode.specs.Step.{followed}
use Rattle.actions.specs.Core.{read_word}
use Rattle.actions.proofs.Laws.{picked, refused}

module _ (store : List ℕ) where
  pub chain-on : (n i a v : ℕ) → i < n → read_word store a ≡ Ok v → followed store (n - i) a ≡ followed store (n - (i + 1)) v
  unfolding followed
  chain-on n i a v l h =
      let q : n - i ≡ suc (n - (i + 1)) = omega arith in
      let e = picked _ _ _ _ h in
      rw (q, e.0, e.1)

  pub chain-off : (n i a : ℕ) (k : Stop) → i < n → read_word store a ≡ Err k → followed store (n - i) a ≡ Err k
  unfolding followed
  chain-off n i a k l h =
      let q : n - i ≡ suc (n - (i + 1)) = omega arith in
      let e = refused _ _ _ _ h in
      rw (q, e.0, e.1)

  pub chain-end : (n i a : ℕ) → n ≤ i → followed store (n - i) a ≡ Ok a
  unfolding followed
  chain-end n i a l = let q : n - i ≡ zero = omega arith in rw q refl
