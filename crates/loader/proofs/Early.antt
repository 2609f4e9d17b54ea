-- What the reader refuses with: 1 to 6, so that its refusals have no place. Assumes nothing.
use mathlib.Core.Path.{◌≡◌, refl}
use mathlib.Core.Logic.{◌⊎◌, inl, inr}
use mathlib.Core.Bool.{Bool, true, false}
use mathlib.Core.List.{List}
use Prim.Native.Nat.{ℕ, zero, suc, ◌+◌, ◌/◌, ◌%◌, ◌≤◌}
use native.Mathlib.Omega.{arith}
use lib.ListN.{length, set, replicate}
use lib.Dec.{ltb, leb, eqb}
use Rattle.mcode.specs.declared.Module.{Module}
use Rattle.mcode.specs.declared.Position.{Position}
use Rattle.mcode.specs.declared.Refusal.{Refusal}
use Rattle.mcode.specs.declared.Refusal.TheVariants.{ImageSize, ModuleCount, ImageEnds, BytesAfter, BitMap, Field, MapShort, NoDepths, StoreSize, ChannelCount, NotAMachine, MapUnfit, NotWhole, OutputShort}
use Rattle.mcode.specs.Word.{pick, and, byte}
use Rattle.mcode.specs.Image.{Part, Got, Refused, Head, Read, NoHead, most_modules, part, head, within, byte_at, word_at, skip_at, bits_at, data_at, count_at, name_at, length_at, limited_at, record_at, records_at, first_limit, body_at, module_at, no_module, refused_by, parsed, modules_from, parse}
use Rattle.mcode.specs.Run.{verdict}
use Rattle.mcode.specs.Answer.{refusal_number, refusal_verdict}

data Early : Part → Type 0 where
  got : {v n : ℕ} → Early (Got v n)
  ends-here : {k : ℕ} → k ≤ 6 → Early (Refused k)

by-test : (t : Bool) {p q : Part} → Early p → Early q → Early (pick t p q)
by-test true a b = a
by-test false a b = b

then : {p : Part} {f : ℕ → ℕ → Part} → Early p → ((v n : ℕ) → Early (f v n)) → Early (part p f)
then (got {v = v} {n = n}) g = g v n
then (ends-here l) g = ends-here l

data Heads : Head → Type 0 where
  read : {m : Module} {n : ℕ} → Heads (Read m n)
  none : {k : ℕ} → k ≤ 6 → Heads (NoHead k)

on : {p : Part} {f : ℕ → ℕ → Head} → Early p → ((v n : ℕ) → Heads (f v n)) → Heads (head p f)
on (got {v = v} {n = n}) g = g v n
on (ends-here l) g = none l

module _ (s : List ℕ) where
  byte-early : (at : ℕ) → Early (byte_at s at)
  unfolding byte_at
  byte-early at = by-test (ltb at (length s)) got (ends-here (omega arith))

  word-early : (at : ℕ) → Early (word_at s at)
  unfolding word_at
  word-early at = by-test (ltb (at + 1) (length s)) got (ends-here (omega arith))

  skip-early : (at n : ℕ) → Early (skip_at s at n)
  unfolding skip_at
  skip-early at n = by-test (leb (at + n) (length s)) got (ends-here (omega arith))

  within-early : (t : Bool) (v n : ℕ) → Early (within t v n)
  within-early t v n = by-test t got (ends-here (omega arith))

  bits-early : (at : ℕ) → Early (bits_at s at)
  unfolding bits_at
  bits-early at = then (byte-early at) (λ v n. by-test (ltb v 8) got (ends-here (omega arith)))

  data-early : (at bits : ℕ) → Early (data_at s at bits)
  unfolding data_at
  data-early at bits = by-test (eqb (bits % 2) 1) (word-early at) got

  count-early : (at bits : ℕ) → Early (count_at s at bits)
  unfolding count_at
  count-early at bits = by-test (eqb (bits / 2 % 2) 1) (then (byte-early at) (λ v n. within-early (leb 1 v) v n)) got

  name-early : (at bits : ℕ) → Early (name_at s at bits)
  unfolding name_at
  name-early at bits = by-test (eqb (bits / 4 % 2) 1) (skip-early at 8) got

  length-early : (at : ℕ) → Early (length_at s at)
  unfolding length_at
  length-early at = then (word-early at) (λ v n. within-early (and (leb 1 v) (leb v 32767)) v n)

  limited-early : (at limit : ℕ) → Early (limited_at s at limit)
  unfolding limited_at
  limited-early at limit = then (byte-early at) (λ v n. within-early (leb v limit) v n)

  record-early : (code_length limit at : ℕ) → Early (record_at s code_length limit at)
  unfolding record_at
  record-early code_length limit at =
      then (word-early at) (λ entry n. then (within-early (ltb entry code_length) entry n) (λ _ a. then (limited-early a limit) (λ _ b. limited-early b 4)))

  records-early : (code_length limit n at : ℕ) → Early (records_at s code_length limit n at)
  unfolding records_at
  records-early code_length limit zero at = got
  records-early code_length limit (suc n) at = then (record-early code_length limit at) (λ _ a. records-early code_length 16 n a)

  module-early : (number base at : ℕ) → Heads (module_at s number base at)
  unfolding module_at body_at
  module-early number base at =
      on (bits-early at) (λ bits a. on (data-early a bits) (λ size b. on (count-early b bits) (λ procs c. on (name-early c bits) (λ _ d.
      on (length-early d) (λ long e. on (records-early long (first_limit number) procs e) (λ _ f. on (skip-early f long) (λ _ g. read)))))))

  modules-early : (n i at base : ℕ) (table : List Module) → (modules_from s n i at base table).refusal ≤ 6
  unfolding modules_from refused_by
  modules-early zero i at base table = go (eqb at (length s))
    where
      go : (t : Bool) → (pick t (record { refusal = 0; program = record { count = i; end = base; modules = table } }) (refused_by 4)).refusal ≤ 6
      go true = omega arith
      go false = omega arith
  modules-early (suc n) i at base table = go (λ j a b t. modules-early n j a b t) (module_at s i base at) (module-early i base at)
    where
      go : ((j a b : ℕ) (t : List Module) → (modules_from s n j a b t).refusal ≤ 6)
          → (h : Head) → Heads h → (parsed h (λ m next. modules_from s n (i + 1) next (base + 3 + m.size) (set table i m))).refusal ≤ 6
      go ih (Read m next) read = ih (i + 1) next (base + 3 + m.size) (set table i m)
      go ih (NoHead k) (none l) = l

  pub early : (parse s).refusal ≤ 6
  unfolding parse refused_by
  early = go (eqb (length s) 0) (ltb 65535 (length s)) (eqb (byte s 0) 0) (ltb most_modules (byte s 0))
    where
      go : (a b c d : Bool)
          → (pick a (refused_by 1) (pick b (refused_by 1) (pick c (refused_by 2) (pick d (refused_by 2) (modules_from s (byte s 0) 0 1 128 (replicate most_modules no_module)))))).refusal ≤ 6
      go true b c d = omega arith
      go false true c d = omega arith
      go false false true d = omega arith
      go false false false true = omega arith
      go false false false false = modules-early (byte s 0) 0 1 128 (replicate most_modules no_module)

-- a refusal that has no place
record Plain (k : Refusal) : Type 0 where
  verdict-is : refusal_verdict k ≡ verdict (refusal_number k)
  some : 1 ≤ refusal_number k

abbrev Placed : Refusal → Type 0
Placed k = (unit : ℕ) × (pc : Position) × (k ≡ NotWhole unit pc)

sorted : (k : Refusal) → Plain k ⊎ Placed k
sorted ImageSize = inl (record { verdict-is = refl; some = omega arith })
sorted ModuleCount = inl (record { verdict-is = refl; some = omega arith })
sorted ImageEnds = inl (record { verdict-is = refl; some = omega arith })
sorted BytesAfter = inl (record { verdict-is = refl; some = omega arith })
sorted BitMap = inl (record { verdict-is = refl; some = omega arith })
sorted Field = inl (record { verdict-is = refl; some = omega arith })
sorted MapShort = inl (record { verdict-is = refl; some = omega arith })
sorted NoDepths = inl (record { verdict-is = refl; some = omega arith })
sorted StoreSize = inl (record { verdict-is = refl; some = omega arith })
sorted ChannelCount = inl (record { verdict-is = refl; some = omega arith })
sorted NotAMachine = inl (record { verdict-is = refl; some = omega arith })
sorted MapUnfit = inl (record { verdict-is = refl; some = omega arith })
sorted (NotWhole unit pc) = inr (unit, pc, refl)
sorted OutputShort = inl (record { verdict-is = refl; some = omega arith })

-- each has a number, and the early ones have no place
pub numbered : (k : Refusal) → 1 ≤ refusal_number k
numbered k = go (sorted k)
  where
    go : Plain k ⊎ Placed k → 1 ≤ refusal_number k
    go (inl P) = P.some
    go (inr (unit, pc, e)) = rw e (omega arith)

pub placeless : (k : Refusal) → refusal_number k ≤ 6 → refusal_verdict k ≡ verdict (refusal_number k)
placeless k l = go (sorted k)
  where
    go : Plain k ⊎ Placed k → refusal_verdict k ≡ verdict (refusal_number k)
    go (inl P) = P.verdict-is
    go (inr (unit, pc, e)) = absurd (let h : 13 ≤ 6 = rw e at l in omega (arith, h))
