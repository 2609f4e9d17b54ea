-- The states of the search for the fewest assignment, which the contracts of its parts cite. A reader of `check`'s contract needs none of this.
use Rattle.std.specs.Prelude.{◌≡◌, ℕ, zero, suc, ◌+◌, ◌<◌, ◌≤◌, Bool, true, false, cond, ◌⊎◌, List, [], ◌∷◌, length, ◌==◌, ◌≢◌, slice_index, slice_index_or, slice_set, Option, Some, None}
use Rattle.depths.specs.declared.Turn.{Turn}
use Rattle.mcode.specs.Depths.{Analysis, mark, Marked, Follows, Fits, Fewest, NoneFits, unmarked, is_mark}

-- how many positions are unmarked
unfoldable pub free : ℕ → List ℕ → ℕ
free n [] = zero
free n (x ∷ xs) = cond (x == n) (suc (free n xs)) (free n xs)

-- every fitting assignment marks p with d
abbrev pub Implied : Analysis → ℕ → ℕ → Type 0
Implied A p d = (m : List ℕ) → Fits A m → mark A m p ≡ d

-- m' has every mark of m
abbrev pub Grows : Analysis → List ℕ → List ℕ → Type 0
Grows A m m' = (p : ℕ) → Marked A m p → mark A m' p ≡ mark A m p

-- the map m and the queue w of marked positions, of which those before h have their successors marked and those from h to t wait
pub record Queue (A : Analysis) (m w : List ℕ) (h t : ℕ) : Type 0 where
  pub sized : length m ≡ A.size
  pub implied : (p : ℕ) → Marked A m p → Implied A p (mark A m p)
  pub ordered : h ≤ t
  pub room : t + free A.none m ≤ length w
  pub listed : (p : ℕ) → Marked A m p → (k : ℕ) × (k < t) × (slice_index w k ≡ p)
  pub marked : (k : ℕ) → k < t → Marked A m (slice_index w k)
  pub done : (k : ℕ) → k < h → Follows A m (A.flow (slice_index w k) (mark A m (slice_index w k)))

-- the entries before e have their marks
abbrev pub Entered : Analysis → List ℕ → ℕ → Type 0
Entered A m e = (i : ℕ) → i < e → mark A m (A.entry_at i) ≡ A.entry_mark i

-- every mark of the map is an encoding; of what a visit or a turn leaves, as long as the search goes on
abbrev pub AllMarks : List ℕ → Type 0
AllMarks m = (p : ℕ) → (slice_index_or m p unmarked ≢ unmarked) → is_mark (slice_index_or m p unmarked) ≡ true

abbrev pub Visiting : Option ℕ → List ℕ → Type 0
Visiting None m = Unit {0}
Visiting (Some t) m = AllMarks m

abbrev pub Turning : Option Turn → List ℕ → Type 0
Turning None m = Unit {0}
Turning (Some turn) m = AllMarks m

-- what visiting position q for the mark d does to the map and the queue
abbrev pub Visited : ℕ → List ℕ → List ℕ → ℕ → ℕ → ℕ → Option ℕ → List ℕ → List ℕ → Type 0
Visited none m w t q d None m' w' = (length m ≤ q) ⊎ ((q < length m) × (slice_index_or m q none ≢ none) × (slice_index_or m q none ≢ d))
Visited none m w t q d (Some t') m' w' =
    (q < length m)
    × (((slice_index_or m q none ≡ none) × (m' ≡ slice_set m q d) × (w' ≡ slice_set w t q) × (t' ≡ t + 1))
    ⊎ ((slice_index_or m q none ≡ d) × (m' ≡ m) × (w' ≡ w) × (t' ≡ t)))

-- a step of the search: the queue goes on, or no assignment fits
abbrev pub Stepped : Analysis → ℕ → List ℕ → Option ℕ → List ℕ → List ℕ → Type 0
Stepped A h m None m' w' = NoneFits A
Stepped A h m (Some t') m' w' = Queue A m' w' h t' × Grows A m m'

-- the turn is that of the position at h, if one waits
abbrev pub Headed : ℕ → List ℕ → List ℕ → ℕ → ℕ → Turn → Type 0
Headed none m w h t turn = (turn.tail ≡ t) × (h < t → (slice_index w h ≡ turn.position) × (slice_index_or m turn.position none ≡ turn.found))

-- a step of the search that says whose turn is next
abbrev pub Advanced : Analysis → ℕ → List ℕ → Option Turn → List ℕ → List ℕ → Type 0
Advanced A h m None m' w' = NoneFits A
Advanced A h m (Some turn) m' w' = Queue A m' w' h turn.tail × Grows A m m' × (h < turn.tail → (slice_index w' h ≡ turn.position) × (slice_index_or m' turn.position A.none ≡ turn.found))

-- the entries are visited, or no assignment fits
abbrev pub Started : Analysis → Option ℕ → List ℕ → List ℕ → Type 0
Started A None m w = NoneFits A
Started A (Some t) m w = Queue A m w 0 t × Entered A m A.entries

-- the search ended: m is the fewest, or no assignment fits
abbrev pub Found : Analysis → Bool → List ℕ → Type 0
Found A true m = Fewest A m
Found A false m = NoneFits A
