-- What is asked of a loaded module by two lists of numbers, how many procedures each module has and where its table stands, is what its own record says.
use Rattle.std.proofs.Common.{◌≡◌, ℕ, zero, suc, ◌<◌, Bool, true, false, ltb, List, [], ◌∷◌, length, get_or, refl, ap, ◌∙◌, arith, ltb-true}
use Rattle.mcode.specs.declared.Module.{Module}
use Rattle.mcode.specs.declared.Program.{Program}
use Rattle.mcode.specs.Word.{pick}
use Rattle.mcode.specs.Image.{no_module, module_of}

-- a module of which only its procedure records are known
abbrev pub light : ℕ → ℕ → Module
light procs table = record { code = 0; length = 0; size = 0; base = 0; procs = procs; table = table }

unfoldable pub lights : List ℕ → List ℕ → List Module
lights [] ts = []
lights (p ∷ ps) [] = []
lights (p ∷ ps) (t ∷ ts) = light p t ∷ lights ps ts

-- a program of such modules
abbrev pub light_of : ℕ → List ℕ → List ℕ → Program
light_of count procs tables = record { count = count; end = 0; modules = lights procs tables }

pub light-at : (ps ts : List ℕ) (k : ℕ) → length ps ≡ length ts → get_or (lights ps ts) k no_module ≡ light (get_or ps k 0) (get_or ts k 0)
unfolding lights
light-at [] [] k e = refl
light-at [] (t ∷ ts) k e = absurd (let z : ⊥ = omega (arith, e) in z)
light-at (p ∷ ps) [] k e = absurd (let z : ⊥ = omega (arith, e) in z)
light-at (p ∷ ps) (t ∷ ts) zero e = refl
light-at (p ∷ ps) (t ∷ ts) (suc k) e = light-at ps ts k (omega (arith, e))

-- a choice whose first way may be exchanged where the test is passed
by_first : {A : Type 0} (b : Bool) (f g h : A) → (b ≡ true → f ≡ g) → pick b f h ≡ pick b g h
by_first true f g h e = e refl
by_first false f g h e = refl

-- what is asked of a module if it is loaded, by the lists: what its own record says
pub lent_says : {A : Type 0} (count : ℕ) (procs tables : List ℕ) → length procs ≡ length tables → (f : Module → A) (said none : A) (k : ℕ)
    → (k < count → f (light (get_or procs k 0) (get_or tables k 0)) ≡ said)
    → pick (ltb k count) (f (module_of (light_of count procs tables) k)) none ≡ pick (ltb k count) said none
lent_says count procs tables s f said none k h =
    by_first (ltb k count) (f (module_of (light_of count procs tables) k)) said none (λ t. ap f (light-at procs tables k s) ∙ h (ltb-true k count t))
