-- Accesses as the code holds them, before their forms are made.
use Rattle.std.specs.Prelude.{ℕ, IsTrue, List, [], ◌∷◌, map}
use Rattle.affc_domain.specs.Accesses.{Access}
use Rattle.affc_domain.specs.Plain.{all_plain}
use Rattle.affc_nest.specs.declared.accesses.Touch.{Touch}

abbrev pub touched : Touch → Access
touched t = (t.array, t.subs.now)

abbrev pub all_touched : List Touch → List Access
all_touched = map touched

-- all subscripts are plain over so many names
abbrev pub AllPlain : ℕ → List Access → Type 0
AllPlain names [] = Unit {0}
AllPlain names (x ∷ xs) = IsTrue (all_plain names x.1) × AllPlain names xs
