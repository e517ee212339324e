-- The first of the faults at which something lies, by the order of their keys.
use Rattle.std.specs.Prelude.{◌≡◌, ◌⊎◌, Option, None, Some}
use Rattle.affc_system.specs.Order.{LexLe}
use Rattle.affc_bounds.specs.declared.found.Found.{Found}

abbrev pub Nowhere : Found → Type 0
Nowhere f = ⊥

abbrev pub Either : (here there : Found → Type 0) → Found → Type 0
Either here there f = here f ⊎ there f

-- none of these, or one of the least key
abbrev pub IsFirst : (These : Found → Type 0) → Option Found → Type 0
IsFirst These None = (f : Found) → These f → ⊥
IsFirst These (Some f) = These f × ((g : Found) → These g → LexLe f.key g.key)

-- the first of two, if there are any
abbrev pub IsNearer : (a b nearer : Option Found) → Type 0
IsNearer None b nearer = nearer ≡ b
IsNearer (Some x) None nearer = nearer ≡ Some x
IsNearer (Some x) (Some y) nearer = ((nearer ≡ Some x) × LexLe x.key y.key) ⊎ ((nearer ≡ Some y) × LexLe y.key x.key)
