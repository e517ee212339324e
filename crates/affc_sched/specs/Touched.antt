-- Accesses of living statements, and what holds of each of a list.
use Rattle.std.specs.Prelude.{List, [], ◌∷◌, IsTrue}
use Rattle.affc_trace.specs.Law.{IsIn}
use Rattle.affc_nest.specs.declared.nest.Access.{Access}
use Rattle.affc_nest.specs.declared.nest.Entry.{Entry}
use Rattle.affc_nest.specs.declared.nest.Nest.{Nest}

-- a living statement's access
pub record IsTouched (nest : Nest) (e : Entry) (x : Access) : Type 0 where
  pub there : IsIn e nest.entries
  pub alive : IsTrue e.alive
  pub among : IsIn x e.accesses

-- each of the list
abbrev pub Each : {A : Type 0} (P : A → Type 0) → List A → Type 0
Each P [] = Unit {0}
Each P (x ∷ xs) = P x × Each P xs
