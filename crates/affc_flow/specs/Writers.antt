-- The parts that store an array.
use Rattle.std.specs.Prelude.{◌≡◌, ℕ, IsTrue, Some}
use Rattle.affc_trace.specs.Law.{IsIn}
use Rattle.affc_nest.specs.declared.nest.Access.{Access}
use Rattle.affc_nest.specs.declared.nest.Entry.{Entry}
use Rattle.affc_nest.specs.declared.nest.Nest.{Nest}
use Rattle.affc_flow.specs.Questions.{store_of_entry}

-- a part that can have instances, and its store of the array
pub record Writes (nest : Nest) (array : ℕ) (e : Entry) (y : Access) : Type 0 where
  pub among : IsIn e nest.entries
  pub alive : IsTrue e.alive
  pub last : store_of_entry e ≡ Some y
  pub of_array : y.array.0 ≡ array
