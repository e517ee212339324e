-- The stores of an array, part by part.
use Rattle.std.specs.Prelude.{ℕ, if◌then◌else◌, List, []}
use Rattle.affc_nest.specs.declared.nest.Entry.{Entry}
use Rattle.affc_flow.specs.Questions.{Writer, store_of_entry, writer_if}

-- the store of the array, if the part can have instances and has one
abbrev pub writers_of : (array : ℕ) → Entry → List Writer
writers_of array e = if e.alive then writer_if array e (store_of_entry e) else []
