-- The parts of a nest's assignments, by the numbers of their entries.
use Rattle.std.specs.Prelude.{ℕ, length, Option, Some, None, slice_get}
use Rattle.affc_nest.specs.declared.nest.Entry.{Entry}
use Rattle.affc_nest.specs.declared.nest.Nest.{Nest}

-- how many coordinates an instance has in an entry's domain, behind the parameters: its iterators
abbrev pub coordinates : Entry → ℕ
coordinates e = length e.loops

abbrev pub statement_or_none : Option Entry → ℕ
statement_or_none None = 0
statement_or_none (Some e) = e.statement

-- the number of the statement of which this is a part
abbrev pub statement_of : Nest → (part : ℕ) → ℕ
statement_of nest part = statement_or_none (slice_get nest.entries part)
