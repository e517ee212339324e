-- What a leaf in code is seen as.
use Rattle.std.specs.Prelude.{ℕ, ℤ, List, [], ◌++◌, map, Option, Some, None}
use Rattle.affc_rows.specs.Forms.{Affine}
use Rattle.affc_order.specs.Posed.{Posed}
use Rattle.affc_nest.specs.declared.divisions.Division.{Division}
use Rattle.affc_quast.specs.declared.leaves.Leaf as held
use Rattle.affc_quast.specs.declared.leaves.Named.{Named}
use Rattle.affc_quast.specs.Leaves.{Leaf}

abbrev pub division_seen : Division → Affine × ℤ
division_seen d = (d.form, d.by)

abbrev pub named_seen : Option Named → Option Posed
named_seen None = None
named_seen (Some a) = Some (record { part = a.part; iterators = a.forms })

abbrev pub leaf_seen : held.Leaf → Leaf
leaf_seen l = record { columns = l.columns; rows = l.rows; divisions = map division_seen l.divisions; named = named_seen l.named }

-- a leaf behind these rows and divisions
abbrev pub under : List Affine → List (Affine × ℤ) → Leaf → Leaf
under rows divisions l = record { columns = l.columns; rows = rows ++ l.rows; divisions = divisions ++ l.divisions; named = l.named }

-- a leaf with nothing above it
abbrev pub ending : ℕ → Option Posed → Leaf
ending columns named = record { columns = columns; rows = []; divisions = []; named = named }
