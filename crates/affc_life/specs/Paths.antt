-- Paths of trees, as leaves that name nothing yet.
use Rattle.std.specs.Prelude.{◌≡◌, ℕ, ◌+◌, ℤ, List, [], ◌∷◌, ◌++◌, map, Option, None}
use Rattle.affc_rows.specs.Forms.{Affine}
use Rattle.affc_nest.specs.Divisions.{division_rows}
use Rattle.affc_nest.specs.declared.divisions.Division.{Division}
use Rattle.affc_quast.specs.Leaves as quast
use Rattle.affc_quast.specs.SeenLeaves.{division_seen, under}
use Rattle.affc_quast.specs.Trees.{Tree}
use Rattle.affc_quast.specs.declared.leaves.Leaf.{Leaf}
use Rattle.affc_quast.specs.declared.leaves.Named.{Named}

-- the path to the root of a tree over so many columns
abbrev pub at_root : ℕ → Leaf
at_root columns = record { columns = columns; rows = []; divisions = []; named = None }

-- a row behind a path
abbrev pub with_row : Leaf → Affine → Leaf
with_row path row = record path { rows = path.rows ++ row ∷ [] }

-- what stands at the end of a path
abbrev pub with_named : Leaf → Option Named → Leaf
with_named path named = record path { named = named }

-- a division behind a path
pub record IsDivided (path : Leaf) (form : Affine) (by : ℤ) (new : Leaf) : Type 0 where
  pub columns : new.columns ≡ path.columns + 1
  pub rows : new.rows ≡ path.rows ++ division_rows path.columns form by
  pub division : Division
  pub is : division_seen division ≡ (form, by)
  pub divisions : new.divisions ≡ path.divisions ++ division ∷ []
  pub named : new.named ≡ path.named

-- the leaves of a tree behind a path
abbrev pub leaves_under : Leaf → Tree → List quast.Leaf
leaves_under path tree = map (under path.rows (map division_seen path.divisions)) (quast.leaves_of path.columns tree)

-- ---- What was put behind is taken

abbrev pub LosesRow : (old new : Leaf) → Type 0
LosesRow old new = (path : Leaf) (row : Affine) → old ≡ with_row path row → new ≡ path

abbrev pub LosesDivision : (old new : Leaf) → Type 0
LosesDivision old new = (path : Leaf) (form : Affine) (by : ℤ) → IsDivided path form by old → new ≡ path
