-- How deep a proof is, and the rows that stand at its nodes.
use Rattle.std.specs.Prelude.{◌≡◌, ◌⊎◌, ℕ, ◌+◌, max, List, [], ◌∷◌, ◌++◌}
use Rattle.affc_rows.specs.Forms.{Affine}
use Rattle.affc_farkas.specs.Proofs.{low_row, high_row}
use Rattle.affc_farkas.specs.declared.proof.Proof.{Proof, Leaf, Cut', Split'}

-- the most cuts and splits on a way down to a leaf
abbrev pub depth : Proof → ℕ
depth (Leaf by) = 0
depth (Cut' by g row p rest) = depth rest + 1
depth (Split' form at p low q high) = max (depth low) (depth high) + 1

-- these rows stand at some node of a proof that stands below `above`: at the proof itself, or behind what a cut or a split adds, at a
-- node further down
abbrev pub StandAtNode : List Affine → Proof → List Affine → Type 0
StandAtNode above (Leaf by) rows = rows ≡ above
StandAtNode above (Cut' by g row p rest) rows = (rows ≡ above) ⊎ StandAtNode (above ++ row ∷ []) rest rows
StandAtNode above (Split' form at p low q high) rows =
    (rows ≡ above) ⊎ (StandAtNode (above ++ low_row form at ∷ []) low rows ⊎ StandAtNode (above ++ high_row form at ∷ []) high rows)
