-- The rows that questions on distances, and what is shown of marks, have behind those of a clash system.
use Rattle.std.specs.Prelude.{ℕ, pos, negsuc, List, [], ◌∷◌, ◌++◌, take}
use Rattle.affc_rows.specs.Forms.{Affine, mixed_form}
use Rattle.affc_system.specs.declared.pairs.PairSystem.{PairSystem}
use Rattle.affc_ast.specs.declared.tree.Rel.TheVariants.{Equal}
use Rattle.affc_nest.specs.Domains.{gap_row, compare_rows, number_form}
use Rattle.affc_conflicts.specs.Questions.{distance, agree_rows, over_columns}

-- the elements lie apart along none of the first k rows, and x behind y along the row by at least the modulus
abbrev pub distance_tail : (rows : List Affine) → (k : ℕ) → (row modulus : Affine) → PairSystem → (xs ys : List Affine) → List Affine
distance_tail rows k row b s xs ys = agree_rows s (take k rows) ++ gap_row (over_columns s.system.columns b) (distance row xs ys) 0 ∷ []

-- they lie apart along none of the first k rows, and x behind y along the row by the modulus less 1, and by at least 1
abbrev pub shown_tail : (rows : List Affine) → (k : ℕ) → (row modulus : Affine) → PairSystem → (xs ys : List Affine) → List Affine
shown_tail rows k row b s xs ys =
    let d = distance row xs ys in
    let one = number_form s.system.columns (pos 1) in
    agree_rows s (take k rows) ++ (compare_rows Equal d (mixed_form (pos 1) (over_columns s.system.columns b) (negsuc 0) one) ++ gap_row one d 0 ∷ [])
