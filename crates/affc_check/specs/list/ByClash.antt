-- The questions on distances by what clash systems say, however these are held.
use Rattle.std.specs.Prelude.{ℕ, ℤ, pos, negsuc, List, [], ◌∷◌, flat_map, take, Option, None, slice_get}
use Rattle.affc_rows.specs.Forms.{Affine}
use Rattle.affc_system.specs.Systems.{Rows}
use Rattle.affc_ast.specs.declared.tree.Rel.TheVariants.{Equal}
use Rattle.affc_nest.specs.Domains.{gap_row, compare_rows, number_form, with_rows}
use Rattle.affc_nest.specs.Questions.{with_row}
use Rattle.affc_conflicts.specs.Questions.{distance, over_columns}
use Rattle.affc_life.specs.Clashes.{Clash}

-- in the slice along none of the first k rows
abbrev pub slice_by : (rows : List Affine) → ℕ → Clash → Rows
slice_by rows k c = with_rows c.system (flat_map (λ r. compare_rows Equal (distance r c.x c.y) (number_form c.system.columns (pos 0))) (take k rows))

abbrev pub question_by : (rows : List Affine) → ℕ → (row b : Affine) → Clash → (xs ys : List Affine) → Rows
question_by rows k row b c xs ys = with_row (slice_by rows k c) (gap_row (over_columns c.system.columns b) (distance row xs ys) 0)

abbrev pub questions_by : (rows : List Affine) → ℕ → (row b : Affine) → Clash → List Rows
questions_by rows k row b c = question_by rows k row b c c.x c.y ∷ question_by rows k row b c c.y c.x ∷ []

-- the clash system with this number
abbrev pub clash_at : List Clash → ℤ → Option Clash
clash_at cs (pos n) = slice_get cs n
clash_at cs (negsuc n) = None
