-- The examples, computed.
use Rattle.std.proofs.Common.{◌≡◌, List, [], ◌∷◌, ◌++◌, pos, negsuc, refl, ap, ◌∙◌}
use Rattle.affc_rows.specs.Forms.{Affine, mixed_form}
use Rattle.affc_system.specs.Systems.{Rows}
use Rattle.affc_system.specs.Examples.{form, below_n, AreNeighbours}
use Rattle.affc_system.specs.declared.pairs.PairSystem.{PairSystem}
use Rattle.affc_ast.specs.declared.tree.Rel.TheVariants.{Equal}
use Rattle.affc_basis.specs.Examples.{x0, one_more}
use Rattle.affc_nest.specs.Domains.{gap_row, compare_rows, number_form, with_rows}
use Rattle.affc_nest.specs.Questions.{with_row}
use Rattle.affc_conflicts.specs.Questions.{distance, over_columns}
use Rattle.affc_conflicts.specs.Examples.{QuestionsOfTheContext, QuestionsOfNeighbours, SliceOfNeighbours, MarkOfNeighbours}

pub questions_of_the_context : QuestionsOfTheContext
questions_of_the_context = (refl, refl)

-- what is made of a pair system depends on its system and on the subscripts alone
of_parts : (s : PairSystem) → AreNeighbours s → {A : Type 0} → (make : Rows → List Affine → List Affine → A)
    → make s.system s.x.items s.y.items ≡ make below_n (form (pos 0) (pos 1) (pos 0) ∷ []) (form (pos 0) (pos 1) (pos 1) ∷ [])
of_parts s are {A} make =
    ap (λ q. make q s.x.items s.y.items) are.points
    ∙ ap (λ xs. make below_n xs s.y.items) are.first
    ∙ ap (make below_n (form (pos 0) (pos 1) (pos 0) ∷ [])) are.second

abbrev question : Rows → List Affine → List Affine → Rows
question q xs ys = with_row (with_rows q []) (gap_row (over_columns q.columns one_more) (distance x0 xs ys) 0)

pub questions_of_neighbours : QuestionsOfNeighbours
questions_of_neighbours s are = of_parts s are (λ q xs ys. question q xs ys ∷ question q ys xs ∷ [])

pub slice_of_neighbours : SliceOfNeighbours
slice_of_neighbours s are = of_parts s are (λ q xs ys. with_rows q (compare_rows Equal (distance x0 xs ys) (number_form q.columns (pos 0)) ++ []))

pub mark_of_neighbours : MarkOfNeighbours
mark_of_neighbours s are = of_parts s are (λ q xs ys.
    with_rows (with_rows q []) (
    compare_rows Equal (distance x0 ys xs) (mixed_form (pos 1) (over_columns q.columns one_more) (negsuc 0) (number_form q.columns (pos 1)))
    ++ gap_row (number_form q.columns (pos 1)) (distance x0 ys xs) 0 ∷ []))
