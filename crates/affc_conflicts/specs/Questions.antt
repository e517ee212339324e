-- Whether the moduli of a fold are large enough, as questions: systems that have no integer point where they are.
use Rattle.std.specs.Prelude.{ℕ, suc, ◌-◌, ℤ, pos, negsuc, List, [], ◌∷◌, ◌++◌, length, flat_map, take}
use Rattle.affc_rows.specs.Forms.{Affine, value, mixed_form, composed_form}
use Rattle.affc_system.specs.Systems.{Rows}
use Rattle.affc_system.specs.declared.pairs.PairSystem.{PairSystem}
use Rattle.affc_ast.specs.declared.tree.Rel.TheVariants.{Equal}
use Rattle.affc_basis.specs.declared.fold.Mark.{Mark}
use Rattle.affc_basis.specs.declared.fold.Mark.TheVariants.{Least, Bound}
use Rattle.affc_basis.specs.declared.fold.Modulus.{Modulus}
use Rattle.affc_nest.specs.Domains.{gap_row, compare_rows, number_form, box_rows, with_rows}
use Rattle.affc_nest.specs.Questions.{with_row, widened}

-- ---- The context

-- the parameters in their ranges, and the context
abbrev pub context_system : Rows → List (ℤ × ℤ) → Rows
context_system context ranges = record { columns = context.columns; rows = box_rows context.columns 0 ranges ++ context.rows }

-- a modulus at most 0
abbrev pub positive_question : Rows → List (ℤ × ℤ) → (modulus : Affine) → Rows
positive_question context ranges b = with_row (context_system context ranges) (gap_row b (number_form context.columns (pos 0)) 0)

-- a modulus greater than it is at p
abbrev pub greater_question : Rows → List (ℤ × ℤ) → (modulus : Affine) → (p : List ℤ) → Rows
greater_question context ranges b p = with_row (context_system context ranges) (gap_row (number_form context.columns (value b p)) b 1)

-- ---- Distances

abbrev pub differences : (xs ys : List Affine) → List Affine
differences [] ys = []
differences (x ∷ xs) [] = []
differences (x ∷ xs) (y ∷ ys) = mixed_form (pos 1) x (negsuc 0) y ∷ differences xs ys

-- how far x lies behind y along a row, as a form
abbrev pub distance : (row : Affine) → (xs ys : List Affine) → Affine
distance row xs ys = composed_form (record row { constant = pos 0 }) (differences xs ys)

-- the two elements lie apart along none of these rows
abbrev pub agree_rows : PairSystem → List Affine → List Affine
agree_rows s rows = flat_map (λ row. compare_rows Equal (distance row s.x.items s.y.items) (number_form s.system.columns (pos 0))) rows

-- along none of the first k rows
abbrev pub slice_system : (rows : List Affine) → (k : ℕ) → PairSystem → Rows
slice_system rows k s = with_rows s.system (agree_rows s (take k rows))

-- a modulus over the columns of a system, of which the parameters are the first
abbrev pub over_columns : ℕ → Affine → Affine
over_columns columns b = widened (columns - length b.coefs) b

-- in the slice, x lies behind y by at least the modulus
abbrev pub distance_question : (rows : List Affine) → (k : ℕ) → (row modulus : Affine) → PairSystem → (xs ys : List Affine) → Rows
distance_question rows k row b s xs ys = with_row (slice_system rows k s) (gap_row (over_columns s.system.columns b) (distance row xs ys) 0)

-- ---- All questions of a fold

-- per system: x behind y, and y behind x
abbrev pub distance_questions : (rows : List Affine) → (k : ℕ) → (row modulus : Affine) → List PairSystem → List Rows
distance_questions rows k row b systems =
    flat_map (λ s. distance_question rows k row b s s.x.items s.y.items ∷ distance_question rows k row b s s.y.items s.x.items ∷ []) systems

-- that a modulus is nowhere greater than at the p of its mark
abbrev pub mark_questions : Rows → List (ℤ × ℤ) → (modulus : Affine) → Mark → List Rows
mark_questions context ranges b (Least p pair) = greater_question context ranges b p ∷ []
mark_questions context ranges b Bound = []

-- of row k: that its modulus is at least 1, that it exceeds each distance in its slice, and what its mark says of it
abbrev pub row_questions : Rows → List (ℤ × ℤ) → List PairSystem → (rows : List Affine) → (k : ℕ) → (row : Affine) → Modulus → List Rows
row_questions context ranges systems rows k row m =
    positive_question context ranges m.form ∷ (distance_questions rows k row m.form systems ++ mark_questions context ranges m.form m.mark)

-- per row from the k-th on
abbrev pub questions_from : Rows → List (ℤ × ℤ) → List PairSystem → (rows : List Affine) → (k : ℕ) → List Affine → List Modulus → List Rows
questions_from context ranges systems rows k [] ms = []
questions_from context ranges systems rows k (row ∷ more) [] = []
questions_from context ranges systems rows k (row ∷ more) (m ∷ ms) =
    row_questions context ranges systems rows k row m ++ questions_from context ranges systems rows (suc k) more ms

abbrev pub fold_questions : Rows → List (ℤ × ℤ) → List PairSystem → (rows : List Affine) → List Modulus → List Rows
fold_questions context ranges systems rows ms = questions_from context ranges systems rows 0 rows ms

-- ---- What is shown of a mark

-- at a point of this system the two elements lie apart by the modulus less 1, and by at least 1
abbrev pub shown_system : (rows : List Affine) → (k : ℕ) → (row modulus : Affine) → PairSystem → (xs ys : List Affine) → Rows
shown_system rows k row b s xs ys =
    let d = distance row xs ys in
    let one = number_form s.system.columns (pos 1) in
    with_rows (slice_system rows k s) (compare_rows Equal d (mixed_form (pos 1) (over_columns s.system.columns b) (negsuc 0) one) ++ gap_row one d 0 ∷ [])
