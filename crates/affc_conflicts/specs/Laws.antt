-- What the questions of a fold decide.
use Rattle.std.specs.Prelude.{◌≡◌, ◌⊎◌, ℕ, ◌≤◌, ℤ, List, length, take, slice_get, Some}
use Rattle.std.specs.List.{Contains}
use Rattle.affc_rows.specs.Forms.{Affine, HaveColumns, values_of}
use Rattle.affc_system.specs.Systems.{Rows, IsPoint, HasNoPoint}
use Rattle.affc_system.specs.ElementPairs.{IsPairOf}
use Rattle.affc_system.specs.declared.pairs.PairSystem.{PairSystem}
use Rattle.affc_basis.specs.declared.fold.Modulus.{Modulus}
use Rattle.affc_basis.specs.Moduli.{Exceeds}
use Rattle.affc_basis.specs.Folds.{forms_of, IsEnough, IsLeastMark}
use Rattle.affc_nest.specs.Laws.{NoneHasAPoint}
use Rattle.affc_conflicts.specs.Conditions.{InContext}
use Rattle.affc_conflicts.specs.Questions.{fold_questions, greater_question, shown_system}

-- the parameters are the first columns of a system, and its elements have one subscript for each dimension
pub record IsOver (parameters dimensions : ℕ) (s : PairSystem) : Type 0 where
  pub parameters_first : parameters ≤ s.system.columns
  pub x_each : length s.x.items ≡ dimensions
  pub y_each : length s.y.items ≡ dimensions

-- Where no question has a point, each modulus is at least 1 throughout the context, and greater than each distance in its slice.
abbrev pub FoldQuestionsDecide : Type 0
FoldQuestionsDecide = (context : Rows) (ranges : List (ℤ × ℤ)) (systems : List PairSystem) (rows : List Affine) (ms : List Modulus)
    → ((s : PairSystem) → Contains systems s → IsOver context.columns (length rows) s)
    → HaveColumns (length rows) rows → HaveColumns context.columns (forms_of ms)
    → NoneHasAPoint (fold_questions context ranges systems rows ms)
    → (p : List ℤ) → InContext context ranges p → Exceeds (IsPairOf systems p) p rows (forms_of ms)

-- Where a modulus is enough and its question has no point, a point of the rows of its mark shows that it is least.
abbrev pub PairIsShown : Type 0
PairIsShown = (context : Rows) (ranges : List (ℤ × ℤ)) (systems : List PairSystem) (rows : List Affine) (k : ℕ) (row modulus : Affine) (p : List ℤ) (s : PairSystem) (z : List ℤ)
    → Contains systems s → IsOver context.columns (length rows) s
    → HaveColumns (length rows) rows → slice_get rows k ≡ Some row → length modulus.coefs ≡ context.columns
    → IsEnough (InContext context ranges) (IsPairOf systems) rows k row modulus
    → InContext context ranges p → HasNoPoint (greater_question context ranges modulus p)
    → take context.columns z ≡ p
    → (IsPoint (shown_system rows k row modulus s s.x.items s.y.items) z ⊎ IsPoint (shown_system rows k row modulus s s.y.items s.x.items) z)
    → IsLeastMark (InContext context ranges) (IsPairOf systems) rows k row modulus p (Some (values_of s.x.items z, values_of s.y.items z))
