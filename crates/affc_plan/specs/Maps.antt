-- Lines that keep the rules, and the forms of their lists.
use Rattle.std.specs.Prelude.{◌≡◌, ℕ, ◌+◌, ◌-◌, ◌≤◌, true, List, [], ◌∷◌, length, slice_get, Some}
use Rattle.affc_rows.specs.Forms.{Affine, HaveColumns, columns_of}
use Rattle.affc_trace.specs.Target.{all_slight}
use Rattle.affc_grammar.specs.Grammar.{Name}
use Rattle.affc_schedtext.specs.declared.outline.ArrayOutline.{ArrayOutline}
use Rattle.affc_schedtext.specs.declared.outline.Outline.{Outline}
use Rattle.affc_schedtext.specs.Outline.{statement_of, iterators_of, array_of}
use Rattle.affc_schedtext.specs.Draft.{LineDraft, OrderDraft, source, time}
use Rattle.affc_schedtext.specs.Rules.{Sides, statement_sides, fold_sides, there_forms, back_forms, large_sides}
use Rattle.affc_schedtext.specs.Answers.{IsFirstLost}
use Rattle.affc_basis.specs.declared.basis.Basis.{Basis}
use Rattle.affc_basis.specs.Bases.{IsFirstBroken}
use Rattle.affc_plan.specs.declared.lost.Lost.{Lost}
use Rattle.affc_plan.specs.declared.lost.Lost.TheVariants as l

-- the line of a statement, with as many forms as components and as many inverse forms as iterators, within the limits
pub record IsRightLine (o : Outline) (n : ℕ) (l : LineDraft) : Type 0 where
  pub iterators : List Name
  pub stands : iterators_of o (statement_of o l.name) ≡ Some iterators
  pub forms : length l.forms ≡ n
  pub inverse : length l.inverse ≡ length iterators
  pub slight : large_sides (statement_sides o n l) ≡ []

-- the line of an array, with as many forms and inverse forms as dimensions, within the limits
pub record IsRightFold (o : Outline) (l : LineDraft) : Type 0 where
  pub number : ℕ
  pub array : ArrayOutline
  pub named : array_of o l.name ≡ Some number
  pub stands : slice_get o.arrays number ≡ Some array
  pub forms : length l.forms ≡ array.dimensions
  pub inverse : length l.inverse ≡ array.dimensions
  pub slight : large_sides (fold_sides o l) ≡ []

abbrev pub AreRightLines : Outline → ℕ → List LineDraft → Type 0
AreRightLines o n [] = Unit {0}
AreRightLines o n (l ∷ ls) = IsRightLine o n l × AreRightLines o n ls

abbrev pub AreRight : Outline → (folds : List LineDraft) → Type 0
AreRight o [] = Unit {0}
AreRight o (l ∷ ls) = IsRightFold o l × AreRight o ls

-- where there are times, 1 to 12 components and a right line each
abbrev pub IsRightOrder : Outline → OrderDraft → Type 0
IsRightOrder o source = Unit {0}
IsRightOrder o (time at n lines) = (1 ≤ n) × (n ≤ 12) × AreRightLines o n lines

-- forms over some columns, and inverse forms of the last of them, all slight
pub record ArePair (forms inverse : List Affine) : Type 0 where
  pub shaped : HaveColumns (columns_of forms) forms
  pub inverse_shaped : HaveColumns (columns_of forms - length inverse + length forms) inverse
  pub at_least_iterators : length inverse ≤ columns_of forms
  pub few_columns : columns_of forms ≤ 10
  pub few_forms : length forms ≤ 12
  pub slight : all_slight forms ≡ true
  pub inverse_slight : all_slight inverse ≡ true

-- ---- What is answered of a line

-- the first inverse form that doesn't give its iterator back
abbrev pub LostIn : Sides → Lost → Type 0
LostIn s l.Memory = Unit {0}
LostIn s (l.Component k) = IsFirstLost (there_forms s) (back_forms s) k

-- the first component at which rows and inverse forms don't multiply to the identity
abbrev pub BrokenIn : Sides → Lost → Type 0
BrokenIn s l.Memory = Unit {0}
BrokenIn s (l.Component k) = IsFirstBroken (there_forms s) (back_forms s) k

-- the basis has the line's forms
pub record IsBasisOfLine (s : Sides) (b : Basis) : Type 0 where
  pub rows : b.rows ≡ there_forms s
  pub inverse : b.inverse ≡ back_forms s
