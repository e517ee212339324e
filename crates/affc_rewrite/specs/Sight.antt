-- Assignments that hold only names in sight.
use Rattle.std.specs.Prelude.{ℕ, ◌≤◌, Bool, true, ◌&&◌, IsTrue, List, [], ◌∷◌}
use Rattle.affc_ast.specs.declared.tree.ArrayId.{ArrayId}
use Rattle.affc_ast.specs.declared.tree.Ix.{Ix}
use Rattle.affc_ast.specs.declared.tree.Program.{Program}
use Rattle.affc_ast.specs.declared.tree.Val.{Val}
use Rattle.affc_ast.specs.declared.tree.Val.TheOpen.{Val-F, Load, Const, Cast, Not, Bin, Shift}
use Rattle.affc_ast.specs.Recursion.{by_val}
use Rattle.affc_ast.specs.Trace.{Assignment, assignments}
use Rattle.affc_trace.specs.Law.{IsIn}
use Rattle.affc_domain.specs.Affine.{sees}
use Rattle.affc_domain.specs.Plain.{IsPlain}
use Rattle.affc_basis.specs.declared.fold.Fold.{Fold}
use Rattle.affc_basis.specs.FoldLists.{AreFoldsIn}
use Rattle.affc_rewrite.specs.Rewrite.{folded_program}

abbrev pub all_see : (names : ℕ) → List Ix → Bool
all_see names [] = true
all_see names (e ∷ es) = sees names e && all_see names es

abbrev pub value_sees_step : (names : ℕ) → Val-F Bool → Bool
value_sees_step names (Load array subs) = all_see names subs
value_sees_step names (Const n) = true
value_sees_step names (Cast e) = sees names e
value_sees_step names (Not a) = a
value_sees_step names (Bin op a b) = a && b
value_sees_step names (Shift left a by) = a

abbrev pub value_sees : (names : ℕ) → Val → Bool
value_sees names = by_val (value_sees_step names)

-- where at most 16 names are in sight
pub record IsInSight (a : Assignment) : Type 0 where
  pub names : ℕ
  pub few : names ≤ 16
  pub subs : IsTrue (all_see names a.subs)
  pub value : IsTrue (value_sees names a.value)

-- All assignments of a folded program are such ones.
abbrev pub FoldedInSight : Type 0
FoldedInSight = (source : Program) (folds : List (ArrayId × Fold)) (a : Assignment)
    → IsPlain source → AreFoldsIn source folds → IsIn a (assignments (folded_program source folds)) → IsInSight a
