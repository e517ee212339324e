-- The examples compute.
use Rattle.std.proofs.Common.{◌≡◌, ℕ, ◌^◌, ◌≤◌, ◌<◌, pos, true, [], length, refl, sym, lit≤, arith}
use Rattle.std.specs.Prelude.{unsigned_abs, nat_lt}
use Rattle.std.proofs.lemmas.Bool.{ltb-true}
use Rattle.std.proofs.lemmas.List.Elements.{All-nil, All-cons}
use denote.Hole.Carrier.{hidden}
use Rattle.affc_ast.specs.declared.tree.Ix.TheBlock.{shape-the_row-Ix-0, hidden-the_row-Ix-0}
use Rattle.affc_ast.specs.declared.tree.Val.TheBlock.{shape-the_row-Val-0, hidden-the_row-Val-0}
use Rattle.affc_ast.specs.declared.tree.Cond.TheBlock.{shape-the_row-Cond-0, hidden-the_row-Cond-0}
use Rattle.affc_ast.specs.declared.tree.Stmt.TheBlock.{shape-the_row-Stmt-0, hidden-the_row-Stmt-0}
use Rattle.affc_ast.specs.declared.tree.ArrayId.{ArrayId}
use Rattle.affc_domain.proofs.Lists.{both_true}
use Rattle.affc_basis.specs.declared.fold.Fold.{Fold}
use Rattle.affc_basis.specs.Examples.{number, with_iterator, onto, fold_at}
use Rattle.affc_basis.specs.Folds.{KeepsLimits}
use Rattle.affc_basis.specs.Moduli.{IsModulus}
use Rattle.affc_rewrite.specs.Examples.{OnesAndUnits, BlurIsFolded, NothingIsFolded, BlurByParameters, BlurByExtents, UnitRows, OneElementWhole, TemporariesByTheirFolds, OthersKeepSubscripts, TwoDimensions, OneElement, CallsInExpressions, CallsInValues, CallsInStatements, FoldsWithinLimits, SixteenNames, NamesOutOfSight}
use Rattle.affc_rewrite.proofs.Choices.{own_kept}

pub ones_and_units : OnesAndUnits
ones_and_units = (refl, refl, refl, refl, refl, refl, refl, refl, refl, refl)

pub blur_is_folded : BlurIsFolded
unfolding shape-the_row-Ix-0 hidden-the_row-Ix-0 shape-the_row-Val-0 hidden-the_row-Val-0 shape-the_row-Stmt-0 hidden-the_row-Stmt-0 shape-the_row-Cond-0 hidden-the_row-Cond-0 hidden
blur_is_folded = refl

pub nothing_is_folded : NothingIsFolded
unfolding shape-the_row-Ix-0 hidden-the_row-Ix-0 shape-the_row-Val-0 hidden-the_row-Val-0 shape-the_row-Stmt-0 hidden-the_row-Stmt-0 shape-the_row-Cond-0 hidden-the_row-Cond-0 hidden
nothing_is_folded = (refl, refl)

pub blur_by_parameters : BlurByParameters
unfolding shape-the_row-Ix-0 hidden-the_row-Ix-0 shape-the_row-Val-0 hidden-the_row-Val-0 shape-the_row-Stmt-0 hidden-the_row-Stmt-0 shape-the_row-Cond-0 hidden-the_row-Cond-0 hidden
blur_by_parameters = (refl, refl, refl, refl, refl)

pub two_dimensions : TwoDimensions
unfolding shape-the_row-Ix-0 hidden-the_row-Ix-0 shape-the_row-Val-0 hidden-the_row-Val-0 shape-the_row-Stmt-0 hidden-the_row-Stmt-0 shape-the_row-Cond-0 hidden-the_row-Cond-0 hidden
two_dimensions = (refl, refl, refl, refl)

pub blur_by_extents : BlurByExtents
unfolding shape-the_row-Ix-0 hidden-the_row-Ix-0 shape-the_row-Val-0 hidden-the_row-Val-0 shape-the_row-Stmt-0 hidden-the_row-Stmt-0 shape-the_row-Cond-0 hidden-the_row-Cond-0 hidden
blur_by_extents = (refl, refl, refl)

pub unit_rows : UnitRows
unit_rows = (refl, refl, refl, refl, refl, refl, refl, refl)

pub one_element_whole : OneElementWhole
unfolding shape-the_row-Ix-0 hidden-the_row-Ix-0 shape-the_row-Val-0 hidden-the_row-Val-0 shape-the_row-Stmt-0 hidden-the_row-Stmt-0 shape-the_row-Cond-0 hidden-the_row-Cond-0 hidden
one_element_whole = (refl, refl, refl, refl, refl, refl)

pub temporaries_by_their_folds : TemporariesByTheirFolds
unfolding shape-the_row-Ix-0 hidden-the_row-Ix-0 shape-the_row-Val-0 hidden-the_row-Val-0 shape-the_row-Stmt-0 hidden-the_row-Stmt-0 shape-the_row-Cond-0 hidden-the_row-Cond-0 hidden
temporaries_by_their_folds = (refl, refl, refl)

pub one_element : OneElement
unfolding shape-the_row-Ix-0 hidden-the_row-Ix-0 shape-the_row-Val-0 hidden-the_row-Val-0 shape-the_row-Stmt-0 hidden-the_row-Stmt-0 shape-the_row-Cond-0 hidden-the_row-Cond-0 hidden
one_element = refl

pub others_keep_subscripts : OthersKeepSubscripts
others_keep_subscripts fold parameters names extents subs h = sym (own_kept fold parameters names extents subs h)

pub calls_in_expressions : CallsInExpressions
unfolding shape-the_row-Ix-0 hidden-the_row-Ix-0 shape-the_row-Val-0 hidden-the_row-Val-0 shape-the_row-Stmt-0 hidden-the_row-Stmt-0 shape-the_row-Cond-0 hidden-the_row-Cond-0 hidden
calls_in_expressions = (refl, refl, refl, refl)

pub calls_in_values : CallsInValues
unfolding shape-the_row-Ix-0 hidden-the_row-Ix-0 shape-the_row-Val-0 hidden-the_row-Val-0 shape-the_row-Stmt-0 hidden-the_row-Stmt-0 shape-the_row-Cond-0 hidden-the_row-Cond-0 hidden
calls_in_values = (refl, refl)

pub calls_in_statements : CallsInStatements
unfolding shape-the_row-Ix-0 hidden-the_row-Ix-0 shape-the_row-Val-0 hidden-the_row-Val-0 shape-the_row-Stmt-0 hidden-the_row-Stmt-0 shape-the_row-Cond-0 hidden-the_row-Cond-0 hidden
calls_in_statements = (refl, refl, refl)

-- ---- Limits

three_is_modulus : IsModulus 1 (number 3)
three_is_modulus = record { width = refl; coefs_fit = All-cons (λ c. unsigned_abs c ≤ 2 ^ 30) (pos 0) [] (lit≤ tt) (All-nil (λ c. unsigned_abs c ≤ 2 ^ 30)); constant_fits = lit≤ tt }

-- two columns are too many
too_wide : IsModulus 1 with_iterator → ⊥
too_wide is = let l : length with_iterator.coefs ≡ 1 = is.width in omega (arith, l)

abbrev Limited : ArrayId × Fold → Type 0
Limited f = KeepsLimits 1 f.1

pub folds_within_limits : FoldsWithinLimits
folds_within_limits = (
  All-cons Limited (fold_at 2 (onto 3)) [] (All-cons (IsModulus 1) (number 3) [] three_is_modulus (All-nil (IsModulus 1))) (All-nil Limited),
  λ h. too_wide (h 0 (fold_at 2 (onto 3)) (omega arith) 0 (number 3) (omega arith)),
  λ h. too_wide (h 1 (fold_at 2 (onto 3)) (omega arith) 0 (number 3) (omega arith)),
)

-- ---- Names in sight

-- the name 16 isn't one of 16
past_sixteen : (n : ℕ) → n ≤ 16 → nat_lt 16 n ≡ true → ⊥
past_sixteen n few h = let l : 16 < n = ltb-true 16 n h in omega arith

pub sixteen_names : SixteenNames
unfolding shape-the_row-Ix-0 hidden-the_row-Ix-0 shape-the_row-Val-0 hidden-the_row-Val-0 shape-the_row-Stmt-0 hidden-the_row-Stmt-0 shape-the_row-Cond-0 hidden-the_row-Cond-0 hidden
sixteen_names = (
  record { names = 16; few = lit≤ tt; subs = refl; value = refl },
  λ is. past_sixteen is.names is.few (both_true (nat_lt 16 is.names) true is.subs).0,
  λ is. past_sixteen is.names is.few is.value,
)

pub names_out_of_sight : NamesOutOfSight
unfolding shape-the_row-Ix-0 hidden-the_row-Ix-0 shape-the_row-Val-0 hidden-the_row-Val-0 shape-the_row-Stmt-0 hidden-the_row-Stmt-0 shape-the_row-Cond-0 hidden-the_row-Cond-0 hidden
names_out_of_sight = (refl, refl)
