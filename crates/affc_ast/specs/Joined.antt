-- Conditions that are comparisons joined by `&&`, without `!=`; and programs whose `if`s have such conditions and no `else`.
use Rattle.std.specs.Prelude.{Bool, true, false, ◌&&◌, List, [], ◌∷◌, map}
use Rattle.affc_ast.specs.declared.tree.Compare.{Compare}
use Rattle.affc_ast.specs.declared.tree.Cond.{Cond}
use Rattle.affc_ast.specs.declared.tree.Cond.TheOpen as cond
use Rattle.affc_ast.specs.declared.tree.Cond.TheOpen.{Cond-F}
use Rattle.affc_ast.specs.declared.tree.Program.{Program}
use Rattle.affc_ast.specs.declared.tree.Rel.{Rel}
use Rattle.affc_ast.specs.declared.tree.Rel.TheVariants.{NotEqual}
use Rattle.affc_ast.specs.declared.tree.Stmt.TheOpen.{Stmt-F, For, If, Assign, Block}
use Rattle.affc_ast.specs.Fits.{all_true}
use Rattle.affc_ast.specs.Recursion.{by_cond, by_stmt}
use Rattle.affc_ast.specs.Trace.{joined}

-- any relation but "!="
abbrev pub is_ordered : Rel → Bool
is_ordered NotEqual = false
is_ordered _ = true

abbrev pub joined_step : Cond-F Bool → Bool
joined_step (cond.Compare rel left right) = is_ordered rel
joined_step (cond.All bs) = all_true bs
joined_step (cond.Any bs) = false
joined_step (cond.Divides value by so) = false

abbrev pub is_joined : Cond → Bool
is_joined = by_cond joined_step

abbrev pub tests_step : Cond-F (List Compare) → List Compare
tests_step (cond.Compare rel left right) = record { rel = rel; left = left; right = right } ∷ []
tests_step (cond.All css) = joined css
tests_step (cond.Any css) = []
tests_step (cond.Divides value by so) = []

-- the comparisons that are joined, in the order of the text
abbrev pub tests_of : Cond → List Compare
tests_of = by_cond tests_step

abbrev pub joined_tests_step : Stmt-F Bool → Bool
joined_tests_step (For iter low rel high body) = all_true body
joined_tests_step (If cond body []) = is_joined cond && all_true body
joined_tests_step (If cond body (b ∷ bs)) = false
joined_tests_step (Assign op array subs value) = true
joined_tests_step (Block locals body) = all_true body

abbrev pub has_joined_tests : Program → Bool
has_joined_tests program = all_true (map (by_stmt joined_tests_step) program.body)
