-- Conditions as they stand in a block: the tests of the target, and those of the source or their denials where more names stand in sight.
use Rattle.std.specs.Prelude.{ℕ, Bool, true, false, List, [], ◌∷◌, map}
use Rattle.affc_ast.specs.declared.tree.Compare.{Compare}
use Rattle.affc_ast.specs.declared.tree.Cond.{Cond}
use Rattle.affc_ast.specs.declared.tree.Cond.TheVariants.{All, Any}
use Rattle.affc_ast.specs.declared.tree.Stmt.{Stmt}
use Rattle.affc_ast.specs.declared.tree.Stmt.TheVariants.{If}
use Rattle.affc_domain.specs.Rounds.{Round, Loop, Test}
use Rattle.affc_loops.specs.Loops.{as_condition, if_any, loop_tests}
use Rattle.affc_loops.specs.Trees.{moved_cond}
use Rattle.affc_nest.specs.Frames.{denied_if}

-- comparisons as conditions
abbrev pub conditions : List Compare → List Cond
conditions = map as_condition

-- the body under these, if there are any; one alone is the condition itself
abbrev pub under_all : List Cond → List Stmt → List Stmt
under_all [] body = body
under_all (c ∷ []) body = If c body [] ∷ []
under_all (c ∷ d ∷ cs) body = If (All (c ∷ d ∷ cs)) body [] ∷ []

-- the body under a loop or a condition of the source, where the iterator has this name
abbrev pub under_round : (first more from : ℕ) → Round → List Stmt → List Stmt
under_round first more from (Loop iter low rel high) body = if_any (loop_tests first more from low rel high) body
under_round first more from (Test cond) body = If (moved_cond first more cond) body [] ∷ []

-- joined by "||", or else by "&&"
abbrev pub joined_as : (is_any : Bool) → List Cond → Cond
joined_as true cs = Any cs
joined_as false cs = All cs

-- each of these, or of their denials
abbrev pub moved_each : (first more : ℕ) → (is_denied : Bool) → List Cond → List Cond
moved_each first more is_denied cs = map (λ x. moved_cond first more (denied_if is_denied x)) cs
