-- Each assignment is to an array, among the statements and among the assignments of a program.
use Rattle.std.proofs.Common.{◌≡◌, ℕ, Bool, ◌&&◌, nat_lt, List, [], ◌∷◌, map, refl, sym, ap, ◌∙◌}
use Rattle.std.specs.Prelude.{flat_map}
use Rattle.std.specs.List.{list_all}
use Rattle.std.proofs.Math.Bool.{and-true}
use Rattle.std.proofs.lemmas.List.Concat.{flat_map-cons}
use Rattle.std.proofs.lemmas.List.Folds.{list_all-append}
use Rattle.affc_ast.specs.declared.tree.Stmt.{Stmt}
use Rattle.affc_ast.specs.declared.tree.Stmt.TheVariants as s
use Rattle.affc_ast.specs.declared.tree.Stmt.TheBlock.{Row_of-Stmt, more_of-Stmt, end_of-Stmt}
use Rattle.affc_ast.specs.Recursion.{by_stmt, by_each}
use Rattle.affc_ast.specs.Trace.{Assignment, assignments_step, joined}
use Rattle.affc_interp.specs.Budget.{exec_step, exec_of, all_within}

abbrev to_array : (arrays : ℕ) → Assignment → Bool
to_array n a = nat_lt a.array.0 n

-- those of a statement, and those of the statements behind it
one_more : (n : ℕ) (x : List Assignment) (xs : List (List Assignment)) (a b : Bool) → a ≡ list_all (to_array n) x → b ≡ list_all (to_array n) (joined xs) → (a && b) ≡ list_all (to_array n) (joined (x ∷ xs))
one_more n x xs a b e f = (λ i. e i && f i) ∙ sym (list_all-append (to_array n) x (joined xs)) ∙ sym (ap (list_all (to_array n)) (flat_map-cons (λ (l : List Assignment). l) x xs))

mutual
  stmt_within_is : (n : ℕ) (x : Stmt) → (exec_of x).within n ≡ list_all (to_array n) (by_stmt assignments_step x)
  stmt_within_is n (s.For' iter low rel high shape body) = row_within_is n body
  stmt_within_is n (s.If' cond shape body shape' other) =
      (λ i. row_within_is n body i && row_within_is n other i) ∙ sym (list_all-append (to_array n) (joined (by_each assignments_step body)) (joined (by_each assignments_step other)))
  stmt_within_is n (s.Assign op array subs value) = sym (and-true (nat_lt array.0 n))
  stmt_within_is n (s.Block' locals shape body) = row_within_is n body

  row_within_is : (n : ℕ) {m : _} (row : Row_of-Stmt m) → all_within (by_each exec_step row) n ≡ list_all (to_array n) (joined (by_each assignments_step row))
  row_within_is n end_of-Stmt = refl
  row_within_is n (more_of-Stmt x rest) = one_more n (by_stmt assignments_step x) (by_each assignments_step rest) ((exec_of x).within n) (all_within (by_each exec_step rest) n) (stmt_within_is n x) (row_within_is n rest)

pub body_within_is : (n : ℕ) (body : List Stmt) → all_within (map exec_of body) n ≡ list_all (λ (a : Assignment). nat_lt a.array.0 n) (flat_map (by_stmt assignments_step) body)
body_within_is n [] = refl
body_within_is n (x ∷ xs) =
    (λ i. stmt_within_is n x i && body_within_is n xs i) ∙ sym (list_all-append (to_array n) (by_stmt assignments_step x) (flat_map (by_stmt assignments_step) xs))
    ∙ sym (ap (list_all (to_array n)) (flat_map-cons (by_stmt assignments_step) x xs))
