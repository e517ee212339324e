-- An `if` has no joined tests where its condition isn't joined or an `else` follows.
use Rattle.std.proofs.Common.{◌≡◌, Bool, false, true≢false, List, [], ◌∷◌, map, refl, sym, ap, ◌∙◌}
use Rattle.std.specs.Prelude.{IsTrue, ◌↔◌, ◌&&◌}
use Rattle.affc_ast.specs.declared.tree.Cond.{Cond}
use Rattle.affc_ast.specs.declared.tree.Stmt.{Stmt}
use Rattle.affc_ast.specs.declared.tree.Stmt.TheVariants.{If}
use Rattle.affc_ast.specs.Fits.{all_true}
use Rattle.affc_ast.specs.Joined.{is_joined, joined_tests_step}
use Rattle.affc_ast.specs.Recursion.{by_stmt}
use Rattle.affc_ast.proofs.Steps.{if_here}

module _ (x : Stmt) (cond : Cond) (body : List Stmt) where
  pub not_joined : (other : List Stmt) (v : Bool) → x ≡ If cond body other → v ≡ false → v ≡ is_joined cond → v ≡ by_stmt joined_tests_step x
  not_joined [] v is e f =
      e ∙ sym (ap (by_stmt joined_tests_step) is ∙ if_here joined_tests_step cond body [] ∙ ap (λ b. b && all_true (map (by_stmt joined_tests_step) body)) (sym f ∙ e))
  not_joined (o ∷ others) v is e f = e ∙ sym (ap (by_stmt joined_tests_step) is ∙ if_here joined_tests_step cond body (o ∷ others))

  pub with_other : (other : List Stmt) (v b : Bool) → x ≡ If cond body other → v ≡ false → (IsTrue b ↔ (other ≡ [])) → b ≡ false → v ≡ by_stmt joined_tests_step x
  with_other [] v b is e h f = absurd (true≢false (sym (h.1 refl) ∙ f))
  with_other (o ∷ others) v b is e h f = e ∙ sym (ap (by_stmt joined_tests_step) is ∙ if_here joined_tests_step cond body (o ∷ others))
