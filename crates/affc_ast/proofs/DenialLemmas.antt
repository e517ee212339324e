-- A denied condition is true exactly where the condition is false, and has as many comparisons.
use Rattle.std.proofs.Common.{◌≡◌, ℤ, Bool, true, false, int_le, int_lt, List, ◌∷◌, map, refl, sym, ap, ◌∙◌, arith}
use Rattle.std.specs.Prelude.{not, ◌&&◌, ◌||◌}
use Rattle.std.proofs.lemmas.Int.{ints}
use Rattle.affc_ast.specs.declared.tree.Cond.{Cond}
use Rattle.affc_ast.specs.declared.tree.Cond.TheVariants as c
use Rattle.affc_ast.specs.declared.tree.Cond.TheBlock.{Row_of-Cond, more_of-Cond, end_of-Cond}
use Rattle.affc_ast.specs.declared.tree.Rel.{Rel}
use Rattle.affc_ast.specs.declared.tree.Rel.TheVariants.{Less, LessEqual, Greater, GreaterEqual, Equal, NotEqual}
use Rattle.affc_ast.specs.Conditions.{divides, is_so}
use Rattle.affc_ast.specs.Denials.{opposite, denied_step, denied}
use Rattle.affc_ast.specs.Fits.{whole, all_true, some_true, truth_step, is_true_at}
use Rattle.affc_ast.specs.Index.{compares}
use Rattle.affc_ast.specs.Pieces.{added, comparisons_step, comparisons_of}
use Rattle.affc_ast.specs.Recursion.{by_cond, by_entries}
use Rattle.affc_ast.proofs.Steps.{all_here, any_here}

not_not : (b : Bool) → b ≡ not (not b)
not_not true = refl
not_not false = refl

not_lt : (x y : ℤ) → int_le y x ≡ not (int_lt x y)
not_lt x y = grind (arith, ints)

opposite_compares : (rel : Rel) (x y : ℤ) → compares (opposite rel) x y ≡ not (compares rel x y)
opposite_compares Less x y = not_lt x y
opposite_compares LessEqual x y = not_not (int_lt y x) ∙ ap not (sym (not_lt y x))
opposite_compares Greater x y = not_lt y x
opposite_compares GreaterEqual x y = not_not (int_lt x y) ∙ ap not (sym (not_lt x y))
opposite_compares Equal x y = refl
opposite_compares NotEqual x y = not_not (int_le x y && int_le y x)

not_so : (so b : Bool) → is_so (not so) b ≡ not (is_so so b)
not_so true b = refl
not_so false b = not_not b

not_and : (a b : Bool) → (not a || not b) ≡ not (a && b)
not_and true b = refl
not_and false b = refl

not_or : (a b : Bool) → (not a && not b) ≡ not (a || b)
not_or true b = refl
not_or false b = refl

module _ (names : List ℤ) where
  mutual
    denial' : (x : Cond) → is_true_at (denied x) names ≡ not (is_true_at x names)
    denial' (c.Compare rel left right) = opposite_compares rel (whole left names) (whole right names)
    denial' (c.All' shape entries) = any_here (truth_step names) (by_entries denied_step entries) ∙ some_denied entries
    denial' (c.Any' shape entries) = all_here (truth_step names) (by_entries denied_step entries) ∙ all_denied entries
    denial' (c.Divides value by so) = not_so so (divides by (whole value names))

    some_denied : {n : _} (entries : Row_of-Cond n) → some_true (map (by_cond (truth_step names)) (by_entries denied_step entries)) ≡ not (all_true (by_entries (truth_step names) entries))
    some_denied end_of-Cond = refl
    some_denied (more_of-Cond x rest) =
        ap (λ b. b || some_true (map (by_cond (truth_step names)) (by_entries denied_step rest))) (denial' x)
        ∙ ap (λ b. not (is_true_at x names) || b) (some_denied rest) ∙ not_and (is_true_at x names) (all_true (by_entries (truth_step names) rest))

    all_denied : {n : _} (entries : Row_of-Cond n) → all_true (map (by_cond (truth_step names)) (by_entries denied_step entries)) ≡ not (some_true (by_entries (truth_step names) entries))
    all_denied end_of-Cond = refl
    all_denied (more_of-Cond x rest) =
        ap (λ b. b && all_true (map (by_cond (truth_step names)) (by_entries denied_step rest))) (denial' x)
        ∙ ap (λ b. not (is_true_at x names) && b) (all_denied rest) ∙ not_or (is_true_at x names) (some_true (by_entries (truth_step names) rest))

pub denial : (cond : Cond) (names : List ℤ) → is_true_at (denied cond) names ≡ not (is_true_at cond names)
denial cond names = denial' names cond

mutual
  pub denied_comparisons : (x : Cond) → comparisons_of (denied x) ≡ comparisons_of x
  denied_comparisons (c.Compare rel left right) = refl
  denied_comparisons (c.All' shape entries) = any_here comparisons_step (by_entries denied_step entries) ∙ ap added (all_comparisons entries)
  denied_comparisons (c.Any' shape entries) = all_here comparisons_step (by_entries denied_step entries) ∙ ap added (all_comparisons entries)
  denied_comparisons (c.Divides value by so) = refl

  all_comparisons : {n : _} (entries : Row_of-Cond n) → map (by_cond comparisons_step) (by_entries denied_step entries) ≡ by_entries comparisons_step entries
  all_comparisons end_of-Cond = refl
  all_comparisons (more_of-Cond x rest) = λ i. denied_comparisons x i ∷ all_comparisons rest i
