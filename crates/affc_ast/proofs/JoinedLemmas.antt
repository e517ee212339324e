-- A condition of joined comparisons is true exactly where they all hold.
use Rattle.std.proofs.Common.{◌≡◌, ℤ, Bool, true, false, true≢false, IsTrue, List, [], ◌∷◌, ◌++◌, refl, sym, ap, ◌∙◌}
use Rattle.std.specs.Prelude.{◌&&◌}
use Rattle.std.proofs.lemmas.Bool.{and_parts}
use Rattle.affc_ast.specs.declared.tree.Compare.{Compare}
use Rattle.affc_ast.specs.declared.tree.Cond.{Cond}
use Rattle.affc_ast.specs.declared.tree.Cond.TheVariants as c
use Rattle.affc_ast.specs.declared.tree.Cond.TheBlock.{Row_of-Cond, more_of-Cond, end_of-Cond}
use Rattle.affc_ast.specs.Fits.{all_true, holds, all_hold, truth_step, is_true_at}
use Rattle.affc_ast.specs.Joined.{joined_step, is_joined, tests_step, tests_of}
use Rattle.affc_ast.specs.Recursion.{by_entries}
use Rattle.affc_ast.specs.Trace.{joined}
use Rattle.affc_ast.proofs.PieceLemmas.{and_true}

and_assoc : (a b c : Bool) → a && (b && c) ≡ (a && b) && c
and_assoc true b c = refl
and_assoc false b c = refl

hold_append : (names : List ℤ) (cs ds : List Compare) → all_hold (cs ++ ds) names ≡ all_hold cs names && all_hold ds names
hold_append names [] ds = refl
hold_append names (c ∷ cs) ds = ap (λ b. holds c names && b) (hold_append names cs ds) ∙ and_assoc (holds c names) (all_hold cs names) (all_hold ds names)

module _ (names : List ℤ) where
  mutual
    tests' : (x : Cond) → IsTrue (is_joined x) → all_hold (tests_of x) names ≡ is_true_at x names
    tests' (c.Compare rel left right) h = and_true (holds (record { rel = rel; left = left; right = right }) names)
    tests' (c.All' shape entries) h = tests_of_all entries h
    tests' (c.Any' shape entries) h = absurd (true≢false (sym h))
    tests' (c.Divides value by so) h = absurd (true≢false (sym h))

    tests_of_all : {n : _} (entries : Row_of-Cond n) → IsTrue (all_true (by_entries joined_step entries)) → all_hold (joined (by_entries tests_step entries)) names ≡ all_true (by_entries (truth_step names) entries)
    tests_of_all end_of-Cond h = refl
    tests_of_all (more_of-Cond x rest) h =
        let p = and_parts (is_joined x) (all_true (by_entries joined_step rest)) h in
        hold_append names (tests_of x) (joined (by_entries tests_step rest))
        ∙ ap (λ b. b && all_hold (joined (by_entries tests_step rest)) names) (tests' x p.0)
        ∙ ap (λ b. is_true_at x names && b) (tests_of_all rest p.1)

pub tests : (cond : Cond) (names : List ℤ) → IsTrue (is_joined cond) → all_hold (tests_of cond) names ≡ is_true_at cond names
tests cond names h = tests' names cond h
