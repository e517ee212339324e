-- A denied condition is read where the condition is.
use Rattle.std.proofs.Common.{◌≡◌, ℕ, ◌+◌, ℤ, Bool, true, false, if◌then◌else◌, List, map, Result, Ok, refl, sym, ap, ◌∙◌}
use Rattle.std.specs.Prelude.{not}
use Rattle.std.proofs.lemmas.List.Sums.{sum_by-cons}
use Rattle.affc_ast.specs.declared.tree.Cond.{Cond}
use Rattle.affc_ast.specs.declared.tree.Cond.TheVariants as c
use Rattle.affc_ast.specs.declared.tree.Cond.TheBlock.{Row_of-Cond, more_of-Cond, end_of-Cond}
use Rattle.affc_ast.specs.Cause.{Cause}
use Rattle.affc_ast.specs.Conditions.{Reading, nodes_of_entries, all_read, some_read, reading_step, reading_of, nodes_of_cond, condition}
use Rattle.affc_ast.specs.Denials.{denied_step, denied}
use Rattle.affc_ast.specs.Fits.{is_true_at}
use Rattle.affc_ast.specs.Index.{nodes_of_ix, index_value}
use Rattle.affc_ast.specs.Recursion.{by_entries}
use Rattle.affc_ast.proofs.ConditionReadings.{condition_is_true}
use Rattle.affc_ast.proofs.DenialLemmas.{denial}
use Rattle.affc_ast.proofs.Readings.{same_ok, bind_ok}
use Rattle.affc_ast.proofs.Steps.{all_here, any_here}
use Rattle.affc_safe.proofs.Along.{IsReadCond}
use Rattle.affc_safe.proofs.Wants.{bind_to}

mutual
  denied_nodes : (x : Cond) → nodes_of_cond (denied x) ≡ nodes_of_cond x
  denied_nodes (c.Compare rel left right) = refl
  denied_nodes (c.All' shape entries) = ap (λ (r : Reading). r.nodes) (any_here reading_step (by_entries denied_step entries)) ∙ ap (λ n. 1 + n) (entries_nodes entries)
  denied_nodes (c.Any' shape entries) = ap (λ (r : Reading). r.nodes) (all_here reading_step (by_entries denied_step entries)) ∙ ap (λ n. 1 + n) (entries_nodes entries)
  denied_nodes (c.Divides value by so) = refl

  entries_nodes : {n : _} (entries : Row_of-Cond n) → nodes_of_entries (map reading_of (by_entries denied_step entries)) ≡ nodes_of_entries (by_entries reading_step entries)
  entries_nodes end_of-Cond = refl
  entries_nodes (more_of-Cond x rest) =
      sum_by-cons (λ (r : Reading). r.nodes) (reading_of (denied x)) (map reading_of (by_entries denied_step rest))
      ∙ ap (λ n. n + nodes_of_entries (map reading_of (by_entries denied_step rest))) (denied_nodes x)
      ∙ ap (λ n. nodes_of_cond x + n) (entries_nodes rest)
      ∙ sym (sum_by-cons (λ (r : Reading). r.nodes) (reading_of x) (by_entries reading_step rest))

all_then_some : (p : Bool) (q s : Result Bool Cause) (b : Bool) → (if p then q else Ok false) ≡ Ok b → ((d : Bool) → q ≡ Ok d → s ≡ Ok (not d)) → (if not p then Ok true else s) ≡ Ok (not b)
all_then_some true q s b e h = h b e
all_then_some false q s b e h = ap (λ d. Ok (not d)) (same_ok false b e)

some_then_all : (p : Bool) (q s : Result Bool Cause) (b : Bool) → (if p then Ok true else q) ≡ Ok b → ((d : Bool) → q ≡ Ok d → s ≡ Ok (not d)) → (if not p then s else Ok false) ≡ Ok (not b)
some_then_all true q s b e h = ap (λ d. Ok (not d)) (same_ok true b e)
some_then_all false q s b e h = h b e

module _ (names : List ℤ) where
  -- what is read of a denied condition is the denial of what is read of the condition
  value_is : (x : Cond) (node : ℕ) (b d : Bool) → condition x node names ≡ Ok b → condition (denied x) node names ≡ Ok d → condition (denied x) node names ≡ Ok (not b)
  value_is x node b d e g = g ∙ ap (λ u. Ok u) (sym (condition_is_true (denied x) names node d g) ∙ denial x names ∙ ap not (condition_is_true x names node b e))

  mutual
    denied_read : (x : Cond) (node : ℕ) (b : Bool) → condition x node names ≡ Ok b → condition (denied x) node names ≡ Ok (not b)
    denied_read (c.Compare rel left right) node b e =
        let l = bind_ok (index_value left (node + 1) names) _ _ e in
        let r = bind_ok (index_value right (node + 1 + nodes_of_ix left) names) _ _ l.2 in
        value_is (c.Compare rel left right) node b _ e
        (bind_to (index_value left (node + 1) names) l.0 _ _ l.1 (bind_to (index_value right (node + 1 + nodes_of_ix left) names) r.0 _ _ r.1 refl))
    denied_read (c.All' shape entries) node b e = ap (λ (r : Reading). r.value node names) (any_here reading_step (by_entries denied_step entries)) ∙ some_denied entries (node + 1) b e
    denied_read (c.Any' shape entries) node b e = ap (λ (r : Reading). r.value node names) (all_here reading_step (by_entries denied_step entries)) ∙ all_denied entries (node + 1) b e
    denied_read (c.Divides value by so) node b e =
        let v = bind_ok (index_value value (node + 1) names) _ _ e in
        value_is (c.Divides value by so) node b _ e (bind_to (index_value value (node + 1) names) v.0 _ _ v.1 refl)

    some_denied : {n : _} (entries : Row_of-Cond n) (node : ℕ) (b : Bool) → all_read (by_entries reading_step entries) node names ≡ Ok b → some_read (map reading_of (by_entries denied_step entries)) node names ≡ Ok (not b)
    some_denied end_of-Cond node b e = ap (λ d. Ok (not d)) (same_ok true b e)
    some_denied (more_of-Cond x rest) node b e =
        let p = bind_ok (condition x node names) _ _ e in
        let others = λ (m : ℕ). some_read (map reading_of (by_entries denied_step rest)) m names in
        bind_to (condition (denied x) node names) (not p.0) _ _ (denied_read x node p.0 p.1)
        (all_then_some p.0 (all_read (by_entries reading_step rest) (node + nodes_of_cond x) names) (others (node + nodes_of_cond (denied x))) b p.2
        (λ d h. ap (λ m. others (node + m)) (denied_nodes x) ∙ some_denied rest (node + nodes_of_cond x) d h))

    all_denied : {n : _} (entries : Row_of-Cond n) (node : ℕ) (b : Bool) → some_read (by_entries reading_step entries) node names ≡ Ok b → all_read (map reading_of (by_entries denied_step entries)) node names ≡ Ok (not b)
    all_denied end_of-Cond node b e = ap (λ d. Ok (not d)) (same_ok false b e)
    all_denied (more_of-Cond x rest) node b e =
        let p = bind_ok (condition x node names) _ _ e in
        let others = λ (m : ℕ). all_read (map reading_of (by_entries denied_step rest)) m names in
        bind_to (condition (denied x) node names) (not p.0) _ _ (denied_read x node p.0 p.1)
        (some_then_all p.0 (some_read (by_entries reading_step rest) (node + nodes_of_cond x) names) (others (node + nodes_of_cond (denied x))) b p.2
        (λ d h. ap (λ m. others (node + m)) (denied_nodes x) ∙ all_denied rest (node + nodes_of_cond x) d h))

pub denied_is_read : (cond : Cond) (names : List ℤ) → IsReadCond cond names → IsReadCond (denied cond) names
denied_is_read cond names r = (r.0, denied_read names cond r.0 (is_true_at cond names) r.1 ∙ ap (λ b. Ok b) (sym (denial cond names)))
