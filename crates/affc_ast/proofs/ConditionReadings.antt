-- What is read of a condition is its truth.
use Rattle.std.proofs.Common.{◌≡◌, ℕ, ◌+◌, ℤ, Bool, true, false, if◌then◌else◌, Result, Ok, List, ap, ◌∙◌}
use Rattle.std.specs.Prelude.{◌&&◌, ◌||◌}
use Rattle.affc_ast.specs.declared.tree.Cond.{Cond}
use Rattle.affc_ast.specs.declared.tree.Cond.TheVariants as d
use Rattle.affc_ast.specs.declared.tree.Cond.TheBlock.{Row_of-Cond, more_of-Cond, end_of-Cond}
use Rattle.affc_ast.specs.declared.tree.Ix.{Ix}
use Rattle.affc_ast.specs.Cause.{Cause}
use Rattle.affc_ast.specs.Conditions.{divides, is_so, all_read, some_read, reading_step, condition}
use Rattle.affc_ast.specs.Fits.{Whole, whole, all_true, some_true, truth_step, is_true_at}
use Rattle.affc_ast.specs.Index.{nodes_of_ix, index_value, compares}
use Rattle.affc_ast.specs.Recursion.{by_entries}
use Rattle.affc_ast.proofs.Readings.{same_ok, bind_ok, is_whole}

value_is : (e : Ix) (names : List ℤ) (node : ℕ) (x : ℤ) → index_value e node names ≡ Ok x → whole e names ≡ x
value_is e names node x r = ap (λ (w : Whole). w.value) (is_whole e names node x r)

hold_if : (t u : Bool) (r : Result Bool Cause) (b : Bool) → ((d : Bool) → r ≡ Ok d → u ≡ d) → (if t then r else Ok false) ≡ Ok b → t && u ≡ b
hold_if true u r b h e = h b e
hold_if false u r b h e = same_ok _ _ e

or_if : (t u : Bool) (r : Result Bool Cause) (b : Bool) → ((d : Bool) → r ≡ Ok d → u ≡ d) → (if t then Ok true else r) ≡ Ok b → t || u ≡ b
or_if true u r b h e = same_ok _ _ e
or_if false u r b h e = h b e

module _ (names : List ℤ) where
  mutual
    read_true : (x : Cond) (node : ℕ) (b : Bool) → condition x node names ≡ Ok b → is_true_at x names ≡ b
    read_true (d.Compare rel left right) node b e =
        let p = bind_ok (index_value left (node + 1) names) _ _ e in
        let q = bind_ok (index_value right (node + 1 + nodes_of_ix left) names) _ _ p.2 in
        ap (λ u. compares rel u (whole right names)) (value_is left names _ p.0 p.1) ∙ ap (λ u. compares rel p.0 u) (value_is right names _ q.0 q.1) ∙ same_ok _ _ q.2
    read_true (d.All' shape entries) node b e = all_read_true entries (node + 1) b e
    read_true (d.Any' shape entries) node b e = some_read_true entries (node + 1) b e
    read_true (d.Divides value by so) node b e =
        let p = bind_ok (index_value value (node + 1) names) _ _ e in
        ap (λ u. is_so so (divides by u)) (value_is value names _ p.0 p.1) ∙ same_ok _ _ p.2

    all_read_true : {n : _} (entries : Row_of-Cond n) (node : ℕ) (b : Bool) → all_read (by_entries reading_step entries) node names ≡ Ok b → all_true (by_entries (truth_step names) entries) ≡ b
    all_read_true end_of-Cond node b e = same_ok _ _ e
    all_read_true (more_of-Cond x rest) node b e =
        let p = bind_ok (condition x node names) _ _ e in
        ap (λ u. u && all_true (by_entries (truth_step names) rest)) (read_true x node p.0 p.1)
        ∙ hold_if p.0 (all_true (by_entries (truth_step names) rest)) _ b (λ d. all_read_true rest _ d) p.2

    some_read_true : {n : _} (entries : Row_of-Cond n) (node : ℕ) (b : Bool) → some_read (by_entries reading_step entries) node names ≡ Ok b → some_true (by_entries (truth_step names) entries) ≡ b
    some_read_true end_of-Cond node b e = same_ok _ _ e
    some_read_true (more_of-Cond x rest) node b e =
        let p = bind_ok (condition x node names) _ _ e in
        ap (λ u. u || some_true (by_entries (truth_step names) rest)) (read_true x node p.0 p.1)
        ∙ or_if p.0 (some_true (by_entries (truth_step names) rest)) _ b (λ d. some_read_true rest _ d) p.2

pub condition_is_true : (cond : Cond) (names : List ℤ) (node : ℕ) (b : Bool) → condition cond node names ≡ Ok b → is_true_at cond names ≡ b
condition_is_true cond names node b e = read_true names cond node b e
