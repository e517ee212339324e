-- Comparisons that are joined: when they are true together, and where they are read.
use Rattle.std.proofs.Common.{◌≡◌, ℕ, ◌+◌, ℤ, true, ◌&&◌, Ok, List, [], ◌∷◌, map, refl, sym, ap, ◌∙◌}
use Rattle.affc_ast.specs.declared.tree.Compare.{Compare}
use Rattle.affc_ast.specs.declared.tree.Cond.{Cond}
use Rattle.affc_ast.specs.declared.tree.Cond.TheVariants as d
use Rattle.affc_ast.specs.declared.tree.Ix.{Ix}
use Rattle.affc_ast.specs.declared.tree.Rel.{Rel}
use Rattle.affc_ast.specs.Conditions.{Reading, all_read, reading_step, reading_of, condition}
use Rattle.affc_ast.specs.Fits.{whole, holds, all_hold, all_true, truth_step, is_true_at}
use Rattle.affc_ast.specs.Index.{index_value, nodes_of_ix}
use Rattle.affc_ast.specs.Recursion.{by_cond}
use Rattle.affc_ast.proofs.PieceLemmas.{and_true}
use Rattle.affc_ast.proofs.Steps.{all_here}
use Rattle.affc_safe.specs.Overflow.{IsReadable}
use Rattle.affc_safe.proofs.Wants.{IsReadableCond, bind_to, chosen}
use Rattle.affc_loops.specs.Loops.{as_condition, all_of}

-- ---- Truth

each_true : (names : List ℤ) (cs : List Compare) → all_true (map (by_cond (truth_step names)) (map as_condition cs)) ≡ all_hold cs names
each_true names [] = refl
each_true names (c ∷ cs) = ap (λ b. holds c names && b) (each_true names cs)

pub all_of_true : (c : Compare) (cs : List Compare) (names : List ℤ) → is_true_at (all_of c cs) names ≡ all_hold (c ∷ cs) names
all_of_true c [] names = sym (and_true (holds c names))
all_of_true c (d ∷ ds) names = all_here (truth_step names) (map as_condition (c ∷ d ∷ ds)) ∙ each_true names (c ∷ d ∷ ds)

-- ---- Reading

pub compare_reads : (rel : Rel) (left right : Ix) (names : List ℤ) → IsReadable left names → IsReadable right names → IsReadableCond (d.Compare rel left right) names
compare_reads rel left right names l r node =
    bind_to (index_value left (node + 1) names) (whole left names) _ _ (l (node + 1))
    (bind_to (index_value right (node + 1 + nodes_of_ix left) names) (whole right names) _ _ (r (node + 1 + nodes_of_ix left)) refl)

-- conditions can be read up to the first that is false
abbrev pub ReadableConds : List Cond → List ℤ → Type 0
ReadableConds [] names = Unit {0}
ReadableConds (c ∷ cs) names = IsReadableCond c names × (is_true_at c names ≡ true → ReadableConds cs names)

each_read : (cs : List Cond) (names : List ℤ) → ReadableConds cs names → (node : ℕ) → all_read (map reading_of cs) node names ≡ Ok (all_true (map (by_cond (truth_step names)) cs))
each_read [] names r node = refl
each_read (c ∷ cs) names r node =
    bind_to (condition c node names) (is_true_at c names) _ _ (r.0 node)
    (chosen (is_true_at c names) (all_read (map reading_of cs) (node + (reading_of c).nodes) names) _ (λ e. each_read cs names (r.1 e) (node + (reading_of c).nodes)))

pub all_of_reads : (c : Compare) (cs : List Compare) (names : List ℤ) → ReadableConds (map as_condition (c ∷ cs)) names → IsReadableCond (all_of c cs) names
all_of_reads c [] names r node = r.0 node
all_of_reads c (d ∷ ds) names r node =
    let cs : List Cond = map as_condition (c ∷ d ∷ ds) in
    ap (λ (q : Reading). q.value node names) (all_here reading_step cs) ∙ each_read cs names r (node + 1) ∙ ap (λ b. Ok b) (sym (all_here (truth_step names) cs))
