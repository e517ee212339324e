-- Conditions are read one after another, from the left.
use Rattle.std.proofs.Common.{◌≡◌, ℕ, ◌+◌, ◌<◌, ℤ, true, false, List, length, get_or, drop, map, Ok, if◌then◌else◌, ap, ◌∙◌, sym}
use Rattle.std.proofs.lemmas.List.Sums.{sum_by-cons}
use Rattle.affc_ast.specs.declared.tree.Cond.{Cond}
use Rattle.affc_ast.specs.declared.tree.Cond.TheVariants as d
use Rattle.affc_ast.specs.declared.tree.Cond.TheOpen as layer
use Rattle.affc_ast.specs.Cause.{◌>>=◌}
use Rattle.affc_ast.specs.Conditions.{Reading, reading_step, reading_of, nodes_of_cond, nodes_of_entries, condition, all_read, some_read}
use Rattle.affc_ast.proofs.Steps.{all_here, any_here}
use Rattle.affc_interp.proofs.Lists.{drop_next}

-- ---- The entry that a loop has come to

module _ (es : List Cond) (i : ℕ) (x : Cond) (below : i < length es) (at : x ≡ get_or es i x) where
  pub next_nodes : nodes_of_entries (map reading_of (drop i es)) ≡ nodes_of_cond x + nodes_of_entries (map reading_of (drop (i + 1) es))
  next_nodes = ap (λ l. nodes_of_entries (map reading_of l)) (drop_next es i x below at) ∙ sum_by-cons (λ (r : Reading). r.nodes) (reading_of x) (map reading_of (drop (i + 1) es))

  pub next_of_all : (node : ℕ) (names : List ℤ) → all_read (map reading_of (drop i es)) node names
      ≡ (condition x node names >>= (λ b. if b then all_read (map reading_of (drop (i + 1) es)) (node + nodes_of_cond x) names else Ok false))
  next_of_all node names = ap (λ l. all_read (map reading_of l) node names) (drop_next es i x below at)

  pub next_of_some : (node : ℕ) (names : List ℤ) → some_read (map reading_of (drop i es)) node names
      ≡ (condition x node names >>= (λ b. if b then Ok true else some_read (map reading_of (drop (i + 1) es)) (node + nodes_of_cond x) names))
  next_of_some node names = ap (λ l. some_read (map reading_of l) node names) (drop_next es i x below at)

-- ---- Entries, as the code takes them out of a condition

pub all_is : (c : Cond) (es slice : List Cond) → c ≡ d.All es → slice ≡ es → reading_of c ≡ reading_step (layer.All (map reading_of slice))
all_is c es slice is same = ap reading_of is ∙ all_here reading_step es ∙ ap (λ l. reading_step (layer.All (map reading_of l))) (sym same)

pub any_is : (c : Cond) (es slice : List Cond) → c ≡ d.Any es → slice ≡ es → reading_of c ≡ reading_step (layer.Any (map reading_of slice))
any_is c es slice is same = ap reading_of is ∙ any_here reading_step es ∙ ap (λ l. reading_step (layer.Any (map reading_of l))) (sym same)
