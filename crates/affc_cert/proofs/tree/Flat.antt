-- The value of a tree has no float, and nests only a few levels.
use Rattle.affc_cert.specs.tree.Values.{test_node, div_node, source_node, input_node, tree_nodes_of, tree_value}
use Rattle.affc_certvalue.proofs.Flat.{IsFlat, AllFlat, list_flat, list_of_flat, both_flat, string_flat, form_flat, number_flat}
use Rattle.affc_certvalue.specs.Values.{whole_value, form_value, forms_value}
use Rattle.affc_quast.specs.Trees.{Tree, Test, Div, Source, Input}
use Rattle.affc_rows.specs.Forms.{Affine}
use Rattle.serde_json.specs.Data.{string}
use Rattle.std.proofs.Common.{ℕ, ℤ, pos, List, [], ◌∷◌, codes, arith}

-- ---- Trees

test_flat : (f : Affine) → IsFlat 3 (test_node f)
test_flat f =
    let all : AllFlat 2 (string (codes "t") ∷ form_value f ∷ []) = (string_flat 2 (codes "t"), (form_flat 2 f (omega arith), tt)) in
    list_flat 2 (string (codes "t") ∷ form_value f ∷ []) all

div_flat : (f : Affine) (by : ℤ) → IsFlat 3 (div_node f by)
div_flat f by =
    let all : AllFlat 2 (string (codes "d") ∷ form_value f ∷ whole_value by ∷ []) = (string_flat 2 (codes "d"), (form_flat 2 f (omega arith), (number_flat 2 by, tt))) in
    list_flat 2 (string (codes "d") ∷ form_value f ∷ whole_value by ∷ []) all

source_flat : (s : ℕ) (fs : List Affine) → IsFlat 3 (source_node s fs)
source_flat s fs =
    let all : AllFlat 2 (string (codes "w") ∷ whole_value (pos s) ∷ forms_value fs ∷ []) =
    (string_flat 2 (codes "w"), (number_flat 2 (pos s), (list_of_flat 1 form_value fs (λ f. form_flat 1 f (omega arith)), tt))) in
    list_flat 2 (string (codes "w") ∷ whole_value (pos s) ∷ forms_value fs ∷ []) all

input_flat : IsFlat 3 input_node
input_flat =
    let all : AllFlat 2 (string (codes "i") ∷ []) = (string_flat 2 (codes "i"), tt) in
    list_flat 2 (string (codes "i") ∷ []) all

tree_nodes_flat : (t : Tree) → AllFlat 3 (tree_nodes_of t)
tree_nodes_flat (Test f met missed) = (test_flat f, both_flat 3 (tree_nodes_of met) (tree_nodes_of missed) (tree_nodes_flat met) (tree_nodes_flat missed))
tree_nodes_flat (Div f by rest) = (div_flat f by, tree_nodes_flat rest)
tree_nodes_flat (Source s fs) = (source_flat s fs, tt)
tree_nodes_flat Input = (input_flat, tt)

pub tree_flat : (t : Tree) → IsFlat 4 (tree_value t)
tree_flat t = list_flat 3 (tree_nodes_of t) (tree_nodes_flat t)
