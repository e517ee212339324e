-- The JSON value of a source tree.
use Rattle.affc_certvalue.specs.Values.{list_value, whole_value, form_value, forms_value}
use Rattle.affc_quast.specs.Trees.{Tree, Test, Div, Source, Input}
use Rattle.affc_rows.specs.Forms.{Affine}
use Rattle.serde_json.specs.Data.{Data, string}
use Rattle.std.specs.Prelude.{ℕ, ℤ, pos, List, [], ◌∷◌, ◌++◌, codes}

-- ---- Trees

abbrev pub test_node : Affine → Data
test_node f = list_value (string (codes "t") ∷ form_value f ∷ [])

abbrev pub div_node : Affine → ℤ → Data
div_node f by = list_value (string (codes "d") ∷ form_value f ∷ whole_value by ∷ [])

abbrev pub source_node : ℕ → List Affine → Data
source_node statement fs = list_value (string (codes "w") ∷ whole_value (pos statement) ∷ forms_value fs ∷ [])

abbrev pub input_node : Data
input_node = list_value (string (codes "i") ∷ [])

-- the nodes of a tree in preorder, the yes part of a test first
abbrev pub tree_nodes_of : Tree → List Data
tree_nodes_of (Test form met missed) = test_node form ∷ (tree_nodes_of met ++ tree_nodes_of missed)
tree_nodes_of (Div form by rest) = div_node form by ∷ tree_nodes_of rest
tree_nodes_of (Source statement forms) = source_node statement forms ∷ []
tree_nodes_of Input = input_node ∷ []

abbrev pub tree_value : Tree → Data
tree_value t = list_value (tree_nodes_of t)
