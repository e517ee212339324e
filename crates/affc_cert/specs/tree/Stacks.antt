-- The nodes of the trees of a stack, whose last comes first.
use Rattle.affc_cert.specs.tree.Values.{tree_nodes_of}
use Rattle.affc_quast.specs.Seen as quast
use Rattle.affc_quast.specs.declared.quast.Quast.{Quast}
use Rattle.serde_json.specs.Data.{Data}
use Rattle.std.specs.Prelude.{List, [], ◌∷◌, ◌++◌}

abbrev pub tree_stack_nodes : List Quast → List Data
tree_stack_nodes [] = []
tree_stack_nodes (t ∷ ts) = tree_stack_nodes ts ++ tree_nodes_of (quast.seen t)
