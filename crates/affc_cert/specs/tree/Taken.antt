-- A node that is taken from the front of a list, at the place that comes first.
use Rattle.affc_cert.specs.tree.Trees.{tree_nodes}
use Rattle.affc_cert.specs.declared.tree.kind.Place.{Place}
use Rattle.affc_cert.specs.declared.tree.layout.Store.{Store}
use Rattle.affc_certvalue.specs.Verdicts.{worse}
use Rattle.affc_certvalue.specs.declared.verdict.Verdict.{Verdict}
use Rattle.serde_json.specs.Data.{Data, Items, item}
use Rattle.std.specs.Prelude.{◌≡◌, List}

-- the verdict on nodes is the worse of this one on the first and that on the others, at the places that are open behind it
abbrev pub IsTaken : List Store → Data → Verdict → (before after : List Place) → Type 0
IsTaken statements d v before after = (ds : Items) → tree_nodes statements before (item d ds) ≡ worse v (tree_nodes statements after ds)
