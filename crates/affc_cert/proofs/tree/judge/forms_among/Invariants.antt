use Rattle.std.proofs.Common.{◌≡◌, drop}
use Rattle.serde_json.specs.View.{items_view}
use Rattle.affc_certvalue.specs.Verdicts.{worse}
use Rattle.affc_cert.specs.tree.Trees.{forms}
use Rattle.affc_cert.proofs.tree.judge.forms_among.Given as goal

abbrev pub invariant-loop-value : goal.invariant-loop-value
invariant-loop-value l = worse l.worst (forms l.columns (items_view (drop l.value-index l.items))) ≡ forms l.columns (items_view l.items)
