use Rattle.std.proofs.Common.{◌≡◌, drop, pos}
use Rattle.serde_json.specs.View.{items_view}
use Rattle.affc_certvalue.specs.Verdicts.{worse, all_of, list, many, within}
use Rattle.affc_certvalue.proofs.fold.judge.rows_among.Given as goal

abbrev pub invariant-loop-value : goal.invariant-loop-value
invariant-loop-value l = worse l.worst (all_of (list (many l.count (within (pos 256)))) (items_view (drop l.value-index l.items))) ≡ all_of (list (many l.count (within (pos 256)))) (items_view l.items)
