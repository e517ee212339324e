use Rattle.std.proofs.Common.{◌≡◌, drop}
use Rattle.serde_json.specs.View.{items_view}
use Rattle.affc_certvalue.specs.Verdicts.{worse, all_of, within}
use Rattle.affc_certvalue.proofs.judge.coefs_verdict.Given as goal

abbrev pub invariant-loop-value : goal.invariant-loop-value
invariant-loop-value l = worse l.worst (all_of (within l.most) (items_view (drop l.value-index l.items))) ≡ all_of (within l.most) (items_view l.items)
