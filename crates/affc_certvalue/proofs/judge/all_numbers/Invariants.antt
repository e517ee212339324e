use Rattle.std.proofs.Common.{◌≡◌, drop}
use Rattle.serde_json.specs.View.{items_view}
use Rattle.affc_certvalue.specs.Verdicts.{worse, all_of, any_number}
use Rattle.affc_certvalue.proofs.judge.all_numbers.Given as goal

abbrev pub invariant-loop-value : goal.invariant-loop-value
invariant-loop-value l = worse l.worst (all_of (any_number) (items_view (drop l.value-index l.items))) ≡ all_of (any_number) (items_view l.items)
