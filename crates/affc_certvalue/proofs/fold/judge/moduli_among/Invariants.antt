use Rattle.std.proofs.Common.{◌≡◌, drop}
use Rattle.serde_json.specs.View.{items_view}
use Rattle.affc_certvalue.specs.Verdicts.{worse, all_of}
use Rattle.affc_certvalue.specs.fold.Folds.{modulus}
use Rattle.affc_certvalue.proofs.fold.judge.moduli_among.Given as goal

abbrev pub invariant-loop-value : goal.invariant-loop-value
invariant-loop-value l = worse l.worst (all_of (modulus l.parameters) (items_view (drop l.value-index l.items))) ≡ all_of (modulus l.parameters) (items_view l.items)
