use Rattle.std.proofs.Common.{◌≡◌, map, take}
use Rattle.serde_json.specs.View.{view}
use Rattle.affc_certvalue.specs.fold.Values.{fold_value}
use Rattle.affc_certvalue.specs.fold.Drafts.{draft_entry}
use Rattle.affc_certvalue.proofs.fold.build.drafts_among.Given as goal

abbrev pub invariant-loop-value : goal.invariant-loop-value
invariant-loop-value l = map fold_value (map draft_entry l.drafts.items) ≡ map view (take l.value-index l.items)
