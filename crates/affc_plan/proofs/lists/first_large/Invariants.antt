use Rattle.std.proofs.Common.{◌≡◌, map, drop}
use Rattle.affc_schedtext.specs.Terms.{term}
use Rattle.affc_schedtext.specs.Rules.{large_forms}
use Rattle.affc_plan.specs.Lines.{head}
use Rattle.affc_plan.specs.Seen.{columns_seen}
use Rattle.affc_plan.proofs.lists.first_large.Given as goal

abbrev pub invariant-loop-e : goal.invariant-loop-e
invariant-loop-e l = head (large_forms (columns_seen l.columns) (map term (drop l.e-index l.es))) ≡ head (large_forms (columns_seen l.columns) (map term l.es))
