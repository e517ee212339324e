use Rattle.std.proofs.Common.{◌≡◌, ◌++◌, true, map, drop}
use Rattle.affc_schedtext.specs.Terms.{term}
use Rattle.affc_schedtext.specs.Rules.{form_over}
use Rattle.affc_plan.specs.Lists.{are_slight_parts}
use Rattle.affc_plan.specs.Seen.{columns_seen}
use Rattle.affc_plan.proofs.lists.forms.Given as goal

abbrev pub invariant-loop-e : goal.invariant-loop-e
invariant-loop-e l = record {
  made : l.forms ++ map (form_over (columns_seen l.columns)) (map term (drop l.e-index l.es)) ≡ map (form_over (columns_seen l.columns)) (map term l.es);
  slight : are_slight_parts (columns_seen l.columns) (drop l.e-index l.es) ≡ true;
}
