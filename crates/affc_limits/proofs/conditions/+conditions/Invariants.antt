use Rattle.std.proofs.Common.{◌≡◌, map, drop, fold}
use Rattle.affc_syntax.specs.draft.Drafts.{cond}
use Rattle.affc_limits.specs.Conditions.{none, with_cond}
use Rattle.affc_limits.proofs.conditions.+conditions.Given as goal

abbrev pub invariant-count_each-loop-item : goal.invariant-count_each-loop-item
invariant-count_each-loop-item l = fold (with_cond l.all) l.made (map cond (drop l.item-index l.items)) ≡ fold (with_cond l.all) (none l.all) (map cond l.items)
