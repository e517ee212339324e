use Rattle.std.proofs.Common.{◌≡◌, true, ◌++◌, drop, map}
use Rattle.affc_ast.specs.Fits.{all_true}
use Rattle.affc_scan.specs.Conditions.{moved_each}
use Rattle.affc_scan.specs.InSight.{cond_in_sight}
use Rattle.affc_scan.proofs.moved.+conds.Given as goal

abbrev pub invariant-moved_conds-loop-cond : goal.invariant-moved_conds-loop-cond
invariant-moved_conds-loop-cond l = record {
  seen : all_true (map cond_in_sight (drop l.cond-index l.conds)) ≡ true;
  made : l.made ++ moved_each l.first l.more l.is_denied (drop l.cond-index l.conds) ≡ moved_each l.first l.more l.is_denied l.conds;
}
