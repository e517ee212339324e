use Rattle.std.proofs.Common.{◌≡◌, ◌+◌, ◌*◌, ◌≤◌, ◌<◌, IsTrue, drop, length, map}
use Rattle.affc_ast.specs.Fits.{all_true}
use Rattle.affc_ast.specs.Pieces.{added, comparisons_of}
use Rattle.affc_domain.specs.Plain.{plain_cond}
use Rattle.affc_nest.specs.Domains.{test_rows, with_rows}
use Rattle.affc_nest.specs.Frames.{tests_of_each}
use Rattle.affc_nest.proofs.domains.+conds.Given as goal

abbrev pub invariant-add_conds-loop-cond : goal.invariant-add_conds-loop-cond
invariant-add_conds-loop-cond l = record {
  plain : IsTrue (all_true (map (plain_cond l.names) (drop l.cond-index l.conds)));
  columns : l.system.columns ≡ l.names + l.more;
  room : length l.system.rows + 2 * added (map comparisons_of (drop l.cond-index l.conds)) < 1024;
  value : with_rows l.system (test_rows l.names l.more (tests_of_each l.is_denied (drop l.cond-index l.conds))) ≡ with_rows l.fn.system (test_rows l.names l.more (tests_of_each l.is_denied l.conds));
  grows : length l.system.rows + 2 * added (map comparisons_of (drop l.cond-index l.conds)) ≤ length l.fn.system.rows + 2 * added (map comparisons_of l.conds);
}
