use Rattle.std.proofs.Common.{◌∙◌, ◌+◌, ◌*◌, ap, sym, subst, length, arith, ◌≤◌}
use Rattle.affc_leaf.specs.Parts.{Ready, box_bounds}
use Rattle.affc_leaf.proofs.Whole.{whole_ready, ranges_back}
use Rattle.affc_leaf.specs.Bounds.{size}
use Rattle.affc_leaf.specs.Points.{points}
use Rattle.affc_split.proofs.decision.whole.Goals as goal

pub returns-clause-ready : goal.returns-clause-ready
returns-clause-ready c =
    let len = ap length c.rows.ensures.rows in
    let e = c.in_ok-bounds.ensures ∙ ap (λ n. box_bounds n c.args.ranges.now) len in
    let few : length c.args.system.now.rows ≤ 1024 = omega (arith, c.rows.ensures.few, len) in
    let small : c.args.system.now.columns ≤ 128 = omega (arith, c.columns-columns.ensures.value, c.columns-columns.ensures.few) in
    subst (λ v. Ready c.args.system.now.columns v (length c.args.system.now.rows + 2 * c.args.system.now.columns) (62 * c.args.system.now.columns)) (sym e)
    (whole_ready c.args.system.now.columns (length c.args.system.now.rows) c.args.ranges.now c.requires.columns small few c.requires.ordered c.requires.reach)

pub returns-clause-count : goal.returns-clause-count
returns-clause-count c =
    let len = ap length c.rows.ensures.rows in
    let e = c.in_ok-bounds.ensures ∙ ap (λ n. box_bounds n c.args.ranges.now) len in
    ap size e ∙ ap points (ranges_back (length c.args.system.now.rows) c.args.ranges.now)
