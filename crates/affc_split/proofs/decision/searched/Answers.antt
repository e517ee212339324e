use Rattle.std.proofs.Common.{rules, ◌∙◌, ap, sym, subst, length}
use Rattle.std.specs.List.{All}
use Rattle.affc_system.specs.Systems.{IsRow}
use Rattle.affc_farkas.specs.Proofs.{ValidProof}
use Rattle.affc_leaf.specs.Boxed.{with_box}
use Rattle.affc_leaf.specs.Bounds.{ranges_of}
use Rattle.affc_leaf.specs.Points.{IsLeastPoint}
use Rattle.affc_split.specs.Search.{IsFound}
use Rattle.affc_leaf.proofs.Whole.{whole_valid, ranges_back}
use Rattle.affc_split.specs.Searches.{AreFewerFor}
use Rattle.affc_split.proofs.Spending.{answer_known, failed_first, empty_spends, point_spends}
use Rattle.affc_split.proofs.decision.searched.Goals as goal

pub returns-in-Empty-clause-empty : goal.returns-in-Empty-clause-empty
returns-in-Empty-clause-empty c =
    let fit = subst (λ rs. All (IsRow c.args.system.now.columns) rs) c.rows-rows.ensures.rows c.rows-rows.ensures.fit in
    let a = subst (λ f. IsFound c.args.system.now c.args.bounds.now c.args.next f) c.in-Empty.is c.in_ok-proof.ensures.answer in
    subst (λ p. ValidProof (with_box c.args.system.now c.args.ranges.now) p) (sym c.into_inner.ensures)
    (whole_valid c.args.system.now c.args.ranges.now c.args.bounds.now c.args.next c.in-Empty.proof.value c.requires.columns c.requires.reach fit c.requires.bounds c.requires.next a)

pub returns-in-Point-clause-point : goal.returns-in-Point-clause-point
returns-in-Point-clause-point c =
    let a = subst (λ f. IsFound c.args.system.now c.args.bounds.now c.args.next f) c.in-Point.is c.in_ok-proof.ensures.answer in
    subst (λ rs. IsLeastPoint c.args.system.now rs c.in-Point.point.items) (ap ranges_of c.requires.bounds ∙ ranges_back (length c.args.system.now.rows) c.args.ranges.now) a

pub returns-in-Empty-clause-spends : goal.returns-in-Empty-clause-spends
returns-in-Empty-clause-spends c =
    empty_spends c.args.ranges.now (ranges_of c.args.bounds.now) c.args.budget.now _ c.in-Empty.proof c.into_inner.result c.in_ok-proof.field-0
    (ap ranges_of c.requires.bounds ∙ ranges_back (length c.args.system.now.rows) c.args.ranges.now) c.in-Empty.is c.into_inner.ensures c.in_ok-proof.ensures.spends

pub returns-in-Point-clause-spends : goal.returns-in-Point-clause-spends
returns-in-Point-clause-spends c =
    point_spends c.args.ranges.now (ranges_of c.args.bounds.now) c.args.budget.now _ c.in-Point.point c.in_ok-proof.field-0
    (ap ranges_of c.requires.bounds ∙ ranges_back (length c.args.system.now.rows) c.args.ranges.now) c.in-Point.is c.in_ok-proof.ensures.spends

pub returns-in-Some-clause-spends : goal.returns-in-Some-clause-spends
returns-in-Some-clause-spends c = answer_known c.args.ranges.now c.args.budget.now c.in-Some.answer

pub returns-in_err-answer-clause-spends : goal.returns-in_err-answer-clause-spends
returns-in_err-answer-clause-spends c = failed_first AreFewerFor 0 _ c.args.budget.now c.from_residual.result (search rules)
