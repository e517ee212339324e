use Rattle.std.proofs.Common.{◌≡◌, ◌+◌, ◌*◌, ◌≤◌, subst, length, IfOk, IfErr, Some, ◌⊎◌}
use Rattle.std.specs.List.{All}
use Rattle.affc_system.specs.Systems.{IsRow, IsPoint}
use Rattle.affc_farkas.specs.Proofs.{ValidProof}
use Rattle.affc_leaf.specs.Boxed.{with_box, IsLeafProof, IsHard}
use Rattle.affc_split.specs.Answers.{IfEmpty, IfPoint}
use Rattle.affc_leaf.specs.Points.{points, low_corner, IsLeastPoint}
use Rattle.affc_split.specs.Openings.{Opened}
use Rattle.affc_split.specs.declared.budget.Stop.TheVariants.{Budget}
use Rattle.affc_split.proofs.Answers.{none_answer}
use Rattle.affc_split.proofs.Openings.{whole_opened}
use Rattle.affc_split.proofs.Spending.{costs_less, stops_short}
use Rattle.affc_split.proofs.decision.decide.Goals as goal

pub returns-clause-empty : goal.returns-clause-empty
returns-clause-empty c = subst (λ rs. IfOk c.decided.result (λ a. IfEmpty a (λ p. ValidProof (with_box c.args.system.now rs) p))) c.ranges-ranges.ensures.ranges c.decided.ensures.empty

pub returns-clause-none : goal.returns-clause-none
returns-clause-none c =
    let fit = subst (λ z. All (IsRow c.args.system.now.columns) z) c.rows-rows.ensures.rows c.rows-rows.ensures.fit in
    let valid = subst (λ rs. IfOk c.decided.result (λ a. IfEmpty a (λ p. ValidProof (with_box c.args.system.now rs) p))) c.ranges-ranges.ensures.ranges c.decided.ensures.empty in
    none_answer c.args.system.now c.args.ranges.now c.decided.result c.requires.columns c.requires.reach fit valid

pub returns-clause-leaf : goal.returns-clause-leaf
returns-clause-leaf c = subst (λ rs. length c.args.system.now.rows + 2 * c.args.system.now.columns ≤ 1024 → IfOk c.decided.result (λ a. IfEmpty a (λ p. IsLeafProof p ⊎ IsHard (with_box c.args.system.now rs)))) c.ranges-ranges.ensures.ranges c.decided.ensures.leaf

pub returns-clause-point : goal.returns-clause-point
returns-clause-point c = subst (λ rs. IfOk c.decided.result (λ a. IfPoint a (IsLeastPoint c.args.system.now rs))) c.ranges-ranges.ensures.ranges c.decided.ensures.point

pub returns-clause-cost : goal.returns-clause-cost
returns-clause-cost c = subst (λ rs. c.decided.new.budget.spent + 1 ≤ c.args.budget.now.spent + 2 * points rs) c.ranges-ranges.ensures.ranges
    (costs_less _ c.args.budget.now c.decided.new.budget c.decided.result c.decided.ensures.spends)

pub returns-clause-unit : goal.returns-clause-unit
returns-clause-unit c = subst (λ rs. length c.args.system.now.rows + 2 * c.args.system.now.columns ≤ 1024 → (c.decided.new.budget.spent ≤ c.args.budget.now.spent + 1) ⊎ IsHard (with_box c.args.system.now rs)) c.ranges-ranges.ensures.ranges c.decided.ensures.unit

pub returns-clause-opened : goal.returns-clause-opened
returns-clause-opened c = subst (λ rs. IfOk c.decided.result (Opened rs c.args.budget.now c.decided.new.budget)) c.ranges-ranges.ensures.ranges
    (whole_opened c.args.system.now _ c.args.budget.now c.decided.new.budget c.decided.result c.decided.ensures.point c.decided.ensures.spends.opened)

pub returns-clause-short : goal.returns-clause-short
returns-clause-short c = subst (λ rs. IfErr c.decided.result (λ e. e ≡ Budget → c.decided.new.budget.spent + 2 ≤ c.args.budget.now.spent + 2 * points rs)) c.ranges-ranges.ensures.ranges
    (stops_short _ c.args.budget.now c.decided.new.budget c.decided.result c.decided.ensures.spends)

pub returns-clause-hard : goal.returns-clause-hard
returns-clause-hard c = subst (λ rs. length c.args.system.now.rows + 2 * c.args.system.now.columns ≤ 1024 → IfErr c.decided.result (λ e. e ≡ Budget → (c.args.budget.now.limit ≡ Some c.args.budget.now.spent) ⊎ IsHard (with_box c.args.system.now rs))) c.ranges-ranges.ensures.ranges c.decided.ensures.hard

pub returns-clause-corner : goal.returns-clause-corner
returns-clause-corner c = subst (λ rs. IsPoint c.args.system.now (low_corner rs) → c.decided.new.budget.spent ≤ c.args.budget.now.spent + 1) c.ranges-ranges.ensures.ranges c.decided.ensures.corner

pub returns-clause-corner_stop : goal.returns-clause-corner_stop
returns-clause-corner_stop c = subst (λ rs. IfErr c.decided.result (λ e. e ≡ Budget → IsPoint c.args.system.now (low_corner rs) → c.args.budget.now.limit ≡ Some c.args.budget.now.spent)) c.ranges-ranges.ensures.ranges c.decided.ensures.corner_stop

pub returns-clause-later : goal.returns-clause-later
returns-clause-later c = c.decided.ensures.spends.later

pub returns-clause-stop : goal.returns-clause-stop
returns-clause-stop c = c.decided.ensures.spends.stop
