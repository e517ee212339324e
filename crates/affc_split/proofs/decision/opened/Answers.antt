use Rattle.std.proofs.Common.{rules, ◌≡◌, ◌∙◌, ap, sym, subst, length, ℕ, List, ℤ, Ok, Err}
use Rattle.std.specs.Prelude.{IfSome, IfNone, IfErr}
use Rattle.affc_system.specs.Systems.{Rows, IsPoint}
use Rattle.affc_simplex.specs.declared.bounds.Bound.{Bound}
use Rattle.affc_leaf.specs.Bounds.{lows}
use Rattle.affc_leaf.specs.Points.{low_corner}
use Rattle.affc_leaf.specs.Parts.{IsLeast, box_bounds}
use Rattle.affc_leaf.proofs.Whole.{lows_back}
use Rattle.affc_split.specs.declared.budget.Stop.TheVariants.{Budget}
use Rattle.affc_split.specs.declared.search.Answer.TheVariants as answer
use Rattle.affc_split.specs.Searches.{AreFewerFor}
use Rattle.affc_split.proofs.Answers.{least_of_box}
use Rattle.affc_split.proofs.Spending.{answer_known, failed_first}
use Rattle.affc_split.proofs.decision.opened.Goals as goal

no_corner : (system : Rows) (n : ℕ) (ranges : List (ℤ × ℤ)) (bs : List Bound) → bs ≡ box_bounds n ranges → (IsPoint system (lows bs) → ⊥) → IsPoint system (low_corner ranges) → ⊥
no_corner system n ranges bs e none p = none (subst (λ x. IsPoint system x) (sym (ap lows e ∙ lows_back n ranges)) p)

pub returns-in_err-bounds-clause-spends : goal.returns-in_err-bounds-clause-spends
returns-in_err-bounds-clause-spends c = failed_first AreFewerFor 0 _ c.args.budget.now c.from_residual.result (search rules)

pub returns-in_err-corner-clause-spends : goal.returns-in_err-corner-clause-spends
returns-in_err-corner-clause-spends c = failed_first AreFewerFor 0 _ c.args.budget.now c.from_residual-in_err-corner.result (search rules)

pub returns-in-Some-clause-spends : goal.returns-in-Some-clause-spends
returns-in-Some-clause-spends c = answer_known c.args.ranges.now c.args.budget.now (answer.Point c.in-Some.corner)

pub returns-in-Some-clause-point : goal.returns-in-Some-clause-point
returns-in-Some-clause-point c =
    let system = c.args.system.now in
    let n = length system.rows in
    let bs = c.as_slice.result.now in
    let e : bs ≡ box_bounds n c.args.ranges.now = c.as_slice.ensures.value ∙ c.in_ok-bounds.ensures.value in
    least_of_box system n c.args.ranges.now bs c.in-Some.corner.items e (subst (λ o. IfSome o (λ v. IsLeast system bs v.items)) c.in-Some.is c.in_ok-corner.ensures.least)

pub returns-clause-corner_stop : goal.returns-clause-corner_stop
returns-clause-corner_stop c =
    let system = c.args.system.now in
    let bs = c.as_slice.result.now in
    let e : bs ≡ box_bounds (length system.rows) c.args.ranges.now = c.as_slice.ensures.value ∙ c.in_ok-bounds.ensures.value in
    let none = subst (λ o. IfNone o (IsPoint system (lows bs) → ⊥)) c.in_default.is c.in_ok-corner.ensures.none in
    let no = no_corner system (length system.rows) c.args.ranges.now bs e none in
    elim c.behind_corner.result as (λ r. IfErr r (λ s. s ≡ Budget → IsPoint system (low_corner c.args.ranges.now) → ⊥)) [ Ok a ↦ tt | Err s ↦ λ b. no ]

pub returns-clause-corner : goal.returns-clause-corner
returns-clause-corner c =
    let system = c.args.system.now in
    let bs = c.as_slice.result.now in
    let e : bs ≡ box_bounds (length system.rows) c.args.ranges.now = c.as_slice.ensures.value ∙ c.in_ok-bounds.ensures.value in
    let none = subst (λ o. IfNone o (IsPoint system (lows bs) → ⊥)) c.in_default.is c.in_ok-corner.ensures.none in
    λ p. absurd (no_corner system (length system.rows) c.args.ranges.now bs e none p)
