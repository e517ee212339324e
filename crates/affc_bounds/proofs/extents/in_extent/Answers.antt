use Rattle.std.proofs.Common.{List, ℤ, Some, subst, sym}
use Rattle.affc_bounds.specs.Looks.{IsLeastIn}
use Rattle.affc_bounds.proofs.AliveLemmas.{params_reach}
use Rattle.affc_bounds.proofs.ExtentLemmas.{least_found}
use Rattle.affc_bounds.proofs.extents.in_extent.Goals as goal

pub least_point-requires-clause-reach : goal.least_point-requires-clause-reach
least_point-requires-clause-reach c = params_reach c.args.nest.now c.requires.nest

pub returns-clause-first : goal.returns-clause-first
returns-clause-first c =
    least_found c.args.nest.now c.args.array c.args.extent.now c.in_ok-question.question c.as_slice.result.now c.in_ok-found-in-Some.found c.in_ok-question.ensures
    (subst (λ (p : List ℤ). IsLeastIn c.in_ok-question.question c.args.nest.now.params (Some p)) (sym c.as_slice.ensures)
    (subst (IsLeastIn c.in_ok-question.question c.args.nest.now.params) c.in-Some.is c.in_ok-least_point.ensures.least))
    c.in_ok-found-in-Some.ensures.key c.in_ok-found-in-Some.ensures.fault
