use Rattle.std.proofs.Common.{◌∙◌}
use Rattle.std.proofs.lemmas.Result.{IfOk-weaker}
use Rattle.affc_order.proofs.PlacedLemmas.{first_placed, second_placed}
use Rattle.affc_order.proofs.RowLemmas.{turned_systems_fit}
use Rattle.affc_order.proofs.order.target_after.Goals as goal

pub target_order-requires-clause-first : goal.target_order-requires-clause-first
target_order-requires-clause-first c =
    second_placed c.args.nest.now c.args.first c.args.second c.requires.second c.in_ok-pair.pair.columns c.in_ok-pair.ensures.columns c.as_slice-2.result.now (c.as_slice-2.ensures.value ∙ c.in_ok-pair.ensures.second)

pub target_order-requires-clause-second : goal.target_order-requires-clause-second
target_order-requires-clause-second c =
    first_placed c.args.nest.now c.args.first c.args.second c.requires.first c.in_ok-pair.pair.columns c.in_ok-pair.ensures.columns c.as_slice.result.now (c.as_slice.ensures.value ∙ c.in_ok-pair.ensures.first)

pub returns-clause-fit : goal.returns-clause-fit
returns-clause-fit c =
    IfOk-weaker c.target_order.result _ _
    (λ v e. turned_systems_fit c.args.nest.now c.args.first c.args.second c.in_ok-pair.pair.columns c.as_slice.result.now c.as_slice-2.result.now v.items c.in_ok-pair.ensures.columns (c.as_slice.ensures.value ∙ c.in_ok-pair.ensures.first)
    (c.as_slice-2.ensures.value ∙ c.in_ok-pair.ensures.second) c.args.schedule.now c.requires.asked c.requires.first c.requires.second e)
    c.target_order.ensures
