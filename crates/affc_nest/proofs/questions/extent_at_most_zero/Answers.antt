use Rattle.std.proofs.Common.{◌<◌, length, subst, sym}
use Rattle.affc_system.specs.Systems.{Rows}
use Rattle.affc_nest.specs.Sides.{IsSide}
use Rattle.affc_nest.proofs.QuestionProofs.{nest_near, context_few, whole_few, extent_side}
use Rattle.affc_nest.proofs.questions.extent_at_most_zero.Goals as goal

pub whole_context-requires-clause-near : goal.whole_context-requires-clause-near
whole_context-requires-clause-near c = nest_near c.args.nest.now c.requires.nest

pub whole_context-requires-clause-room : goal.whole_context-requires-clause-room
whole_context-requires-clause-room c = context_few c.args.nest.now c.requires.nest

pub at_most-requires-clause-side : goal.at_most-requires-clause-side
at_most-requires-clause-side c =
    subst (λ (s : Rows). IsSide s.columns c.args.extent.now) (sym c.in_ok-system.ensures.value) (extent_side c.args.nest.now c.args.extent.now c.requires.nest c.requires.extent)

pub at_most-requires-clause-room : goal.at_most-requires-clause-room
at_most-requires-clause-room c = subst (λ (s : Rows). length s.rows < 1024) (sym c.in_ok-system.ensures.value) (whole_few c.args.nest.now c.requires.nest)
