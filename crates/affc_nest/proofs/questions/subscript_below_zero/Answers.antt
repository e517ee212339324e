use Rattle.std.proofs.Common.{◌<◌, length, subst, sym}
use Rattle.affc_system.specs.Systems.{Rows}
use Rattle.affc_nest.specs.Sides.{IsSide}
use Rattle.affc_nest.proofs.QuestionProofs.{sub_side, domain_few}
use Rattle.affc_nest.proofs.questions.subscript_below_zero.Goals as goal

pub at_most-requires-clause-side : goal.at_most-requires-clause-side
at_most-requires-clause-side c =
    subst (λ (s : Rows). IsSide s.columns c.args.sub.now) (sym c.in_ok-domain.ensures.cases) (sub_side c.args.nest.now c.args.entry.now c.args.sub.now c.requires.nest c.requires.entry c.requires.sub)

pub at_most-requires-clause-room : goal.at_most-requires-clause-room
at_most-requires-clause-room c =
    subst (λ (s : Rows). length s.rows < 1024) (sym c.in_ok-domain.ensures.cases) (domain_few c.args.nest.now c.args.entry.now c.requires.nest c.requires.entry)
