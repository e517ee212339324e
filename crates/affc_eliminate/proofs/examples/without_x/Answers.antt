use Rattle.std.proofs.Common.{sym, subst}
use Rattle.affc_farkas.proofs.Lists.{on_value}
use Rattle.affc_eliminate.specs.Steps.{AreReady, IsStep}
use Rattle.affc_eliminate.specs.Examples.{first_rows}
use Rattle.affc_eliminate.proofs.StepExamples.{ready}
use Rattle.affc_eliminate.proofs.examples.without_x.Goals as goal

pub eliminate-requires : goal.eliminate-requires
eliminate-requires g c = subst (λ rows. AreReady rows 0 4) (sym c.requires) ready

pub returns : goal.returns
returns g c =
    on_value c.eliminate.result (IsStep (g.F.Test.answers c.args.screen.now.test) c.args.rows.now 0 4) (IsStep (g.F.Test.answers c.args.screen.now.test) first_rows 0 4)
    (λ step h. subst (λ rows. IsStep (g.F.Test.answers c.args.screen.now.test) rows 0 4 step) c.requires h) c.eliminate.ensures
