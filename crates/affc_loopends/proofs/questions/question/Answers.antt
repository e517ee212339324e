use Rattle.std.proofs.Common.{subst, sym, ap, ◌∙◌}
use Rattle.affc_system.specs.Systems.{IsRow, Rows}
use Rattle.affc_nest.specs.Domains.{with_rows}
use Rattle.affc_loopends.proofs.Asked.{below_row}
use Rattle.affc_loopends.proofs.questions.question.Goals as goal

pub add-requires-clause-row : goal.add-requires-clause-row
add-requires-clause-row c =
    subst (λ n. IsRow n c.in_ok-below.below) (sym (ap (λ (s : Rows). s.columns) (c.in_ok-add_rows.ensures ∙ ap (λ (s : Rows). with_rows s c.args.others.now) c.new-system.ensures)))
    (below_row c.args.columns c.args.row.now c.in_ok-below.below c.requires.row c.in_ok-below.ensures)
