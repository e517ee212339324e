use Rattle.std.proofs.Common.{subst}
use Rattle.std.specs.Prelude.{option_map}
use Rattle.affc_cli.specs.Budgets.{MadeWithin}
use Rattle.affc_cli.proofs.Priced.{pieces}
use Rattle.affc_cli.proofs.fold.fold.Goals as goal

pub returns-in-Ok-clause-ok : goal.returns-in-Ok-clause-ok
returns-in-Ok-clause-ok c =
    let source = c.args.source.now in
    let schedule = option_map (λ s. s.now) c.args.schedule in
    let made = c.in-Ok.field-0 in
    pieces (option_map (λ s. s.now) c.args.file) source schedule c.args.settings made c.certificate_text.result.items
    (subst (λ w. MadeWithin source schedule c.args.settings w made) c.wanted_for.ensures c.in-Ok.ensures.ok) c.certificate_text.ensures
