use Rattle.std.proofs.Common.{sym, ◌∙◌}
use Rattle.affc_wellnamed.proofs.Decides.{kept_is_well_named, well_named_is_kept}
use Rattle.affc_wellnamed.proofs.well_named.Goals as goal

pub returns : goal.returns
returns c = (λ h. kept_is_well_named c.args.program.now (sym c.is_kept.ensures ∙ h), λ w. c.is_kept.ensures ∙ well_named_is_kept c.args.program.now w)
